-- The leader of a view by the list in the memory: it is 01's where the list is 0 to n - 1, and where the code finds it. Assumes nothing.
use mathlib.Core.Path.{◌≡◌, sym, ◌∙◌}
use mathlib.Core.List.{List}
use Prim.Native.Nat.{ℕ, ◌+◌, ◌-◌, ◌%◌, ◌≤◌, ◌<◌}
use native.Mathlib.Nat.{mod-lt}
use native.Mathlib.Omega.{arith}
use lib.ListN.{length, get_or}
use lib.Seq.{length-take-le, get_or-take}
use Rattle.settings.specs.Quorum.{replicas}
use Rattle.settings.specs.Opening.{most_leaders, in_turn}
use Rattle.settings.proofs.Leaders.{length_numbers, get_numbers}
use Rattle.codec.specs.Bytes.{part}
use Rattle.codec.proofs.Laws.{length-part, get_or-part}
use Rattle.memory.specs.Layout.{leaders_place, entry_place, settings_of, leader_count_of, leaders_of}
use Rattle.memory.specs.Leaders.{entry_for, by_list, round_robin}

-- where the list is 0 to n - 1, it is 01's leader
pub in_turn_is : (m : List ℕ) → leaders_of m ≡ in_turn (replicas (settings_of m)) → (v : ℕ) → by_list m v ≡ round_robin m v
unfolding by_list round_robin entry_for
in_turn_is m e v =
    let n = replicas (settings_of m) in
    rw (e, length_numbers 0 n) (let h = get_numbers 0 n ((v - 1) % n) (mod-lt (v - 1) (omega arith)) in omega (arith, h))

-- ---- where the code finds it
module _ (m : List ℕ) (long : entry_place ≤ length m) (most : leader_count_of m ≤ most_leaders) where
  length_leaders : length (leaders_of m) ≡ leader_count_of m
  unfolding leaders_of
  length_leaders = length-take-le (leader_count_of m) (part m leaders_place most_leaders) (omega (arith, length-part m leaders_place most_leaders (omega arith)))

  pub leader_at : (v : ℕ) → 0 < leader_count_of m → get_or m (leaders_place + (v - 1) % leader_count_of m) 0 ≡ by_list m v
  unfolding by_list entry_for leaders_of
  leader_at v some =
      rw length_leaders
      (let i = (v - 1) % leader_count_of m in
      let less : i < leader_count_of m = mod-lt (v - 1) some in
      sym (get_or-take (leader_count_of m) (part m leaders_place most_leaders) i 0 less ∙ get_or-part m leaders_place most_leaders i 0 (omega arith)))

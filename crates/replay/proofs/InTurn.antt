-- The leader list 0 to n - 1 of the run program: the first n of the numbers that are put, and where n is too large any list opens as little. Assumes nothing.
use Prim.Native.Nat.{ℕ, ◌+◌, ◌≤◌, ◌<◌}
use native.Mathlib.Nat.{zero-add}
use native.Mathlib.Omega.{arith}
use mathlib.Core.Path.{◌≡◌, refl, sym, ap, ◌∙◌}
use mathlib.Core.Bool.{Bool, true, false, not, cond}
use mathlib.Core.List.{List}
use Rattle.std.specs.Prelude.{Option, Some, None}
use borrow.Author.Tests.{lt-ltb, leb-true, leb-false}
use lib.Dec.{eqb, leb}
use lib.ListN.{length, drop, set, get_or, drop_of_length-le}
use Rattle.settings.specs.Answer.{Answer, refuses, judge}
use Rattle.settings.specs.Quorum.{largest, replicas}
use Rattle.settings.specs.Opening.{opening_rules, in_turn}
use Rattle.settings.proofs.Leaders.{length_numbers, get_numbers, first_numbers}
use Rattle.codec.specs.Bytes.{part, patch}
use Rattle.codec.proofs.Laws.{length-patch, patch_nil, patch_turn, part_same, part-part}
use Rattle.protocol.specs.Work.{Work}
use Rattle.protocol.specs.Calls.{Replica, opening_core, opening_call}
use Rattle.replay.specs.declared.Opening.{Opening}
use Rattle.replay.specs.Replay.{opens, opens_with}

-- ---- they are put, one after another
abbrev all : List ℕ
all = in_turn largest

pub turn_put : (s : List ℕ) (i : ℕ) → i < largest → patch (set s i i) (i + 1) (drop (i + 1) all) ≡ patch s i (drop i all)
turn_put s i h =
    let number : get_or all i 0 ≡ i = get_numbers 0 largest i h ∙ zero-add i in
    rw (number, zero-add i, zero-add (i + 1)) at (patch_turn s 0 i all (omega (arith, length_numbers 0 largest)))

pub end_put : (s : List ℕ) (i : ℕ) → largest ≤ i → patch s i (drop i all) ≡ s
end_put s i h = let over : length all ≤ i = omega (arith, length_numbers 0 largest) in ap (patch s i) (drop_of_length-le all over) ∙ patch_nil s i

-- ---- the first n of them
first_put : (b : List ℕ) (n : ℕ) → largest ≤ length b → n ≤ largest → part (patch b 0 (in_turn largest)) 0 n ≡ in_turn n
unfolding part
first_put b n long few =
    sym (part-part (patch b 0 (in_turn largest)) 0 largest 0 n (simp length-patch (omega arith)) (omega arith))
    ∙ (ap (λ (l : List ℕ). part l 0 n) (part_same b 0 (in_turn largest) largest (length_numbers 0 largest) (omega arith)) ∙ first_numbers 0 n largest few)

-- "n at most 32": settings with more replicas are refused by 1 before the list is asked
too_many : (r : Replica) (f c k n own : ℕ) (leaders : List ℕ) → largest < n → opening_core r f c k n own leaders ≡ refuses 1
unfolding opening_core opening_rules judge
too_many r f c k n own leaders h = rw (lt-ltb _ _ h) (either (not (eqb n (replicas (record { f = f; c = c; k = k })))))
  where
    either : (t : Bool) → cond {A = Answer Work} t (refuses 1) (refuses 1) ≡ refuses 1
    either true = refl
    either false = refl

-- so an opening with the first n of the numbers is the program's
pub opens-in_turn : (b b' : List ℕ) → largest ≤ length b → b' ≡ patch b 0 (in_turn largest) → (r : Replica) (o : Option Opening) → opens_with (part b' 0) r o ≡ opens r o
unfolding opens_with opening_call
opens-in_turn b b' long e r None = refl
opens-in_turn b b' long e r (Some o) = go (leb o.n largest) refl
  where
    go : (t : Bool) → leb o.n largest ≡ t → opens_with (part b' 0) r (Some o) ≡ opens r (Some o)
    go true h = ap (λ (l : List ℕ). opens_with (λ _. l) r (Some o)) (ap (λ (m : List ℕ). part m 0 o.n) e ∙ first_put b o.n long (leb-true _ _ h))
    go false h =
        let more = leb-false _ _ h in
        rw (too_many r o.f o.c o.k o.n o.own (part b' 0 o.n) more, too_many r o.f o.c o.k o.n o.own (in_turn o.n) more)

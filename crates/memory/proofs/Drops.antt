-- One turn of the loops that drop what leaves a window, and their end. Assumes nothing.
use mathlib.Core.Path.{◌≡◌}
use mathlib.Core.List.{List}
use Prim.Native.Nat.{ℕ, suc, ◌+◌, ◌-◌, ◌≤◌, ◌<◌}
use native.Mathlib.Omega.{arith}
use lib.ListN.{length}
use Rattle.codec.proofs.Laws.{length-patch}
use Rattle.memory.specs.Layout.{vote_row, commit_row, timeout_row}
use Rattle.memory.specs.Kept.{cleared}
use Rattle.memory.specs.Window.{without_ballots, without_timeouts}

pub length-cleared : (m : List ℕ) (row width : ℕ) → length (cleared m row width) ≡ length m
unfolding cleared
length-cleared m row width = length-patch m row _

module _ (m : List ℕ) (from k i : ℕ) where
  pub ballots_on : i < k → without_ballots m (from + i) (k - i) ≡ without_ballots (cleared (cleared m (vote_row (from + i)) 32) (commit_row (from + i)) 32) (from + (i + 1)) (k - (i + 1))
  unfolding without_ballots
  ballots_on h = let e : k - i ≡ suc (k - (i + 1)) = omega arith in let f : from + (i + 1) ≡ suc (from + i) = omega arith in rw (e, f)

  pub ballots_end : k ≤ i → without_ballots m (from + i) (k - i) ≡ m
  unfolding without_ballots
  ballots_end h = let e : k - i ≡ 0 = omega arith in rw e

  pub timeouts_on : i < k → without_timeouts m (from + i) (k - i) ≡ without_timeouts (cleared m (timeout_row (from + i)) 112) (from + (i + 1)) (k - (i + 1))
  unfolding without_timeouts
  timeouts_on h = let e : k - i ≡ suc (k - (i + 1)) = omega arith in let f : from + (i + 1) ≡ suc (from + i) = omega arith in rw (e, f)

  pub timeouts_end : k ≤ i → without_timeouts m (from + i) (k - i) ≡ m
  unfolding without_timeouts
  timeouts_end h = let e : k - i ≡ 0 = omega arith in rw e

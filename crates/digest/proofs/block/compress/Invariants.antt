use mathlib.Core.Path.{◌≡◌}
use Prim.Native.Nat.{◌-◌, ◌%◌, ◌≤◌}
use Rattle.digest.specs.Sha256.{next}
use Rattle.digest.specs.Turns.{run, word_of, turns}
use Rattle.digest.proofs.block.compress.Given as goal

abbrev pub invariant-loop-t : goal.invariant-loop-t
invariant-loop-t l = (l.t ≤ 16) × ((l.t % 8 ≡ 0) × (run l.w l.v ≡ turns (word_of l.m) l.k 0 l.t (run l.initial.w l.initial.v)))

abbrev pub invariant-loop-t-2 : goal.invariant-loop-t-2
invariant-loop-t-2 l = (16 ≤ l.t) × ((l.t ≤ 64) × ((l.t % 8 ≡ 0) × (run l.w l.v ≡ turns next l.k 16 (l.t - 16) (run l.initial.w l.initial.v))))

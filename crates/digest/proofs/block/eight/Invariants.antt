use Rattle.std.proofs.Common.{◌≡◌, ℕ, List}
use Rattle.digest.specs.Turns.{Makes, run, turns}
use Rattle.digest.proofs.block.eight.Given as goal

abbrev pub invariant-loop-i : goal.invariant-loop-i
invariant-loop-i g l = (f : ℕ → List ℕ → ℕ) → Makes (goal.F-post g l.word) f l.fn.t → run l.w l.v ≡ turns f l.k l.fn.t l.i (run l.initial.w l.initial.v)

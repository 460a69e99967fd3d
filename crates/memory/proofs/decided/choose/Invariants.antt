use mathlib.Core.Path.{◌≡◌}
use Rattle.memory.specs.Decided.{choice_of, backed, choose}
use Rattle.memory.proofs.decided.choose.Given as goal

abbrev pub invariant-loop-i : goal.invariant-loop-i
invariant-loop-i l = choice_of l.best ≡ choose l.mem l.row (backed l.mem l.row l.n l.quorum) (choice_of l.after) (choice_of l.fn.first) l.i

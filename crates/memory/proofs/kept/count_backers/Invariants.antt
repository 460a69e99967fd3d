use mathlib.Core.Path.{◌≡◌}
use Rattle.memory.specs.Kept.{tally}
use Rattle.memory.proofs.kept.count_backers.Given as goal

abbrev pub invariant-loop-i : goal.invariant-loop-i
invariant-loop-i l = l.c ≡ tally l.mem l.row l.name l.i

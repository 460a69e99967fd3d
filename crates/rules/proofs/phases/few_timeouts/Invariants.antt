use Prim.Native.Nat.{◌-◌}
use mathlib.Core.Path.{◌≡◌}
use Rattle.rules.specs.Phases.{echoable, nowhere}
use Rattle.rules.proofs.phases.few_timeouts.Given as goal

abbrev pub invariant-loop-at : goal.invariant-loop-at
invariant-loop-at l = nowhere (echoable l.mem l.s l.timed.0) l.first (l.end - l.first) ≡ nowhere (echoable l.mem l.s l.timed.0) l.at (l.end - l.at)

use Prim.Native.Nat.{◌-◌}
use mathlib.Core.Path.{◌≡◌}
use Rattle.rules.specs.Phases.{certifiable, nowhere}
use Rattle.rules.proofs.phases.few_votes.Given as goal

abbrev pub invariant-loop-at : goal.invariant-loop-at
invariant-loop-at l = nowhere (certifiable l.mem l.s l.lock) l.first (l.end - l.first) ≡ nowhere (certifiable l.mem l.s l.lock) l.at (l.end - l.at)

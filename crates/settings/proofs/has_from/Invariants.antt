use mathlib.Core.Path.{◌≡◌}
use lib.ListN.{drop}
use Rattle.settings.specs.Opening.{has_from}
use Rattle.settings.proofs.has_from.Given as goal

abbrev pub invariant-loop-leader : goal.invariant-loop-leader
invariant-loop-leader l = has_from l.n l.leaders ≡ has_from l.n (drop l.leader-index l.leaders)

-- What is still to find from the place on is what was to find; the views and the names that are still to search grow fewer.
use Prim.Native.Nat.{◌+◌, ◌<◌, ◌^◌}
use mathlib.Core.Path.{◌≡◌}
use Rattle.release.specs.Search.{seen, target_from, steps_left}
use Rattle.release.proofs.target_from.Given as goal

abbrev pub invariant-search : goal.invariant-search
invariant-search l = (target_from l.p (seen l.tip l.mem l.store) ≡ target_from l.fn.first (seen l.tip l.mem l.store)) × (l.p.view.0 + l.p.views < 2 ^ 63)

abbrev pub decreases-search : goal.decreases-search
decreases-search l = steps_left l.p

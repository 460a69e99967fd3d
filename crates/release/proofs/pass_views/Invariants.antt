use Prim.Native.Nat.{◌+◌, ◌^◌, ◌<◌}
use mathlib.Core.Path.{◌≡◌}
use Rattle.release.specs.Search.{passed}
use Rattle.release.proofs.pass_views.Given as goal

abbrev pub invariant-loop-p : goal.invariant-loop-p
invariant-loop-p l = (l.p.view.0 + l.p.views < 2 ^ 63) × (passed l.mem l.p ≡ passed l.mem l.initial.p)

abbrev pub decreases-loop-p : goal.decreases-loop-p
decreases-loop-p l = l.p.views

use mathlib.Core.Path.{◌≡◌}
use Rattle.release.specs.Search.{views_after}
use Rattle.release.proofs.views_after.Given as goal

abbrev pub invariant-loop-k : goal.invariant-loop-k
invariant-loop-k l = views_after l.mem l.first.0 l.k ≡ views_after l.mem l.first.0 l.most

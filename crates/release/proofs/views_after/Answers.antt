use mathlib.Core.Path.{sym, ◌∙◌}
use native.Mathlib.Omega.{arith}
use Rattle.release.proofs.Search.{after_on, after_stop, after_end}
use Rattle.release.proofs.views_after.Goals as goal

pub returns-then-not-decides_nothing : goal.returns-then-not-decides_nothing
returns-then-not-decides_nothing c = let l = c.loop-k in after_stop _ _ l.k (omega (arith, c.loop-k-test.true)) (sym c.decides_nothing.ensures ∙ c.if-not-decides_nothing.true) ∙ l.invariant

pub loop-k-preserved : goal.loop-k-preserved
loop-k-preserved c = let l = c.loop-k in sym (after_on _ _ l.k (omega (arith, c.loop-k-test.true)) (sym c.decides_nothing.ensures ∙ c.if-not-decides_nothing.false)) ∙ l.invariant

pub returns : goal.returns
returns c = let l = c.loop-k in after_end _ _ l.k (omega (arith, c.loop-k-test.false)) ∙ l.invariant

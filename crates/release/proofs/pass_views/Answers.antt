use Prim.Native.Nat.{◌≤◌}
use mathlib.Core.Path.{sym, ap, ◌∙◌}
use native.Mathlib.Omega.{arith}
use Rattle.release.specs.declared.Place.{Place}
use Rattle.release.specs.Search.{passed}
use Rattle.release.proofs.Search.{pass_on, pass_stop, pass_end}
use Rattle.release.proofs.pass_views.Goals as goal

pub loop-p-preserved : goal.loop-p-preserved
loop-p-preserved c =
    let l = c.loop-p in
    let e = c.at_next_view-p.ensures in
    let more : 1 ≤ l.p.views = omega (arith, c.loop-p-test.true) in
    let few = sym c.decides_nothing.ensures ∙ c.if-decides_nothing.true in
    (omega (arith, l.invariant.0, more, ap (λ (z : Place). z.view.0) e, ap (λ (z : Place). z.views) e), ap (λ (z : Place). passed c.args.mem.now z) e ∙ pass_on c.args.mem.now l.p more few ∙ l.invariant.1)

pub returns-else-decides_nothing : goal.returns-else-decides_nothing
returns-else-decides_nothing c = pass_stop _ c.loop-p.p (sym c.decides_nothing.ensures ∙ c.if-decides_nothing.false) ∙ c.loop-p.invariant.1

pub returns-after-loop-p : goal.returns-after-loop-p
returns-after-loop-p c = pass_end _ c.loop-p.p (omega (arith, c.loop-p-test.false)) ∙ c.loop-p.invariant.1

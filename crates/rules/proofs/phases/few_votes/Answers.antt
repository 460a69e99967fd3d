use Prim.Native.Nat.{suc, ◌+◌}
use mathlib.Core.Path.{◌≡◌, refl, sym, ◌∙◌}
use Rattle.memory.specs.Window.{highest}
use Rattle.rules.specs.Phases.{certifiable}
use Rattle.rules.proofs.Quiet.{nowhere_on, nowhere_off, nowhere_end, votes_are}
use native.Mathlib.Omega.{arith}
use Rattle.rules.proofs.phases.few_votes.Goals as goal

pub loop-at-init : goal.loop-at-init
loop-at-init c = refl

pub certifiable-requires : goal.certifiable-requires
certifiable-requires c = (c.requires.0, rw c.settings-s.ensures c.requires.1.0)

pub returns-then-certifiable : goal.returns-then-certifiable
returns-then-certifiable c =
    let e : c.highest-end.result.0 + 1 ≡ suc (highest c.args.view.0) = omega (arith, c.highest-end.ensures) in
    nowhere_off (certifiable _ _ c.args.lock) _ c.loop-at.at c.loop-at-test.true (sym c.certifiable.ensures ∙ c.if-certifiable.true) ∙ sym c.loop-at.invariant ∙ votes_are _ _ c.settings-s.ensures e _ _ c.lowest-first.ensures

pub loop-at-preserved : goal.loop-at-preserved
loop-at-preserved c = c.loop-at.invariant ∙ nowhere_on (certifiable _ _ c.args.lock) _ c.loop-at.at c.loop-at-test.true (sym c.certifiable.ensures ∙ c.if-certifiable.false)

pub returns : goal.returns
returns c =
    let e : c.highest-end.result.0 + 1 ≡ suc (highest c.args.view.0) = omega (arith, c.highest-end.ensures) in
    nowhere_end (certifiable _ _ c.args.lock) _ c.loop-at.at c.loop-at-test.false ∙ sym c.loop-at.invariant ∙ votes_are _ _ c.settings-s.ensures e _ _ c.lowest-first.ensures

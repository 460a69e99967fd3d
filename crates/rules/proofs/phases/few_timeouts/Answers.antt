use Prim.Native.Nat.{suc, ◌+◌}
use mathlib.Core.Path.{◌≡◌, refl, sym, ◌∙◌}
use Rattle.memory.specs.Window.{highest}
use Rattle.rules.specs.Phases.{echoable}
use Rattle.rules.proofs.Quiet.{nowhere_on, nowhere_off, nowhere_end, timeouts_are}
use native.Mathlib.Omega.{arith}
use Rattle.rules.proofs.phases.few_timeouts.Goals as goal

pub loop-at-init : goal.loop-at-init
loop-at-init c = refl

pub echoable-requires : goal.echoable-requires
echoable-requires c = (c.requires.0, rw c.settings-s.ensures c.requires.1.0)

pub returns-then-echoable : goal.returns-then-echoable
returns-then-echoable c =
    let e : c.highest-end.result.0 + 1 ≡ suc (highest c.args.view.0) = omega (arith, c.highest-end.ensures) in
    nowhere_off (echoable _ _ _) _ c.loop-at.at c.loop-at-test.true (sym c.echoable.ensures ∙ c.if-echoable.true) ∙ sym c.loop-at.invariant ∙ timeouts_are _ _ c.settings-s.ensures e _

pub loop-at-preserved : goal.loop-at-preserved
loop-at-preserved c = c.loop-at.invariant ∙ nowhere_on (echoable _ _ _) _ c.loop-at.at c.loop-at-test.true (sym c.echoable.ensures ∙ c.if-echoable.false)

pub returns : goal.returns
returns c =
    let e : c.highest-end.result.0 + 1 ≡ suc (highest c.args.view.0) = omega (arith, c.highest-end.ensures) in
    nowhere_end (echoable _ _ _) _ c.loop-at.at c.loop-at-test.false ∙ sym c.loop-at.invariant ∙ timeouts_are _ _ c.settings-s.ensures e _

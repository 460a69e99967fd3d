use mathlib.Core.Path.{ap, ◌∙◌}
use Rattle.act.proofs.Steps.{ready_facts}
use Rattle.settings.specs.declared.Settings.{Settings}
use Rattle.settings.specs.Quorum.{replicas}
use Rattle.rules.proofs.Views.{formed_in_output, formed_does}
use native.Mathlib.Omega.{arith}
use Rattle.rules.proofs.form_timeouts.Goals as goal

pub settings-requires : goal.settings-requires
settings-requires c = omega (arith, c.requires.0.long)

pub n-n-requires : goal.n-n-requires
n-n-requires c = tt

pub own-requires : goal.own-requires
own-requires c = omega (arith, c.requires.0.long)

pub form-to-requires : goal.form-to-requires
form-to-requires c = let f = ready_facts _ _ _ c.requires.0 in let e = c.n-n.ensures ∙ ap (λ (z : Settings). replicas z) c.settings.ensures in (c.requires.0.long, (omega (arith, f.few, e), omega (arith, f.few, e, c.requires.0.room)))

pub overflow_sub-to : goal.overflow_sub-to
overflow_sub-to c = omega (arith, c.form-to.ensures.0)

pub act_on-requires : goal.act_on-requires
act_on-requires c = formed_in_output c.args.d _ _ _ c.requires.0 c.requires.1.0 c.requires.1.1 (λ j. (c.slice_known-1.given j).fits) c.settings.ensures c.n-n.ensures c.own.ensures c.form-to.ensures

pub returns : goal.returns
returns c = formed_does c.args.d _ _ _ c.requires.0 c.requires.1.0 c.requires.1.1 (λ j. (c.slice_known-1.given j).fits) c.settings.ensures c.n-n.ensures c.own.ensures c.form-to.ensures c.act_on.ensures

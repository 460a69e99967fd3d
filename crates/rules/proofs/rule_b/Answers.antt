use Rattle.rules.proofs.Orders.{below, not_below}
use mathlib.Core.Path.{ap, ◌∙◌}
use Rattle.act.proofs.Steps.{ready_facts}
use Rattle.settings.specs.declared.Settings.{Settings}
use Rattle.settings.specs.Quorum.{replicas}
use Rattle.rules.proofs.Views.{b_below, b_few, b_forms}
use native.Mathlib.Omega.{arith}
use Rattle.rules.proofs.rule_b.Goals as goal

pub returns-then-lt : goal.returns-then-lt
returns-then-lt c = b_below c.args.d _ _ _ (omega (arith, c.requires.0.room)) (below _ _ c.lt.ensures c.if-lt.true)

pub settings-s-requires : goal.settings-s-requires
settings-s-requires c = omega (arith, c.requires.0.long)

pub timeout_row-requires : goal.timeout_row-requires
timeout_row-requires c = tt

pub n-requires : goal.n-requires
n-requires c = tt

pub kept_count-requires : goal.kept_count-requires
kept_count-requires c = let f = ready_facts _ _ _ c.requires.0 in (omega (arith, c.requires.0.long, c.timeout_row.ensures), omega (arith, f.few, c.n.ensures ∙ ap (λ (z : Settings). replicas z) c.settings-s.ensures))

pub timeout_quorum-requires : goal.timeout_quorum-requires
timeout_quorum-requires c = tt

pub returns-then-kept_count-timeout_quorum : goal.returns-then-kept_count-timeout_quorum
returns-then-kept_count-timeout_quorum c = b_few c.args.d _ _ _ (omega (arith, c.requires.0.room)) (not_below _ _ c.lt.ensures c.if-lt.false) c.settings-s.ensures c.timeout_row.ensures c.n.ensures c.kept_count.ensures c.timeout_quorum.ensures c.if-kept_count-timeout_quorum.true

pub form_timeouts-requires : goal.form_timeouts-requires
form_timeouts-requires c = (c.requires.0, (not_below _ _ c.lt.ensures c.if-lt.false, c.requires.1))

pub returns : goal.returns
returns c = b_forms c.args.d _ _ _ (omega (arith, c.requires.0.room)) (not_below _ _ c.lt.ensures c.if-lt.false) c.settings-s.ensures c.timeout_row.ensures c.n.ensures c.kept_count.ensures c.timeout_quorum.ensures c.if-kept_count-timeout_quorum.false c.form_timeouts.ensures

use Rattle.rules.proofs.Orders.{below, not_below, at_most, not_at_most}
use mathlib.Core.Path.{ap, ◌∙◌}
use Rattle.act.proofs.Steps.{ready_facts}
use Rattle.settings.specs.declared.Settings.{Settings}
use Rattle.settings.specs.Quorum.{replicas}
use Rattle.rules.proofs.Views.{a_below, a_timed, a_few, a_sends}
use native.Mathlib.Omega.{arith}
use Rattle.rules.proofs.rule_a.Goals.{then-lt-via-then-lt, then-lt-via-else-lt+then-le}
use Rattle.rules.proofs.rule_a.Goals as goal

pub returns-then-lt : goal.returns-then-lt
returns-then-lt c =
    elim c.then-lt.branch [
      | then-lt-via-then-lt w ↦ a_below c.args.d _ _ _ (omega (arith, c.requires.room)) (below _ _ c.lt.ensures w.if-lt.true)
      | then-lt-via-else-lt+then-le w ↦ a_timed c.args.d _ _ _ (omega (arith, c.requires.room)) (not_below _ _ c.lt.ensures w.if-lt.false) (at_most _ _ w.le.ensures w.if-le.true)
    ]

pub settings-s-requires : goal.settings-s-requires
settings-s-requires c = omega (arith, c.requires.long)

pub timeout_row-requires : goal.timeout_row-requires
timeout_row-requires c = tt

pub n-requires : goal.n-requires
n-requires c = tt

pub kept_count-requires : goal.kept_count-requires
kept_count-requires c = let f = ready_facts _ _ _ c.requires in (omega (arith, c.requires.long, c.timeout_row.ensures), omega (arith, f.few, c.n.ensures ∙ ap (λ (z : Settings). replicas z) c.settings-s.ensures))

pub returns-then-kept_count-s : goal.returns-then-kept_count-s
returns-then-kept_count-s c = a_few c.args.d _ _ _ (omega (arith, c.requires.room)) (not_below _ _ c.lt.ensures c.if-lt.false) (not_at_most _ _ c.le.ensures c.if-le.false) c.settings-s.ensures c.timeout_row.ensures c.n.ensures c.kept_count.ensures c.if-kept_count-s.true

pub send_timeout-requires : goal.send_timeout-requires
send_timeout-requires c = c.requires

pub returns : goal.returns
returns c = a_sends c.args.d _ _ _ (omega (arith, c.requires.room)) (not_below _ _ c.lt.ensures c.if-lt.false) (not_at_most _ _ c.le.ensures c.if-le.false) c.settings-s.ensures c.timeout_row.ensures c.n.ensures c.kept_count.ensures c.if-kept_count-s.false c.send_timeout.ensures

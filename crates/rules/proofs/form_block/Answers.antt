use Rattle.rules.proofs.Orders.{below, not_below}
use borrow.Author.Rules.{rules}
use mathlib.Core.Path.{ap, ◌∙◌}
use Rattle.settings.specs.declared.Settings.{Settings}
use Rattle.settings.specs.Quorum.{replicas}
use Rattle.act.proofs.Steps.{ready_facts}
use Rattle.rules.proofs.Views.{block_below, block_in_output, block_does}
use native.Mathlib.Omega.{arith}
use Rattle.rules.proofs.form_block.Goals as goal

pub settings-requires : goal.settings-requires
settings-requires c = omega (arith, c.requires.0.long)

pub n-n-requires : goal.n-n-requires
n-n-requires c = tt

pub vote_row-requires : goal.vote_row-requires
vote_row-requires c = tt

pub count_backers-signers-requires : goal.count_backers-signers-requires
count_backers-signers-requires c = let f = ready_facts _ _ _ c.requires.0 in (omega (arith, c.vote_row.ensures), (omega (arith, f.few, c.n-n.ensures ∙ ap (λ (z : Settings). replicas z) c.settings.ensures), omega (arith, c.vote_row.ensures, c.requires.0.long)))

pub adopting-requires : goal.adopting-requires
adopting-requires c = tt

pub returns-then-lt : goal.returns-then-lt
returns-then-lt c = block_below c.args.d _ _ c.args.view.0 c.args.name c.requires.0 c.requires.1 (search rules) c.settings.ensures c.n-n.ensures c.vote_row.ensures c.count_backers-signers.ensures (below _ _ c.lt.ensures c.if-lt.true) c.adopting.ensures

pub own-requires : goal.own-requires
own-requires c = omega (arith, c.requires.0.long)

pub put_block_certificate-requires : goal.put_block_certificate-requires
put_block_certificate-requires c = omega (arith, c.requires.0.room)

pub act_on-requires : goal.act_on-requires
act_on-requires c = block_in_output c.args.d _ _ c.args.view.0 c.args.name c.requires.0 c.requires.1 (search rules) c.settings.ensures c.n-n.ensures c.vote_row.ensures c.count_backers-signers.ensures (not_below _ _ c.lt.ensures c.if-lt.false) c.own.ensures c.put_block_certificate.ensures

pub returns : goal.returns
returns c = block_does c.args.d _ _ c.args.view.0 c.args.name c.requires.0 c.requires.1 (search rules) c.settings.ensures c.n-n.ensures c.vote_row.ensures c.count_backers-signers.ensures (not_below _ _ c.lt.ensures c.if-lt.false) c.own.ensures c.put_block_certificate.ensures c.act_on.ensures

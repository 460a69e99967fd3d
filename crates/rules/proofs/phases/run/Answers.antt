use mathlib.Core.Path.{sym, ◌∙◌}
use Rattle.act.proofs.Steps.{ready_facts}
use Rattle.rules.proofs.Quiet.{all_rest}
use native.Mathlib.Omega.{arith}
use Rattle.rules.proofs.phases.run.Goals as goal

pub few_timeouts-requires : goal.few_timeouts-requires
few_timeouts-requires c = let r = ready_facts _ _ _ c.requires in (c.requires.long, (r.few, (r.view_first, r.view_last)))

pub few_votes-requires : goal.few_votes-requires
few_votes-requires c = let r = ready_facts _ _ _ c.requires in (c.requires.long, (r.few, (r.view_first, r.view_last)))

pub returns-then-few_votes : goal.returns-then-few_votes
returns-then-few_votes c = all_rest c.args.d _ _ (omega (arith, c.requires.room)) (ready_facts _ _ _ c.requires).few (sym c.few_timeouts.ensures ∙ c.if-few_timeouts.true) (sym c.few_votes.ensures ∙ c.if-few_votes.true)

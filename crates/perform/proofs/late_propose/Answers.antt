use mathlib.Core.Path.{sym, ◌∙◌}
use Rattle.std.proofs.lemmas.Result.{err_from_is_err_and}
use Rattle.settings.specs.Refusal.{refused}
use Rattle.blocks.specs.Store.{found_of}
use Rattle.refusals.specs.Number.{first_of}
use Rattle.refusals.proofs.Numbers.{passed_on, refused_none}
use Rattle.judge.specs.Late.{late_propose}
use Rattle.judge.specs.Want.{Wanted}
use Rattle.perform.proofs.Deciding.{passed_early, judged_late}
use Rattle.perform.proofs.late_propose.Goals as goal

pub returns-in_err-named-clause-refusal : goal.returns-in_err-named-clause-refusal
returns-in_err-named-clause-refusal c = let p = err_from_is_err_and c.from_residual.result c.from_residual.ensures.1 in passed_early _ c.in_err-named.was p.1 p.2

pub returns-in_err-propose_chain-clause-refusal : goal.returns-in_err-propose_chain-clause-refusal
returns-in_err-propose_chain-clause-refusal c = let p = err_from_is_err_and c.from_residual-in_err-propose_chain.result c.from_residual-in_err-propose_chain.ensures.1 in judged_late (λ (v : Wanted). first_of (late_propose v (found_of c.args.found) (found_of c.args.under))) c.in_ok-named.was (passed_on c.in_err-propose_chain.was p.1 p.2 ∙ c.propose_chain.ensures.refusal)

pub returns-clause-refusal : goal.returns-clause-refusal
unfolding refused
returns-clause-refusal c = judged_late (λ (v : Wanted). first_of (late_propose v (found_of c.args.found) (found_of c.args.under))) c.in_ok-named.was (sym (refused_none c.in_ok-propose_chain.was) ∙ c.propose_chain.ensures.refusal)

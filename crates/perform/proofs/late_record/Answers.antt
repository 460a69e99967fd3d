use mathlib.Core.Path.{sym, ◌∙◌}
use Rattle.std.proofs.lemmas.Result.{err_from_is_err_and}
use Rattle.settings.specs.Refusal.{refused}
use Rattle.blocks.specs.Store.{found_of}
use Rattle.refusals.specs.Number.{first_of}
use Rattle.refusals.proofs.Numbers.{passed_on, refused_none}
use Rattle.wire.specs.Content.{content}
use Rattle.judge.specs.Late.{late_rules}
use Rattle.judge.specs.Want.{Wanted}
use Rattle.perform.proofs.Deciding.{passed_early, not_early, judged_late}
use Rattle.perform.proofs.late_record.Goals as goal

pub returns-in_err-asked-clause-refusal : goal.returns-in_err-asked-clause-refusal
returns-in_err-asked-clause-refusal c = let p = err_from_is_err_and c.from_residual.result c.from_residual.ensures.1 in passed_early _ c.in_err-asked.was p.1 p.2

pub record_chain-requires : goal.record_chain-requires
record_chain-requires c = c.requires (not_early c.in_ok-asked.was)

pub returns-in_err-record_chain-clause-refusal : goal.returns-in_err-record_chain-clause-refusal
returns-in_err-record_chain-clause-refusal c = let p = err_from_is_err_and c.from_residual-in_err-record_chain.result c.from_residual-in_err-record_chain.ensures.1 in judged_late (λ (v : Wanted). first_of (late_rules v (found_of c.args.found) (found_of c.args.under) (content c.args.rec.now))) c.in_ok-asked.was (passed_on c.in_err-record_chain.was p.1 p.2 ∙ c.record_chain.ensures)

pub returns-clause-refusal : goal.returns-clause-refusal
unfolding refused
returns-clause-refusal c = judged_late (λ (v : Wanted). first_of (late_rules v (found_of c.args.found) (found_of c.args.under) (content c.args.rec.now))) c.in_ok-asked.was (sym (refused_none c.in_ok-record_chain.was) ∙ c.record_chain.ensures)

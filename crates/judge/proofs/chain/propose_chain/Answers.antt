use mathlib.Core.Path.{sym, ◌∙◌}
use Rattle.std.proofs.lemmas.Result.{err_from_is_err_and}
use Rattle.settings.specs.Refusal.{refused, number}
use Rattle.refusals.proofs.Numbers.{skip, hit, none, stops, goes}
use Rattle.judge.specs.Late.{late_propose}
use Rattle.judge.proofs.Lates.{late_first-numbered}
use Rattle.judge.proofs.chain.propose_chain.Goals as goal

pub returns-in_err-lower-clause-refusal : goal.returns-in_err-lower-clause-refusal
unfolding late_propose
returns-in_err-lower-clause-refusal c = let p = err_from_is_err_and c.from_residual.result c.from_residual.ensures.1 in
    stops _ _ (late_first-numbered _ _) c.propose_first.ensures.refusal c.in_err-lower.was p.1 p.2

pub returns-then-store_full-clause-refusal : goal.returns-then-store_full-clause-refusal
unfolding late_propose refused number
returns-then-store_full-clause-refusal c =
    goes _ _ (late_first-numbered _ _) c.propose_first.ensures.refusal c.in_ok-lower.was (hit _ _ (sym c.store_full.ensures ∙ c.if-store_full.true))

pub returns-clause-refusal : goal.returns-clause-refusal
unfolding late_propose refused
returns-clause-refusal c =
    goes _ _ (late_first-numbered _ _) c.propose_first.ensures.refusal c.in_ok-lower.was (skip _ _ (sym c.store_full.ensures ∙ c.if-store_full.false) none)

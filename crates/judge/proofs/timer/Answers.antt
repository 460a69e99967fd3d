use Rattle.std.proofs.lemmas.Result.{err_from_is_err_and}
use Rattle.protocol.specs.Refusals.{timer_rules}
use Rattle.refusals.proofs.Numbers.{stops, goes}
use Rattle.judge.proofs.Wants.{regions_numbered}
use Rattle.judge.proofs.timer.Goals as goal

pub returns-in_err-regions : goal.returns-in_err-regions
returns-in_err-regions c = let p = err_from_is_err_and c.from_residual.result c.from_residual.ensures.1 in λ s e. stops _ _ (regions_numbered _ _) (c.regions.ensures s e) c.in_err-regions.was p.1 p.2

pub returns : goal.returns
unfolding timer_rules
returns c = λ s e. goes _ _ (regions_numbered _ _) (c.regions.ensures s e) c.in_ok-regions.was c.timer_refusal.ensures

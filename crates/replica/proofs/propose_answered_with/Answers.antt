-- The call without contents where they refuse nothing, or else what they refuse it by.
use Rattle.std.proofs.lemmas.Result.{err_from_is_err_and}
use Rattle.replica.proofs.Calling.{propose_with_err, propose_with_ok}
use Rattle.replica.proofs.propose_answered_with.Goals as goal

pub returns-in_err-propose_refusal : goal.returns-in_err-propose_refusal
returns-in_err-propose_refusal c = let p = err_from_is_err_and c.from_residual.result c.from_residual.ensures.1 in
    propose_with_err c.args.counters.now c.args.mem.now c.args.out.now c.args.store.now c.args.name.bytes c.args.contents.now _ c.propose_refusal.ensures c.in_err-propose_refusal.was p.1 p.2

pub returns : goal.returns
returns c =
    propose_with_ok c.args.counters.now c.args.mem.now c.args.out.now c.args.store.now c.args.name.bytes c.args.contents.now _ c.propose_refusal.ensures c.in_ok-propose_refusal.was c.propose_answered.ensures

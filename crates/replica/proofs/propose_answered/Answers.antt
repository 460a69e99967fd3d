-- A refused propose leaves all as it was.
use Rattle.std.proofs.lemmas.Result.{err_from_is_err_and}
use Rattle.settings.specs.Refusal.{answer}
use Rattle.replica.proofs.Calling.{taken, propose_unmade}
use Rattle.replica.proofs.propose_answered.Goals as goal

pub returns-in_err-below : goal.returns-in_err-below
returns-in_err-below c = let p = err_from_is_err_and c.from_residual.result c.from_residual.ensures.1 in
    propose_unmade c.args.counters.now c.args.mem.now c.args.out.now c.args.store.now c.args.name.bytes c.propose_judged.ensures c.in_err-below.was p.1 p.2

pub propose_taken-requires : goal.propose_taken-requires
propose_taken-requires c = taken c.propose_judged.ensures c.in_ok-below.was

pub returns : goal.returns
unfolding answer
returns c = c.propose_taken.ensures

-- A refused record leaves all as it was.
use Rattle.std.proofs.lemmas.Result.{err_from_is_err_and}
use Rattle.settings.specs.Refusal.{answer}
use Rattle.replica.proofs.Calling.{taken, record_unmade}
use Rattle.replica.proofs.record_answered.Goals as goal

pub returns-in_err-held : goal.returns-in_err-held
returns-in_err-held c = let p = err_from_is_err_and c.from_residual.result c.from_residual.ensures.1 in
    record_unmade c.args.counters.now c.args.mem.now c.args.out.now c.args.store.now c.args.rec.now c.record_judged.ensures c.in_err-held.was p.1 p.2

pub record_taken-requires : goal.record_taken-requires
record_taken-requires c = taken c.record_judged.ensures c.in_ok-held.was

pub returns : goal.returns
unfolding answer
returns c = c.record_taken.ensures

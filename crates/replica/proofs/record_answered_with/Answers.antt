-- The call without contents where they refuse nothing, or else what they refuse it by.
use Rattle.std.proofs.lemmas.Result.{err_from_is_err_and}
use mathlib.Core.Path.{refl}
use Rattle.replica.proofs.Calling.{record_with_err, record_with_ok}
use Rattle.replica.proofs.record_answered_with.Goals as goal

pub returns-in_err-record_due : goal.returns-in_err-record_due
returns-in_err-record_due c = let p = err_from_is_err_and c.from_residual.result c.from_residual.ensures.1 in
    record_with_err c.args.counters.now c.args.mem.now c.args.out.now c.args.store.now c.args.rec.now c.args.contents.now _ (c.record_due.ensures c.args.store.now refl) c.in_err-record_due.was p.1 p.2

pub returns : goal.returns
returns c =
    record_with_ok c.args.counters.now c.args.mem.now c.args.out.now c.args.store.now c.args.rec.now c.args.contents.now _ (c.record_due.ensures c.args.store.now refl) c.in_ok-record_due.was c.record_answered.ensures

-- An opening writes no bytes.
use mathlib.Core.Path.{refl}
use Rattle.std.proofs.lemmas.Result.{err_from_is_err_and}
use Rattle.replica.proofs.Openings.{opening_err, opening_ok}
use Rattle.replica.proofs.open_answered.Goals as goal

pub returns-in_err-new : goal.returns-in_err-new
returns-in_err-new c = let p = err_from_is_err_and c.from_residual.result c.from_residual.ensures.1 in
    opening_err _ _ _ _ (c.opening.ensures c.args.counters.now c.args.store.now refl) c.in_err-new.was p.1 p.2

pub returns : goal.returns
returns c = opening_ok _ _ _ _ (c.opening.ensures c.args.counters.now c.args.store.now refl) c.in_ok-new.was

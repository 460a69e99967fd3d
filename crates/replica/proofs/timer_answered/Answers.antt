-- A refused timer leaves all as it was.
use Rattle.std.proofs.lemmas.Result.{err_from_is_err_and}
use mathlib.Core.Path.{refl, sym, ◌∙◌}
use Rattle.settings.specs.Refusal.{answer}
use Rattle.refusals.proofs.Numbers.{refused_none}
use Rattle.replica.proofs.Calling.{timer_numbered, timer_unmade}
use Rattle.replica.proofs.timer_answered.Goals as goal

pub returns-in_err-timer : goal.returns-in_err-timer
returns-in_err-timer c = let p = err_from_is_err_and c.from_residual.result c.from_residual.ensures.1 in
    timer_unmade c.args.counters.now c.args.mem.now c.args.out.now c.args.store.now c.args.view.0 (timer_numbered _ _ _ (c.timer.ensures c.args.store.now refl)) c.in_err-timer.was p.1 p.2

pub timer_taken-requires : goal.timer_taken-requires
timer_taken-requires c = sym (timer_numbered _ _ _ (c.timer.ensures c.args.store.now refl)) ∙ refused_none c.in_ok-timer.was

pub returns : goal.returns
unfolding answer
returns c = c.timer_taken.ensures

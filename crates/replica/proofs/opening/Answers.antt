-- `replica::opening` meets its contract: refused settings, or what `open_admitted` leaves. Assumes nothing.
use mathlib.Core.Path.{sym, ap, ◌∙◌}
use Rattle.std.proofs.lemmas.Result.{err_from_is_err_and}
use Rattle.settings.specs.Refusal.{answer}
use Rattle.replica.specs.Reply.{lent_to}
use Rattle.replica.proofs.Openings.{own_small, opening-admitted, opening_refused}
use Rattle.replica.proofs.opening.Goals as goal

pub returns-in_err-s : goal.returns-in_err-s
unfolding answer
returns-in_err-s c = let p = err_from_is_err_and c.from_residual.result c.from_residual.ensures.1 in
    λ old l e. let a = c.args in rw (p.1, p.2) (sym (opening_refused (lent_to old a.mem.now l) a.f a.c a.k a.n a.own a.leaders.now _ (sym c.admit.ensures ∙ ap answer c.in_err-s.was)))

pub overflow_cast-own : goal.overflow_cast-own
unfolding answer
overflow_cast-own c = let a = c.args in record { fits = own_small a.f a.c a.k a.n a.own c.in_ok-s.s (sym c.admit.ensures ∙ ap answer c.in_ok-s.was) }

pub returns : goal.returns
unfolding answer
returns c = λ old l e. let a = c.args in c.open_admitted.ensures old l e ∙ sym (opening-admitted (lent_to old a.mem.now l) a.f a.c a.k a.n a.own a.leaders.now c.in_ok-s.s (sym c.admit.ensures ∙ ap answer c.in_ok-s.was))

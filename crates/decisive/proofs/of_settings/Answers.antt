use mathlib.Core.Path.{◌≡◌, sym, ap, ◌∙◌}
use Prim.Native.Nat.{ℕ}
use Rattle.std.proofs.lemmas.Result.{err_from_is_err_and}
use Rattle.settings.specs.Answer.{accepts, judge}
use Rattle.settings.specs.Refusal.{refused, answer}
use Rattle.settings.specs.Opening.{opening}
use Rattle.decisive.specs.Decisive.{decisive, record_rules, timeouts_in}
use Rattle.decisive.proofs.Rules.{settings_taken, settings_pass, settings_refused}
use Rattle.decisive.proofs.Passing.{judged_err}
use native.Mathlib.Omega.{arith}
use Rattle.decisive.proofs.of_settings.Goals as goal

pub returns-in_err-s : goal.returns-in_err-s
unfolding answer refused
returns-in_err-s c = let a = c.args in
    let p = err_from_is_err_and c.from_residual.result c.from_residual.ensures.1 in
    judged_err c.in_err-s.was p.1 p.2 ∙ sym (settings_refused a.f a.c a.k a.n a.rec.now (refused c.admit.result) (rw c.in_err-s.was (sym (rw c.in_err-s.was at c.admit.ensures))))

pub of_record-requires : goal.of_record-requires
unfolding answer
of_record-requires c = let a = c.args in
    let t = settings_taken a.f a.c a.k a.n a.rec.now c.in_ok-s.s (sym c.admit.ensures ∙ ap answer c.in_ok-s.was) in
    omega (arith, t.1.0, t.1.1)

pub returns : goal.returns
unfolding answer
returns c = let a = c.args in
    let s = c.in_ok-s.s in
    let e : opening a.f a.c a.k a.n 0 ≡ accepts s = sym c.admit.ensures ∙ ap answer c.in_ok-s.was in
    let t = settings_taken a.f a.c a.k a.n a.rec.now s e in
    c.of_record.ensures
    ∙ ap (λ (m : ℕ). judge (record_rules s m a.rec.now) (decisive s (timeouts_in a.rec.now))) (sym t.1.0)
    ∙ sym (settings_pass a.f a.c a.k a.n a.rec.now s e)

-- `settings::admit` meets its contract: each test that refuses shows that the numbers are unfit, and past the last one they are fit.
use mathlib.Core.Path.{sym}
use Rattle.settings.specs.Refusal.{answer, number}
use Rattle.settings.proofs.Openings.{fit_accepts, unfit_refuses}
use borrow.Author.Rules.{rules}
use native.Mathlib.Omega.{arith}
use Rattle.std.proofs.lemmas.Grind.{common_steps}
use Rattle.settings.proofs.admit.Goals as goal

pub returns-then-f-gt-LARGEST : goal.returns-then-f-gt-LARGEST
unfolding answer number
returns-then-f-gt-LARGEST c = sym (unfit_refuses _ _ _ _ _ (λ h. omega (arith, c.then-f-gt-LARGEST.either)))

pub returns-then-n : goal.returns-then-n
unfolding answer number
returns-then-n c = sym (unfit_refuses _ _ _ _ _ (λ h. grind (arith, common_steps, c.then-n.either)))

pub returns : goal.returns
unfolding answer
returns c = sym (fit_accepts _ _ _ _ _ (record { count = search rules; few = search rules; member = search rules }))

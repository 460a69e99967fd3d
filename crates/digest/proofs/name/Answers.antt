use mathlib.Core.Path.{sym, ap, ◌∙◌}
use Rattle.settings.specs.Answer.{accepts}
use Rattle.settings.specs.Refusal.{answer, number}
use Rattle.digest.proofs.Names.{name_refused, name_given}
use mathlib.Core.List.{List}
use Prim.Native.Nat.{ℕ}
use Rattle.digest.proofs.name.Goals as goal

pub returns-then-too_long : goal.returns-then-too_long
unfolding answer number
returns-then-too_long c = sym (name_refused _ _ _ (sym c.too_long.ensures ∙ c.if-too_long.true))

pub returns : goal.returns
unfolding answer
returns c = ap (λ (l : List ℕ). accepts l) c.name_of.ensures ∙ sym (name_given _ _ _ (sym c.too_long.ensures ∙ c.if-too_long.false))

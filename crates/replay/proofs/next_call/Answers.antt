use mathlib.Core.Path.{sym, ◌∙◌}
use borrow.Author.Tests.{eq-eqb, ne_eqb}
use Rattle.settings.specs.Refusal.{number}
use Rattle.replay.specs.Lines.{next_call}
use Rattle.replay.proofs.Laws.{next_number}
use native.Mathlib.Omega.{arith}
use Rattle.replay.proofs.next_call.Goals as goal

pub returns-then-answer-from : goal.returns-then-answer-from
unfolding next_call number
returns-then-answer-from c = rw (eq-eqb c.args.answer 3 (c.if-answer-from.true ∙ c.from.ensures))

pub returns : goal.returns
unfolding next_call number
returns c = rw (ne_eqb c.args.answer 3 (λ e. c.if-answer-from.false (e ∙ sym c.from.ensures))) (c.saturating_add.ensures ∙ next_number c.args.call (omega arith))

use borrow.Author.Tests.{eq-eqb, ne_eqb}
use Rattle.settings.specs.Refusal.{number}
use Rattle.replay.specs.Requests.{checked}
use Rattle.replay.proofs.input.from_host.Goals as goal

pub returns-then-rec-size : goal.returns-then-rec-size
unfolding checked number
returns-then-rec-size c = λ x. rw (ne_eqb _ _ c.if-rec-size.true)

pub returns-then-sender-ne0 : goal.returns-then-sender-ne0
unfolding checked number
returns-then-sender-ne0 c = λ x. rw (eq-eqb _ _ c.if-rec-size.false, ← c.u16_at-sender.ensures, ne_eqb _ _ c.if-sender-ne0.true)

pub returns : goal.returns
unfolding checked
returns c = λ x. rw (eq-eqb _ _ c.if-rec-size.false, ← c.u16_at-sender.ensures, eq-eqb _ _ c.if-sender-ne0.false)

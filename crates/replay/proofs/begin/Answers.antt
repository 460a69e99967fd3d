use borrow.Author.Tests.{eq-eqb, ne_eqb}
use Rattle.settings.specs.Refusal.{number}
use Rattle.replay.proofs.begin.Goals as goal

pub returns-then-refusal-eq0 : goal.returns-then-refusal-eq0
returns-then-refusal-eq0 c = (rw (eq-eqb _ _ c.if-refusal-eq0.true, c.start.ensures), rw (eq-eqb _ _ c.if-refusal-eq0.true))

pub returns : goal.returns
unfolding number
returns c = (rw (ne_eqb _ _ c.if-refusal-eq0.false), rw (ne_eqb _ _ c.if-refusal-eq0.false, c.put_line.ensures, c.into.ensures))

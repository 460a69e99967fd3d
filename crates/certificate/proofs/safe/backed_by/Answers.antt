use Rattle.wire.specs.Content.{timeout_of}
use Rattle.certificate.specs.Safe.{backed_by}
use Rattle.certificate.proofs.safe.backed_by.Goals as goal

pub returns-then-gives : goal.returns-then-gives
unfolding backed_by timeout_of
returns-then-gives c = rw (← c.gives.ensures, c.if-gives.true, c.joins.ensures, c.u16_at.ensures)

pub returns : goal.returns
unfolding backed_by
returns c = rw (← c.gives.ensures, c.if-gives.false)

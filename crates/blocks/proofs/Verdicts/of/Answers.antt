use borrow.Author.Tests.{lt-ltb, le-ltb}
use Rattle.certificate.specs.Safe.{signs}
use Rattle.blocks.specs.Steps.{verdict_of}
use Rattle.blocks.proofs.Verdicts.of.Goals as goal

pub returns-then-at-lt-STORE_LENGTH : goal.returns-then-at-lt-STORE_LENGTH
unfolding verdict_of signs
returns-then-at-lt-STORE_LENGTH c = rw (lt-ltb _ _ c.if-at-lt-STORE_LENGTH.true)

pub returns-else-at-lt-STORE_LENGTH : goal.returns-else-at-lt-STORE_LENGTH
unfolding verdict_of
returns-else-at-lt-STORE_LENGTH c = rw (le-ltb _ _ c.if-at-lt-STORE_LENGTH.false)

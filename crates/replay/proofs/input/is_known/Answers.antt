use borrow.Author.Tests.{lt-leb, le-leb}
use Rattle.replay.specs.Replay.{known}
use Rattle.replay.proofs.input.is_known.Goals as goal

pub returns-then-rest-lt-HEADER : goal.returns-then-rest-lt-HEADER
unfolding known
returns-then-rest-lt-HEADER c = rw (lt-leb _ _ c.if-rest-lt-HEADER.true)

pub returns-then-not-is_sized : goal.returns-then-not-is_sized
unfolding known
returns-then-not-is_sized c = rw (le-leb _ _ c.if-rest-lt-HEADER.false, ← c.u32_at-n.ensures, ← c.is_sized.ensures, c.if-not-is_sized.true)

pub returns-else-not-is_sized : goal.returns-else-not-is_sized
unfolding known
returns-else-not-is_sized c = rw (le-leb _ _ c.if-rest-lt-HEADER.false, ← c.u32_at-n.ensures, ← c.is_sized.ensures, c.if-not-is_sized.false)

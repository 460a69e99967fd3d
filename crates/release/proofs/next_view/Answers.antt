use borrow.Author.Tests.{lt-ltb, le-ltb}
use Rattle.release.specs.Search.{next_view}
use Rattle.release.proofs.next_view.Goals as goal

pub returns-then-p-gt0 : goal.returns-then-p-gt0
unfolding next_view
returns-then-p-gt0 c = rw (c.at_next_view.ensures, lt-ltb _ _ c.if-p-gt0.true)

pub returns : goal.returns
unfolding next_view
returns c = rw (le-ltb _ _ c.if-p-gt0.false)

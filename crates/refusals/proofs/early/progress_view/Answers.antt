use Rattle.codec.proofs.Laws.{part-drop}
use Rattle.wire.specs.Content.{progress_means, Within}
use native.Mathlib.Omega.{arith}
use Rattle.refusals.proofs.early.progress_view.Goals as goal

pub overflow_add-t : goal.overflow_add-t
unfolding Within
overflow_add-t c = let h = rw c.in-Timeouts.is at c.requires in omega (arith, h)

pub u64_at-requires : goal.u64_at-requires
unfolding Within
u64_at-requires c = let h = rw c.in-Timeouts.is at c.requires in omega (arith, h)

pub returns-in-Block : goal.returns-in-Block
unfolding progress_means
returns-in-Block c = rw c.in-Block.is

pub returns-in-Timeouts : goal.returns-in-Timeouts
unfolding progress_means
returns-in-Timeouts c = rw (c.u64_at.ensures, c.in-Timeouts.is, part-drop)

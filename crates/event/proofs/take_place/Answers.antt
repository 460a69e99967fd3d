use mathlib.Core.Path.{◌∙◌}
use Rattle.event.specs.Event.{placed_for, counted_in}
use native.Mathlib.Omega.{arith}
use Rattle.event.proofs.take_place.Goals as goal

pub returns-then-held : goal.returns-then-held
unfolding placed_for counted_in
returns-then-held c = (rw c.if-held.true, rw c.if-held.true)

pub block_count-place-requires : goal.block_count-place-requires
block_count-place-requires c = omega (arith, c.requires.0)

pub overflow_add-place : goal.overflow_add-place
overflow_add-place c = omega (arith, c.requires.1, c.block_count-place.ensures)

pub overflow_cast-place : goal.overflow_cast-place
overflow_cast-place c = omega (arith, c.requires.1, c.block_count-place.ensures)

pub put_block_count-requires : goal.put_block_count-requires
put_block_count-requires c = omega (arith, c.requires.0)

pub returns : goal.returns
unfolding placed_for counted_in
returns c = (rw (c.if-held.false, c.block_count-place.ensures), rw c.if-held.false (c.put_block_count.ensures ∙ rw c.block_count-place.ensures))

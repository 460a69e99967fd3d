use Rattle.memory.specs.Layout.{block_count_of}
use Rattle.memory.proofs.block_count.Goals as goal

pub returns : goal.returns
unfolding block_count_of
returns c = c.u16_at.ensures

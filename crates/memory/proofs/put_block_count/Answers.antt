use Rattle.memory.specs.Layout.{with_block_count}
use Rattle.memory.proofs.put_block_count.Goals as goal

pub returns : goal.returns
unfolding with_block_count
returns c = c.put_u16.ensures

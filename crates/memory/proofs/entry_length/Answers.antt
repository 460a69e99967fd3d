use Rattle.memory.specs.Layout.{entry_length_of}
use Rattle.memory.proofs.entry_length.Goals as goal

pub returns : goal.returns
unfolding entry_length_of
returns c = c.u16_at.ensures

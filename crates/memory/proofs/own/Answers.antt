use Rattle.memory.specs.Layout.{own_of}
use Rattle.memory.proofs.own.Goals as goal

pub returns : goal.returns
unfolding own_of
returns c = c.u16_at.ensures

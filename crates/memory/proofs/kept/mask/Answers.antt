use Rattle.memory.specs.Kept.{mask}
use Rattle.memory.proofs.kept.mask.Goals as goal

pub returns : goal.returns
unfolding mask
returns c = c.u64_at.ensures

use Rattle.memory.specs.Kept.{cleared}
use Rattle.memory.proofs.kept.clear_row.Goals as goal

pub returns : goal.returns
unfolding cleared
returns c = c.clear.ensures

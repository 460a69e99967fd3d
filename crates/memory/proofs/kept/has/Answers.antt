use Rattle.memory.specs.Kept.{has}
use Rattle.memory.proofs.kept.has.Goals as goal

pub returns : goal.returns
unfolding has
returns c = rw (← c.mask.ensures, c.signs.ensures)

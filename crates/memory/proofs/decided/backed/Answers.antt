use mathlib.Core.Path.{refl}
use Rattle.memory.proofs.decided.backed.Goals as goal

pub returns : goal.returns
returns c = rw c.count_backers-t.ensures refl

use mathlib.Core.Path.{refl}
use Rattle.event.specs.Event.{block_of_child}
use Rattle.event.proofs.block_of.Goals as goal

pub returns : goal.returns
unfolding block_of_child
returns c = refl

use mathlib.Core.Path.{refl}
use Rattle.digest.specs.Sha256.{◌⊞◌, plus}
use Rattle.digest.proofs.block.plus.Goals as goal

pub returns : goal.returns
unfolding ◌⊞◌ plus
returns c = refl

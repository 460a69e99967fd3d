use Rattle.digest.specs.Sha256.{K}
use mathlib.Core.Path.{refl}
use Rattle.digest.proofs.block.constants.Goals as goal

pub returns : goal.returns
unfolding K
returns c = refl

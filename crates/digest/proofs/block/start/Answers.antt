use Rattle.digest.specs.Sha256.{H⁰}
use mathlib.Core.Path.{refl}
use Rattle.digest.proofs.block.start.Goals as goal

pub returns : goal.returns
unfolding H⁰
returns c = refl

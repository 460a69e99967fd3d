use Rattle.digest.specs.Sha256.{σ₁, ROTR}
use Rattle.digest.proofs.word.small1.Goals as goal

pub returns : goal.returns
unfolding σ₁ ROTR
returns c = rw (c.rotate_right.ensures, c.rotate_right-2.ensures)

use Rattle.digest.specs.Sha256.{σ₀, ROTR}
use Rattle.digest.proofs.word.small0.Goals as goal

pub returns : goal.returns
unfolding σ₀ ROTR
returns c = rw (c.rotate_right.ensures, c.rotate_right-2.ensures)

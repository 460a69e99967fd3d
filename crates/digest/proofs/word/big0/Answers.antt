use Rattle.digest.specs.Sha256.{Σ₀, ROTR}
use Rattle.digest.proofs.word.big0.Goals as goal

pub returns : goal.returns
unfolding Σ₀ ROTR
returns c = rw (c.rotate_right.ensures, c.rotate_right-2.ensures, c.rotate_right-3.ensures)

use Rattle.digest.specs.Sha256.{◌⊞◌, T₂}
use Rattle.digest.proofs.block.t2.Goals as goal

pub returns : goal.returns
unfolding ◌⊞◌ T₂
returns c = rw (c.maj.ensures, c.big0.ensures)

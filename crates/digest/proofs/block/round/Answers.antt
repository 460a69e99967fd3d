use Rattle.digest.specs.Sha256.{◌⊞◌, round}
use Rattle.digest.proofs.block.round.Goals as goal

pub returns : goal.returns
unfolding ◌⊞◌ round
returns c = rw (c.t2-y.ensures, c.t1-x.ensures)

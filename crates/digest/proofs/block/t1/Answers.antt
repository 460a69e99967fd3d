use Rattle.digest.specs.Sha256.{◌⊞◌, T₁}
use Rattle.digest.proofs.Bitwise.{reorder}
use Rattle.digest.proofs.block.t1.Goals as goal

pub returns : goal.returns
unfolding ◌⊞◌ T₁
returns c = rw (c.big1.ensures, c.ch.ensures) (reorder _ _ _ _ _)

use Rattle.digest.specs.Sha256.{◌⊞◌, next}
use Rattle.digest.proofs.block.next.Goals as goal

pub returns : goal.returns
unfolding ◌⊞◌ next
returns c = rw (c.small0.ensures, c.small1.ensures)

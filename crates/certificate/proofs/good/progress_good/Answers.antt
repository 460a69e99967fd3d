use Rattle.wire.specs.Content.{progress_means}
use Rattle.certificate.specs.Good.{progress_good}
use Rattle.certificate.proofs.good.progress_good.Goals as goal

pub block_certificate-requires : goal.block_certificate-requires
block_certificate-requires c = rw c.in-Block.is at c.requires

pub timeouts_good-requires : goal.timeouts_good-requires
timeouts_good-requires c = rw c.in-Timeouts.is at c.requires

pub returns-in-Block : goal.returns-in-Block
unfolding progress_good progress_means
returns-in-Block c = rw (c.is_good.ensures, c.block_certificate.ensures, c.in-Block.is)

pub returns-in-Timeouts : goal.returns-in-Timeouts
returns-in-Timeouts c = rw c.in-Timeouts.is c.timeouts_good.ensures

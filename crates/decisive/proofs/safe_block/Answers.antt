use Rattle.wire.specs.Content.{progress_means, Within}
use Rattle.certificate.specs.Safe.{safe_certificate}
use native.Mathlib.Omega.{arith}
use Rattle.decisive.proofs.safe_block.Goals as goal

pub safe_certificate-requires : goal.safe_certificate-requires
unfolding Within
safe_certificate-requires c = let p = c.requires in (p.0, omega (arith, p.1))

pub returns : goal.returns
unfolding safe_certificate progress_means
returns c = rw c.safe_certificate.ensures

use lib.Count.{ones-le}
use Rattle.certificate.proofs.Signers.{count_ones}
use native.Mathlib.Omega.{arith}
use Rattle.certificate.proofs.signer_count.Goals as goal

pub overflow_cast-result : goal.overflow_cast-result
overflow_cast-result c = record { fits = omega (arith, ones-le 64 c.args.signers c.ranges.signers.fits) }

pub returns : goal.returns
returns c = count_ones _ c.ranges.signers.fits

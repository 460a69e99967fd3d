use Rattle.wire.proofs.Certificates.{within, shaped_stands}
use native.Mathlib.Omega.{arith}
use Rattle.refusals.proofs.early.certificate_early.Goals as goal

pub progress-read-requires : goal.progress-read-requires
progress-read-requires c = let S = shaped_stands c.args.rec.now 0 c.requires.1.0 c.requires.1.1 in (S.head, S.block)

pub block_certificate_early-requires : goal.block_certificate_early-requires
block_certificate_early-requires c = let S = shaped_stands c.args.rec.now 0 c.requires.1.0 c.requires.1.1 in (c.requires.0, (omega (arith, S.head), rw c.in-Block.is at (within c.args.rec.now 0 S c.progress-read.ensures.0)))

pub timeout_certificate_early-requires : goal.timeout_certificate_early-requires
timeout_certificate_early-requires c = let S = shaped_stands c.args.rec.now 0 c.requires.1.0 c.requires.1.1 in (c.requires.0, (omega (arith, S.head), rw c.in-Timeouts.is at (within c.args.rec.now 0 S c.progress-read.ensures.0)))

pub returns-in-Block : goal.returns-in-Block
returns-in-Block c = rw (← c.progress-read.ensures.1, c.in-Block.is) c.block_certificate_early.ensures

pub returns-in-Timeouts : goal.returns-in-Timeouts
returns-in-Timeouts c = rw (← c.progress-read.ensures.1, c.in-Timeouts.is) c.timeout_certificate_early.ensures

use lib.ListN.{length-drop}
use Rattle.codec.proofs.Laws.{part_rest}
use Rattle.wire.specs.Content.{progress_means, Within}
use Rattle.certificate.specs.Safe.{safe_certificate}
use native.Mathlib.Omega.{arith}
use Rattle.certificate.proofs.safe.safe_certificate.Goals as goal

pub block_certificate-requires : goal.block_certificate-requires
block_certificate-requires c = rw c.in-Block.is at c.requires.1

pub slice_bounds-safe_of_timeouts-count : goal.slice_bounds-safe_of_timeouts-count
unfolding Within
slice_bounds-safe_of_timeouts-count c = let h = rw c.in-Timeouts.is at c.requires.1 in omega (arith, h)

pub slice_bounds-safe_of_timeouts-start : goal.slice_bounds-safe_of_timeouts-start
unfolding Within
slice_bounds-safe_of_timeouts-start c = let h = rw c.in-Timeouts.is at c.requires.1 in omega (arith, h)

pub safe_of_timeouts-requires : goal.safe_of_timeouts-requires
unfolding Within
safe_of_timeouts-requires c = let h = rw c.in-Timeouts.is at c.requires.1 in (c.requires.0, (rw (part_rest, length-drop) (omega (arith, h)), omega (arith, h)))

pub returns-in-Block : goal.returns-in-Block
unfolding safe_certificate progress_means
returns-in-Block c = rw (c.block_certificate.ensures, c.in-Block.is)

pub returns-in-Timeouts : goal.returns-in-Timeouts
unfolding safe_certificate progress_means
returns-in-Timeouts c = rw (c.safe_of_timeouts.ensures, part_rest, c.in-Timeouts.is)

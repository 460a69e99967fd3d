use lib.Pow.{pow_pos}
use Rattle.codec.proofs.Words.{shifted}
use Rattle.memory.specs.Kept.{kept_count}
use native.Mathlib.Omega.{arith}
use Rattle.memory.proofs.kept.kept_count.Goals as goal

pub nonzero_rem-mask : goal.nonzero_rem-mask
nonzero_rem-mask c = rw (shifted _ c.requires.1) (omega (arith, pow_pos c.args.n))

pub returns : goal.returns
unfolding kept_count
returns c = rw (c.signer_count.ensures, c.mask.ensures, shifted _ c.requires.1)

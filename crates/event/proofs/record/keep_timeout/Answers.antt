use mathlib.Core.Path.{◌∙◌}
use native.Mathlib.Omega.{arith}
use Rattle.event.proofs.record.keep_timeout.Goals as goal

pub u64_at-requires : goal.u64_at-requires
u64_at-requires c = omega (arith, c.requires.1.0)

pub timeout_row-row-requires : goal.timeout_row-row-requires
timeout_row-row-requires c = tt

pub u16_at-requires : goal.u16_at-requires
u16_at-requires c = omega (arith, c.requires.1.0)

pub keep-requires : goal.keep-requires
keep-requires c = (omega (arith, c.timeout_row-row.ensures), (omega (arith, c.requires.1.0), (omega (arith, c.u16_at.ensures, c.requires.1.1), omega (arith, c.requires.1.0, c.timeout_row-row.ensures, c.requires.0))))

pub returns : goal.returns
returns c = c.keep.ensures ∙ rw (c.timeout_row-row.ensures, c.u64_at.ensures, c.u16_at.ensures, c.requires.1.0)

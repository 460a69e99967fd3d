use mathlib.Core.Path.{◌∙◌}
use lib.ListN.{drop, length-take}
use Prim.Native.Nat.{◌-◌}
use Rattle.event.proofs.Records.{kept_name}
use native.Mathlib.Omega.{arith}
use Rattle.event.proofs.record.keep_ballot.Goals as goal

pub u16_at-requires : goal.u16_at-requires
u16_at-requires c = omega (arith, c.requires.1.0)

pub slice_bounds-name-end : goal.slice_bounds-name-end
slice_bounds-name-end c = omega (arith, c.requires.1.0)

pub keep-requires : goal.keep-requires
keep-requires c = let l = length-take (48 - 16) (drop 16 c.args.rec.now) in (c.requires.0.0, (omega (arith, l), (omega (arith, c.u16_at.ensures, c.requires.1.1), omega (arith, l, c.requires.0))))

pub returns : goal.returns
returns c = kept_name _ _ _ _ c.requires.1.0 (c.keep.ensures ∙ rw c.u16_at.ensures)

-- The entries that are left.
use Prim.Native.Nat.{◌-◌}
use Rattle.blocks.proofs.+keep_from.Given as goal

abbrev pub decreases-keep_from : goal.decreases-keep_from
decreases-keep_from l = l.count - l.i

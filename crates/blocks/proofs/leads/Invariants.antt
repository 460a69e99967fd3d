-- The block where the walk stands descends as the first one does; the heights fall.
use mathlib.Core.Path.{◌≡◌}
use Rattle.blocks.specs.Store.{descends}
use Rattle.blocks.proofs.leads.Given as goal

abbrev pub invariant-down : goal.invariant-down
invariant-down l = descends l.tip l.held l.block ≡ descends l.tip l.held l.fn.b

abbrev pub decreases-down : goal.decreases-down
decreases-down l = l.block.height.0

-- The height of the block where the walk stands.
use Rattle.blocks.proofs.+put_line.Given as goal

abbrev pub decreases-put_line : goal.decreases-put_line
decreases-put_line l = l.b.height.0

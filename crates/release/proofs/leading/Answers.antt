use mathlib.Core.Bool.{Bool, true, false, cond}
use mathlib.Core.Path.{◌≡◌, refl}
use Rattle.std.specs.Bool.{then_some}
use Rattle.blocks.specs.declared.Block.{Block}
use Rattle.blocks.specs.Store.{found, found_of, missing}
use Rattle.release.specs.Search.{leading}
use Rattle.release.proofs.leading.Goals as goal

pub returns-in_err-block : goal.returns-in_err-block
unfolding leading
returns-in_err-block c = rw (c.from_residual.ensures, ← c.block_count-count.ensures, ← c.in_err-block.ensures)

-- a block that is taken where the test says so
taken : (t : Bool) (b : Block) → found_of (then_some t b) ≡ cond t (found b) missing
taken true b = refl
taken false b = refl

pub returns : goal.returns
unfolding leading
returns c =
    rw (← c.block_count-count.ensures, ← c.in_ok-block.ensures, ← c.descends.ensures, c.then_some.ensures)
    (taken c.descends.result c.in_ok-block.block)

use mathlib.Core.Path.{refl}
use Rattle.event.proofs.Records.{block_read}
use Rattle.event.proofs.record.on_block.Goals as goal

pub block-requires : goal.block-requires
block-requires c = c.requires.1.1

pub block_of-block-requires : goal.block_of-block-requires
block_of-block-requires c = tt

pub take_place-placed-requires : goal.take_place-placed-requires
take_place-placed-requires c = (c.requires.0, c.requires.1.0)

pub returns : goal.returns
returns c =
    let b = block_read _ c.block.ensures c.block_of-block.ensures in
    (refl, (rw b at c.take_place-placed.ensures.0, c.take_place-placed.ensures.1))

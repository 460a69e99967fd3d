use Rattle.event.proofs.Records.{inner_long, inner_is, proposal_read}
use native.Mathlib.Omega.{arith}
use Rattle.event.proofs.record.on_proposal.Goals as goal

pub u64_at-requires : goal.u64_at-requires
u64_at-requires c = omega (arith, inner_long _ c.args.rec.now c.requires.1.0)

pub proposed-requires : goal.proposed-requires
proposed-requires c = omega (arith, inner_long _ c.args.rec.now c.requires.1.0)

pub block_of-block-requires : goal.block_of-block-requires
block_of-block-requires c = tt

pub slice_bounds-proposition-count : goal.slice_bounds-proposition-count
slice_bounds-proposition-count c = omega (arith, inner_long _ c.args.rec.now c.requires.1.0)

pub slice_bounds-proposition-start : goal.slice_bounds-proposition-start
slice_bounds-proposition-start c = omega (arith, inner_long _ c.args.rec.now c.requires.1.0)

pub proposition-requires : goal.proposition-requires
proposition-requires c = (c.requires.0, (inner_is _ c.args.rec.now c.requires.1.0, c.requires.1.1))

pub returns : goal.returns
returns c = proposal_read c.args.d _ _ c.args.rec.now c.args.held c.u64_at.ensures c.proposed.ensures c.block_of-block.ensures c.proposition.ensures

use mathlib.Core.Path.{ap, ◌∙◌}
use lib.ListN.{length}
use Rattle.codec.specs.Bytes.{patch}
use Rattle.event.proofs.Proposing.{entry_in, entry_size, entry_lent, own_proposal_is}
use native.Mathlib.Omega.{arith}
use Rattle.event.proofs.host.put_own_proposal.Goals as goal

pub entry_length-size-requires : goal.entry_length-size-requires
entry_length-size-requires c = omega (arith, c.requires.0)

pub own-requires : goal.own-requires
own-requires c = omega (arith, c.requires.0)

pub overflow_add-entry : goal.overflow_add-entry
overflow_add-entry c = omega (arith, c.entry_length-size.ensures, c.well_formed.0.0, entry_in c.args.mem.now c.requires.0 c.requires.1.0)

pub slice_bounds-entry-count : goal.slice_bounds-entry-count
slice_bounds-entry-count c = omega arith

pub slice_bounds-entry-start : goal.slice_bounds-entry-start
slice_bounds-entry-start c = omega arith

pub slice_bounds-entry-end : goal.slice_bounds-entry-end
slice_bounds-entry-end c = omega (arith, c.entry_length-size.ensures, entry_in c.args.mem.now c.requires.0 c.requires.1.0)

pub put_proposal-requires : goal.put_proposal-requires
put_proposal-requires c = let l = ap length (entry_lent c.args.mem.now c.entry_length-size.ensures) in (omega (arith, l, c.requires.1), omega (arith, l, c.requires.1.0))

pub overflow_add-result : goal.overflow_add-result
overflow_add-result c = omega (arith, c.entry_length-size.ensures, c.requires.1.0, entry_size c.args.mem.now c.requires.0 c.requires.1.0)

pub overflow_add-result-2 : goal.overflow_add-result-2
overflow_add-result-2 c = omega (arith, c.entry_length-size.ensures, c.requires.1, entry_size c.args.mem.now c.requires.0 c.requires.1.0, c.well_formed.1.0.0)

pub returns : goal.returns
returns c = (omega (arith, c.entry_length-size.ensures, entry_size c.args.mem.now c.requires.0 c.requires.1.0), c.put_proposal.ensures ∙ ap (patch c.args.out.now c.args.d.at) (own_proposal_is c.args.mem.now c.args.d.counters.view.0 c.args.child c.entry_length-size.ensures c.own.ensures))

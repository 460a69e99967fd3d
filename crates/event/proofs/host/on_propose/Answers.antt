use borrow.Author.Rules.{rules}
use Rattle.protocol.proofs.call.Regular.{form_room}
use Rattle.act.proofs.Steps.{ready_regular}
use Rattle.event.specs.Event.{block_of_child}
use Rattle.event.proofs.Proposing.{propose_ready, propose_gives}
use native.Mathlib.Omega.{arith}
use Rattle.event.proofs.host.on_propose.Goals as goal

pub safe_of_entry-safe-requires : goal.safe_of_entry-safe-requires
safe_of_entry-safe-requires c = let R = ready_regular c.args.d _ _ c.requires.0 (search rules) (λ j. (c.slice_known-1.given j).fits) in (c.requires.0.long, (R.few, R.entry))

pub overflow_add-child : goal.overflow_add-child
overflow_add-child c = omega (arith, c.requires.1.0)

pub put_own_proposal-at-requires : goal.put_own_proposal-at-requires
put_own_proposal-at-requires c = let R = ready_regular c.args.d _ _ c.requires.0 (search rules) (λ j. (c.slice_known-1.given j).fits) in (c.requires.0.long, (form_room _ _ R.few R.entry, omega (arith, c.requires.0.room)))

pub adopting-requires : goal.adopting-requires
adopting-requires c = tt

pub hold_and_vote-requires : goal.hold_and_vote-requires
hold_and_vote-requires c = let R = ready_regular c.args.d _ _ c.requires.0 (search rules) (λ j. (c.slice_known-1.given j).fits) in
    (propose_ready c.args.d _ _ c.args.name c.args.base.0 (search rules) R c.requires.0 c.safe_of_entry-safe.ensures c.put_own_proposal-at.ensures c.adopting.ensures, λ e. c.requires.1.1)

pub returns : goal.returns
unfolding block_of_child
returns c = let w = c.well_formed in let R = ready_regular c.args.d _ _ c.requires.0 (search rules) (λ j. (c.slice_known-1.given j).fits) in
    propose_gives c.args.d _ _ c.args.name c.args.base.0 (search rules) R c.requires.0 c.safe_of_entry-safe.ensures c.put_own_proposal-at.ensures c.adopting.ensures (rw c.block_of.ensures at c.hold_and_vote.ensures)

use borrow.Author.Rules.{rules}
use Rattle.act.proofs.Steps.{ready_facts, ready_regular}
use Rattle.event.proofs.Holding.{hold_ready, held_only, held_and_voted}
use native.Mathlib.Omega.{arith}
use Rattle.event.proofs.hold_and_vote.Goals as goal

pub take_place-placed-requires : goal.take_place-placed-requires
take_place-placed-requires c = (c.requires.0.long, (ready_facts _ _ _ c.requires.0).blocks)

pub send_vote-draft-requires : goal.send_vote-draft-requires
send_vote-draft-requires c = let k = c.well_formed.1.1.0.1.1.0.1.1.1.1 in let high = k.0 in let lock = k.1.0 in let weak = k.1.1.0 in let tip = k.1.1.1.0 in
    hold_ready c.args.d _ _ c.args.held 48 c.requires.0 (ready_regular c.args.d _ _ c.requires.0 (search rules) (λ j. (c.slice_known-1.given j).fits)) c.requires.1 c.take_place-placed.ensures.1

pub returns-then-may_vote : goal.returns-then-may_vote
returns-then-may_vote c = held_and_voted c.args.d _ _ c.args.view.0 c.args.block c.args.held (omega (arith, c.requires.0.room)) c.take_place-placed.ensures c.may_vote.ensures c.if-may_vote.true c.send_vote-draft.ensures

pub returns : goal.returns
returns c = held_only c.args.d _ _ c.args.view.0 c.args.block c.args.held (omega (arith, c.requires.0.room)) c.take_place-placed.ensures c.may_vote.ensures c.if-may_vote.false

use Rattle.protocol.specs.Typed.{CountersTyped}
use borrow.Author.Rules.{rules}
use Rattle.perform.proofs.Typing.{counters_typed}
use Rattle.protocol.specs.Events.{on_propose}
use Rattle.event.specs.Event.{Proposable}
use Rattle.perform.specs.Perform.{fresh}
use Rattle.perform.proofs.Completing.{completes}
use Rattle.perform.proofs.Deciding.{propose_passes, propose_asks, propose_ready}
use Rattle.perform.proofs.propose.Goals as goal

pub on_propose-event-requires : goal.on_propose-event-requires
on_propose-event-requires c = propose_asks (fresh c.args.c) _ _ c.args.name c.args.below.0 (propose_passes c.args.c _ _ c.args.name c.args.below.0 c.requires) c.requires

pub finish-requires : goal.finish-requires
finish-requires c = let typed : CountersTyped c.args.c = counters_typed c.args.c _ c.well_formed.0 in
    propose_ready (fresh c.args.c) _ _ c.args.name c.args.below.0 (propose_passes c.args.c _ _ c.args.name c.args.below.0 c.requires) c.requires (let name = c.well_formed.1.1.1.0 in search rules) typed (λ j. (c.slice_known-1.given j).fits) c.on_propose-event.ensures

pub returns : goal.returns
returns c = completes (on_propose c.args.name) (Proposable c.args.name c.args.below.0) c.on_propose-event.ensures c.finish.ensures

use Rattle.protocol.specs.Typed.{CountersTyped}
use Rattle.perform.proofs.Typing.{counters_typed}
use Rattle.event.specs.Event.{Asked}
use Rattle.perform.specs.Perform.{fresh}
use Rattle.perform.proofs.Completing.{completes}
use Rattle.perform.proofs.Deciding.{record_passes, record_asks, record_ready}
use Rattle.perform.proofs.record.Goals as goal

pub on_record-event-requires : goal.on_record-event-requires
on_record-event-requires c = record_asks (fresh c.args.c) _ _ _ c.args.held (record_passes c.args.c _ _ _ c.args.held c.requires) c.requires (λ j. (c.shared_slice_known-1.given j).fits)

pub finish-requires : goal.finish-requires
finish-requires c = let typed : CountersTyped c.args.c = counters_typed c.args.c _ c.well_formed.0 in
    record_ready (fresh c.args.c) _ _ _ c.args.held (record_passes c.args.c _ _ _ c.args.held c.requires) c.requires (λ j. (c.shared_slice_known-1.given j).fits) typed (λ j. (c.slice_known-1.given j).fits) c.on_record-event.ensures

pub returns : goal.returns
returns c = completes _ (Asked _ c.args.held) c.on_record-event.ensures c.finish.ensures

use Rattle.protocol.specs.Typed.{CountersTyped}
use borrow.Author.Rules.{rules}
use Rattle.perform.proofs.Typing.{counters_typed}
use Rattle.protocol.specs.Events.{on_timer}
use Rattle.act.proofs.Steps.{ready_less}
use Rattle.event.specs.Event.{Always}
use Rattle.perform.specs.Perform.{fresh}
use Rattle.perform.proofs.Completing.{timer_passed, timer_ready, completes}
use native.Mathlib.Omega.{arith}
use Rattle.perform.proofs.timer.Goals as goal

pub on_timer-event-requires : goal.on_timer-event-requires
on_timer-event-requires c = ready_less _ _ _ _ _ (omega arith) (timer_passed c.args.c _ _ c.args.view.0 c.requires)

pub finish-requires : goal.finish-requires
finish-requires c = let typed : CountersTyped c.args.c = counters_typed c.args.c _ c.well_formed.0 in
    timer_ready (fresh c.args.c) _ _ c.args.view.0 (search rules) typed (λ j. (c.slice_known-1.given j).fits) (timer_passed c.args.c _ _ c.args.view.0 c.requires) c.on_timer-event.ensures

pub returns : goal.returns
returns c = completes (on_timer c.args.view.0) Always c.on_timer-event.ensures c.finish.ensures

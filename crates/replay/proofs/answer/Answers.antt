use Rattle.memory.specs.Leaders.{by_list}
use Rattle.protocol.specs.Contents.{none}
use Rattle.protocol.specs.OneCall.{receive, timer, propose}
use Rattle.protocol.proofs.call.Contents.{record_as_before, propose_as_before}
use Rattle.replica.specs.Reply.{lent_to, replied_by}
use Rattle.replay.specs.Requests.{call_of, asked_of}
use Rattle.replay.specs.Replay.{answered}
use Rattle.replay.proofs.Moves.{called}
use mathlib.Core.Path.{◌≡◌, sym, ap, ◌∙◌}
use Rattle.replay.proofs.answer.Goals as goal

pub returns-in-Ok-Timer : goal.returns-in-Ok-Timer
unfolding asked_of call_of
returns-in-Ok-Timer c =
    let asked : call_of c.in-Ok-Timer.field-0 ≡ timer c.in-Ok-Timer.view.0 = ap call_of (rw c.in-Ok-Timer.is at c.in-Ok-Timer.field-0-is) in
    rw (c.in-Ok-Timer.is, asked)
    (called (lent_to c.args.counters.now c.args.mem.now c.args.store.now) c.args.out.now (timer c.in-Ok-Timer.view.0) c.hydrangea_timer.result c.hydrangea_timer.ensures)

-- what the replica says of its call is said of a call with no contents
pub returns-in-Ok-Propose : goal.returns-in-Ok-Propose
unfolding asked_of call_of
returns-in-Ok-Propose c =
    let r = lent_to c.args.counters.now c.args.mem.now c.args.store.now in
    let asked : call_of c.in-Ok-Propose.field-0 ≡ propose c.in-Ok-Propose.name.bytes none = ap call_of (rw c.in-Ok-Propose.is at c.in-Ok-Propose.field-0-is) in
    rw (c.in-Ok-Propose.is, asked)
    (called r c.args.out.now (propose c.in-Ok-Propose.name.bytes none) c.hydrangea_propose.result
    (c.hydrangea_propose.ensures ∙ ap replied_by (sym (propose_as_before by_list r c.args.out.now c.in-Ok-Propose.name.bytes))))

pub returns-in-Ok-Record : goal.returns-in-Ok-Record
unfolding asked_of call_of
returns-in-Ok-Record c =
    let r = lent_to c.args.counters.now c.args.mem.now c.args.store.now in
    let asked : call_of c.in-Ok-Record.field-0 ≡ receive c.in-Ok-Record.rec.now none = ap call_of (rw c.in-Ok-Record.is at c.in-Ok-Record.field-0-is) in
    rw (c.in-Ok-Record.is, asked)
    (called r c.args.out.now (receive c.in-Ok-Record.rec.now none) c.hydrangea_record.result
    (c.hydrangea_record.ensures ∙ ap replied_by (sym (record_as_before by_list r c.args.out.now c.in-Ok-Record.rec.now))))

pub returns-in-Err : goal.returns-in-Err
unfolding asked_of answered
returns-in-Err c = rw (c.in-Err.is, c.into.ensures)

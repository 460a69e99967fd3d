use Rattle.codec.specs.Bytes.{part}
use Rattle.settings.specs.Refusal.{number}
use Rattle.replica.specs.Reply.{lent_to}
use Rattle.replay.specs.Replay.{opens_with}
use Rattle.replay.proofs.Moves.{opens_made}
use Rattle.replay.proofs.open_call.Goals as goal

pub returns-in-Some : goal.returns-in-Some
returns-in-Some c =
    rw c.in-Some.is (opens_made (part c.args.numbers.now 0) (lent_to c.args.counters.now c.args.mem.now c.args.store.now) c.in-Some.o c.hydrangea_open.result c.first_of-leaders.ensures c.hydrangea_open.ensures)

pub returns-in-None : goal.returns-in-None
unfolding opens_with number
returns-in-None c = rw (c.in-None.is, c.into.ensures)

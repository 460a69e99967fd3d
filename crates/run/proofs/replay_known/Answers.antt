use Rattle.replica.specs.Reply.{lent_to}
use Rattle.run.proofs.Turning.{known_steps}
use Rattle.run.proofs.replay_known.Goals as goal

pub returns : goal.returns
returns c =
    known_steps c.args.t c.args.buf.now (lent_to c.args.counters.now c.args.mem.now c.args.store.now) c.args.out.now c.args.lines.now c.first_of-input.ensures c.start.ensures c.run_steps.ensures

use Rattle.replica.specs.Reply.{lent_to}
use Rattle.run.proofs.Turning.{turn_went}
use Rattle.run.proofs.take_turn.Goals as goal

pub keep-requires : goal.keep-requires
keep-requires g c = c.refill-read.ensures.within

pub returns : goal.returns
returns g c =
    turn_went (lent_to c.args.counters.now c.args.mem.now c.args.store.now) _ c.args.out.now _ c.args.lines.now _ c.args.buf.now _ _ c.args.t c.refill-read.result c.keep.result c.replay_known-p.result
    c.refill-read.ensures c.replay_known-p.ensures c.keep.ensures c.requires.0 c.requires.1

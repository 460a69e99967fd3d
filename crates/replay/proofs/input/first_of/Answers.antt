use mathlib.Core.Path.{refl}
use Rattle.replay.proofs.Laws.{first_got}
use Rattle.replay.proofs.input.first_of.Goals as goal

pub returns : goal.returns
returns c = rw c.unwrap_or.ensures (first_got c.args.list.now c.args.n c.get.result c.args.list refl c.get.ensures.lookup)

use Rattle.codec.proofs.Laws.{part_rest}
use Rattle.shape.proofs.progress.Goals as goal

pub returns : goal.returns
returns c = part_rest c.args.rec.now 88

use Rattle.replay.proofs.Laws.{line_put}
use Rattle.replay.proofs.lines.put_line.Goals as goal

pub returns : goal.returns
returns c = rw (c.put_u64-5.ensures, c.put_u64-4.ensures, c.put_u64-3.ensures, c.put_u64-2.ensures, c.put_u64.ensures, line_put)

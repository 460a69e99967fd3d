use Rattle.memory.specs.Layout.{with_leaders}
use Rattle.memory.proofs.leaders.put_leaders.Goals as goal

pub returns : goal.returns
unfolding with_leaders
returns c = rw (c.put.ensures, c.put_u16.ensures)

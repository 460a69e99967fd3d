use Rattle.memory.specs.Layout.{with_entry}
use Rattle.memory.proofs.put_entry.Goals as goal

pub returns : goal.returns
unfolding with_entry
returns c = rw (c.put.ensures, c.put_u16.ensures)

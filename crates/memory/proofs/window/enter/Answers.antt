use Rattle.memory.specs.Window.{entered}
use Rattle.memory.proofs.window.enter.Goals as goal

pub returns : goal.returns
unfolding entered
returns c = rw (c.drop_timeouts.ensures, c.drop_ballots.ensures, ← c.incoming-j.ensures, ← c.incoming-k.ensures)

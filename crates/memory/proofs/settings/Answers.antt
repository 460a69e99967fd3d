use Rattle.memory.specs.Layout.{settings_of}
use Rattle.memory.proofs.settings.Goals as goal

pub returns : goal.returns
unfolding settings_of
returns c = rw (c.u16_at.ensures, c.u16_at-2.ensures, c.u16_at-3.ensures)

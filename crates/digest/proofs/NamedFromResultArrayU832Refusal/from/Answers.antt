use Rattle.settings.specs.Refusal.{answer}
use Rattle.digest.specs.Name.{reply_of}
use Rattle.digest.proofs.NamedFromResultArrayU832Refusal.from.Goals as goal

pub returns-in-Ok : goal.returns-in-Ok
unfolding answer reply_of
returns-in-Ok c = rw c.in-Ok.is

pub returns-in-Err : goal.returns-in-Err
unfolding answer reply_of
returns-in-Err c = rw (c.in-Err.is, c.from.ensures)

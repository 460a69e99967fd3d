use mathlib.Core.Path.{◌∙◌}
use Rattle.judge.specs.Want.{wanted}
use Rattle.judge.proofs.Dues.{nothing_due}
use Rattle.judge.proofs.contents.propose_due.Goals as goal

pub returns-in-Ok : goal.returns-in-Ok
unfolding wanted
returns-in-Ok c = rw c.in-Ok.is c.due_on_blocks.ensures

pub returns-in-Err : goal.returns-in-Err
unfolding wanted
returns-in-Err c = rw c.in-Err.is (c.length_refusal.ensures ∙ nothing_due c.args.name c.args.contents.now _ _ _)

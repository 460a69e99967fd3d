use Rattle.std.proofs.lemmas.Result.{IfOk-at_ok}
use Rattle.settings.specs.Refusal.{refused}
use Rattle.refusals.proofs.Numbers.{refused_none, refused_some}
use Rattle.judge.specs.Contents.{propose_due}
use Rattle.judge.proofs.Dues.{stopped, reached}
use Rattle.judge.proofs.contents.due_on_blocks.Goals as goal

pub next_child-requires : goal.next_child-requires
next_child-requires c = (IfOk-at_ok _ c.in-Ok.is c.propose_first.ensures.below).1

pub returns-in-Ok : goal.returns-in-Ok
unfolding propose_due
returns-in-Ok c = reached _ _ c.propose_first.ensures.refusal (refused_none c.in-Ok.is) (rw (IfOk-at_ok _ c.in-Ok.is c.propose_first.ensures.below).0 (rw c.next_child.ensures at c.digest_refusal.ensures))

pub returns-in-Err : goal.returns-in-Err
unfolding propose_due refused
returns-in-Err c = stopped _ _ c.propose_first.ensures.refusal (refused_some c.in-Err.is)

use borrow.Author.Rules.{rules}
use Rattle.settings.specs.Refusal.{answer}
use Rattle.replica.specs.Reply.{reply_of}
use Rattle.replica.proofs.ReplyFromResultUsizeRefusal.from.Goals as goal

pub returns-in-Ok : goal.returns-in-Ok
unfolding reply_of answer
returns-in-Ok c = search rules

pub returns-in-Err : goal.returns-in-Err
unfolding reply_of answer
returns-in-Err c = search rules

use borrow.Author.Rules.{rules}
use Rattle.decisive.specs.Reply.{reply_of, judged}
use Rattle.decisive.proofs.DecisiveFromResultOptionU64Refusal.from.Goals as goal

pub returns-in-Ok-Some : goal.returns-in-Ok-Some
unfolding reply_of judged
returns-in-Ok-Some c = search rules

pub returns-in-Ok-None : goal.returns-in-Ok-None
unfolding reply_of judged
returns-in-Ok-None c = search rules

pub returns-in-Err : goal.returns-in-Err
unfolding reply_of judged
returns-in-Err c = search rules

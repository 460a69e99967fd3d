use borrow.Author.Rules.{rules}
use Rattle.certificate.specs.Good.{timeout_good}
use Rattle.certificate.proofs.Timeouts.{all_slots}
use Rattle.certificate.proofs.good.all_good.Goals as goal

pub returns : goal.returns
returns c = rw (← c.timeouts.ensures.slots) (all_slots (timeout_good c.args.settings) c.timeouts.result c.all.new.self (λ x b q h. search rules) c.all.ensures.ran c.timeouts.ensures.size)

use Rattle.std.proofs.Common.{arith}
use Rattle.std.proofs.lemmas.Grind.{common_steps}
use Rattle.settings.specs.Refusal.{refused, number}
use Rattle.refusals.specs.Number.{first_of}
use Rattle.protocol.specs.Refusals.{refusals}
use Rattle.wire.specs.Content.{timeout_of}
use Rattle.refusals.specs.Early.{kept_rules}
use Rattle.refusals.proofs.early.timeout_early.Goals as goal

pub returns-then-not_other : goal.returns-then-not_other
unfolding refused number first_of refusals timeout_of kept_rules
returns-then-not_other c = grind (arith, common_steps)

pub returns-then-below_view : goal.returns-then-below_view
unfolding refused number first_of refusals timeout_of kept_rules
returns-then-below_view c = grind (arith, common_steps)

pub returns-then-above_window : goal.returns-then-above_window
unfolding refused number first_of refusals timeout_of kept_rules
returns-then-above_window c = grind (arith, common_steps)

pub returns-then-not-timeout_good : goal.returns-then-not-timeout_good
unfolding refused number first_of refusals timeout_of kept_rules
returns-then-not-timeout_good c = grind (arith, common_steps)

pub returns : goal.returns
unfolding refused number first_of refusals timeout_of kept_rules
returns c = grind (arith, common_steps)

use Rattle.std.proofs.Common.{arith}
use Rattle.std.proofs.lemmas.Grind.{common_steps}
use Rattle.settings.specs.Refusal.{refused, number}
use Rattle.refusals.specs.Number.{first_of}
use Rattle.protocol.specs.Refusals.{refusals}
use Rattle.wire.specs.Content.{progress_means}
use Rattle.refusals.proofs.early.block_certificate_early.Goals as goal

pub returns-then-n-u16_at : goal.returns-then-n-u16_at
unfolding refused number first_of refusals progress_means
returns-then-n-u16_at c = grind (arith, common_steps)

pub returns-then-le : goal.returns-then-le
unfolding refused number first_of refusals progress_means
returns-then-le c = grind (arith, common_steps)

pub returns-then-not-is_good : goal.returns-then-not-is_good
unfolding refused number first_of refusals progress_means
returns-then-not-is_good c = grind (arith, common_steps)

pub returns-then-outranks : goal.returns-then-outranks
unfolding refused number first_of refusals progress_means
returns-then-outranks c = grind (arith, common_steps)

pub returns : goal.returns
unfolding refused number first_of refusals progress_means
returns c = grind (arith, common_steps)

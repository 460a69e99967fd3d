use Rattle.std.proofs.Common.{arith}
use Rattle.std.proofs.lemmas.Grind.{common_steps}
use Rattle.settings.specs.Refusal.{refused, number}
use Rattle.refusals.specs.Number.{first_of}
use Rattle.judge.proofs.chain.block_chain.Goals as goal

pub returns-then-same_found : goal.returns-then-same_found
unfolding refused number first_of
returns-then-same_found c = grind (arith, common_steps)

pub returns : goal.returns
unfolding refused number first_of
returns c = grind (arith, common_steps)

use mathlib.Core.Path.{◌≡◌, sym}
use native.Mathlib.Omega.{arith}
use Rattle.std.proofs.lemmas.Grind.{common_steps}
use Rattle.settings.specs.Refusal.{refused}
use Rattle.wire.specs.Fields.{kind_of}
use Rattle.wire.specs.Content.{content, child_at, proposed_of, block_of}
use Rattle.wire.proofs.Frames.{whole_header, whole_block, whole_proposal}
use Rattle.judge.specs.Late.{late_rules}
use Rattle.judge.proofs.Lates.{late_none}
use Rattle.judge.proofs.chain.record_chain.Goals as goal

pub kind_at-requires : goal.kind_at-requires
kind_at-requires c = omega (arith, whole_header _ c.requires)

pub proposed-requires : goal.proposed-requires
proposed-requires c = let k : kind_of c.args.rec.now ≡ 7 = sym (rw c.in-Some-Proposal.field-0-is at c.in-Some-Proposal.ensures) in omega (arith, whole_proposal _ c.requires k)

pub returns-in-Some-Proposal : goal.returns-in-Some-Proposal
unfolding content late_rules proposed_of child_at
returns-in-Some-Proposal c = let k : kind_of c.args.rec.now ≡ 7 = sym (rw c.in-Some-Proposal.field-0-is at c.in-Some-Proposal.ensures) in rw k (rw c.proposed.ensures at c.chain.ensures)

pub block-requires : goal.block-requires
block-requires c = let k : kind_of c.args.rec.now ≡ 8 = sym (rw c.in-Some-Block.field-0-is at c.in-Some-Block.ensures) in omega (arith, whole_block _ c.requires k)

pub returns-in-Some-Block : goal.returns-in-Some-Block
unfolding content late_rules block_of child_at
returns-in-Some-Block c = let k : kind_of c.args.rec.now ≡ 8 = sym (rw c.in-Some-Block.field-0-is at c.in-Some-Block.ensures) in rw k (rw c.block.ensures at c.block_chain.ensures)

pub returns-in_default : goal.returns-in_default
unfolding refused
returns-in_default c = late_none _ _ _ _ (λ k. grind (arith, common_steps)) (λ k. grind (arith, common_steps))

pub returns-in_default-2 : goal.returns-in_default-2
unfolding refused
returns-in_default-2 c = late_none _ _ _ _ (λ k. grind (arith, common_steps)) (λ k. grind (arith, common_steps))

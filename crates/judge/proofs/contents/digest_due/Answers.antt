use mathlib.Core.Path.{◌≡◌, sym}
use native.Mathlib.Omega.{arith}
use Rattle.std.proofs.lemmas.Grind.{common_steps}
use Rattle.settings.specs.Refusal.{refused}
use Rattle.wire.specs.Fields.{kind_of}
use Rattle.wire.specs.Content.{content, child_at, proposed_of, block_of}
use Rattle.wire.proofs.Frames.{whole_header, whole_block, whole_proposal, inner_length, inner_kind}
use Rattle.refusals.proofs.Numbers.{is_refused, isnt_refused}
use Rattle.judge.specs.Contents.{digest_due}
use Rattle.judge.proofs.Dues.{digest_none, stopped, reached}
use Rattle.judge.proofs.contents.digest_due.Goals as goal

pub kind_at-requires : goal.kind_at-requires
kind_at-requires c = omega (arith, whole_header _ c.requires.1.1.1.0)

pub proposal_first-requires : goal.proposal_first-requires
proposal_first-requires c = let k : kind_of c.args.rec.now ≡ 7 = sym (rw c.in-Some-Proposal.field-0-is at c.in-Some-Proposal.ensures) in let p = c.requires in (omega (arith, p.0), (p.1.1.0, (whole_proposal _ p.1.1.1.0 k, (inner_length _ p.1.1.1.0 k, inner_kind _ p.1.1.1.1 k))))

pub returns-then-is_err : goal.returns-then-is_err
unfolding content digest_due refused
returns-then-is_err c = let k : kind_of c.args.rec.now ≡ 7 = sym (rw c.in-Some-Proposal.field-0-is at c.in-Some-Proposal.ensures) in rw k (stopped _ _ c.proposal_first.ensures (is_refused _ c.is_err.ensures.value c.if-is_err.true))

pub proposed-requires : goal.proposed-requires
proposed-requires c = let k : kind_of c.args.rec.now ≡ 7 = sym (rw c.in-Some-Proposal.field-0-is at c.in-Some-Proposal.ensures) in omega (arith, whole_proposal _ c.requires.1.1.1.0 k)

pub returns-else-is_err : goal.returns-else-is_err
unfolding content digest_due proposed_of child_at
returns-else-is_err c = let k : kind_of c.args.rec.now ≡ 7 = sym (rw c.in-Some-Proposal.field-0-is at c.in-Some-Proposal.ensures) in rw k (reached _ _ c.proposal_first.ensures (isnt_refused _ c.is_err.ensures.value c.if-is_err.false) (rw c.proposed.ensures at c.digest_refusal.ensures))

pub block_first-requires : goal.block_first-requires
block_first-requires c = (omega (arith, c.requires.0), whole_header _ c.requires.1.1.1.0)

pub returns-then-is_err-2 : goal.returns-then-is_err-2
unfolding content digest_due refused
returns-then-is_err-2 c = let k : kind_of c.args.rec.now ≡ 8 = sym (rw c.in-Some-Block.field-0-is at c.in-Some-Block.ensures) in rw k (stopped _ _ c.block_first.ensures (is_refused _ c.is_err-in-Some-Block.ensures.value c.if-is_err-2.true))

pub block-requires : goal.block-requires
block-requires c = let k : kind_of c.args.rec.now ≡ 8 = sym (rw c.in-Some-Block.field-0-is at c.in-Some-Block.ensures) in omega (arith, whole_block _ c.requires.1.1.1.0 k)

pub returns-else-is_err-2 : goal.returns-else-is_err-2
unfolding content digest_due block_of child_at
returns-else-is_err-2 c = let k : kind_of c.args.rec.now ≡ 8 = sym (rw c.in-Some-Block.field-0-is at c.in-Some-Block.ensures) in rw k (reached _ _ c.block_first.ensures (isnt_refused _ c.is_err-in-Some-Block.ensures.value c.if-is_err-2.false) (rw c.block.ensures at c.digest_refusal-in-Some-Block.ensures))

pub returns-in_default : goal.returns-in_default
unfolding refused
returns-in_default c = digest_none _ _ _ _ (λ k. grind (arith, common_steps)) (λ k. grind (arith, common_steps))

pub returns-in_default-2 : goal.returns-in_default-2
unfolding refused
returns-in_default-2 c = digest_none _ _ _ _ (λ k. grind (arith, common_steps)) (λ k. grind (arith, common_steps))

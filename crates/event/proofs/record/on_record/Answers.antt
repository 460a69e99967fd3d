use mathlib.Core.Path.{◌≡◌, sym, ◌∙◌}
use Rattle.wire.specs.Fields.{kind_of}
use Rattle.wire.specs.Kinds.{NoKind}
use Rattle.act.proofs.Steps.{ready_facts, ready_less}
use Rattle.act.proofs.Advancing.{progress_room}
use Rattle.event.proofs.Records.{vote_gives, commit_gives, timeout_gives, proposal_gives, block_gives, certificate_gives, others, has_kind}
use native.Mathlib.Omega.{arith}
use Rattle.event.proofs.record.on_record.Goals as goal

pub keep_ballot-requires : goal.keep_ballot-requires
keep_ballot-requires c =
    let is : kind_of c.args.rec.now ≡ 1 = sym (rw c.in-Vote.is at c.in-Some.ensures) in
    let k = c.requires.1.1.vote is in
    ((omega (arith, c.vote_row.ensures), omega (arith, c.vote_row.ensures, c.requires.0.long)), (k.0, omega (arith, k.1, (ready_facts _ _ _ c.requires.0).few)))

pub returns-in-Vote : goal.returns-in-Vote
returns-in-Vote c =
    let is : kind_of c.args.rec.now ≡ 1 = sym (rw c.in-Vote.is at c.in-Some.ensures) in
    vote_gives c.args.d _ _ c.args.rec.now c.args.held (omega (arith, c.requires.0.room)) is (c.keep_ballot.ensures ∙ rw (c.vote_row.ensures, c.u64_at.ensures)) c.no_block.ensures

pub keep_ballot-requires-in-Commit : goal.keep_ballot-requires-in-Commit
keep_ballot-requires-in-Commit c =
    let is : kind_of c.args.rec.now ≡ 2 = sym (rw c.in-Commit.is at c.in-Some.ensures) in
    let k = c.requires.1.1.commit is in
    ((omega (arith, c.commit_row.ensures), omega (arith, c.commit_row.ensures, c.requires.0.long)), (k.0, omega (arith, k.1, (ready_facts _ _ _ c.requires.0).few)))

pub returns-in-Commit : goal.returns-in-Commit
returns-in-Commit c =
    let is : kind_of c.args.rec.now ≡ 2 = sym (rw c.in-Commit.is at c.in-Some.ensures) in
    commit_gives c.args.d _ _ c.args.rec.now c.args.held (omega (arith, c.requires.0.room)) is
    (c.keep_ballot-in-Commit.ensures ∙ rw (c.commit_row.ensures, c.u64_at-in-Commit.ensures)) c.no_block-in-Commit.ensures

pub keep_timeout-requires : goal.keep_timeout-requires
keep_timeout-requires c =
    let is : kind_of c.args.rec.now ≡ 5 = sym (rw c.in-Timeout.is at c.in-Some.ensures) in
    let k = c.requires.1.1.timeout is in
    (c.requires.0.long, (k.0, omega (arith, k.1, (ready_facts _ _ _ c.requires.0).few)))

pub returns-in-Timeout : goal.returns-in-Timeout
returns-in-Timeout c =
    let is : kind_of c.args.rec.now ≡ 5 = sym (rw c.in-Timeout.is at c.in-Some.ensures) in
    timeout_gives c.args.d _ _ c.args.rec.now c.args.held (omega (arith, c.requires.0.room)) is c.keep_timeout.ensures c.no_block-in-Timeout.ensures

pub on_proposal-requires : goal.on_proposal-requires
on_proposal-requires c =
    let is : kind_of c.args.rec.now ≡ 7 = sym (rw c.in-Proposal.is at c.in-Some.ensures) in
    let k = c.requires.1.1.proposal is in
    (c.requires.0, (k.0, k.1))

pub returns-in-Proposal : goal.returns-in-Proposal
returns-in-Proposal c =
    let is : kind_of c.args.rec.now ≡ 7 = sym (rw c.in-Proposal.is at c.in-Some.ensures) in
    proposal_gives c.args.d _ _ c.args.rec.now c.args.held is c.on_proposal.ensures

pub on_block-requires : goal.on_block-requires
on_block-requires c =
    let is : kind_of c.args.rec.now ≡ 8 = sym (rw c.in-Block.is at c.in-Some.ensures) in
    let k = c.requires.1.1.block is in
    (c.requires.0.long, ((ready_facts _ _ _ c.requires.0).blocks, omega (arith, k.0)))

pub returns-in-Block : goal.returns-in-Block
returns-in-Block c =
    let is : kind_of c.args.rec.now ≡ 8 = sym (rw c.in-Block.is at c.in-Some.ensures) in
    block_gives c.args.d _ _ c.args.rec.now c.args.held (omega (arith, c.requires.0.room)) is c.on_block.ensures

pub unreachable-requires : goal.unreachable-requires
unreachable-requires c =
    let none : NoKind (kind_of c.args.rec.now) = rw c.in_default.is at c.kind_at.ensures in
    has_kind c.args.mem.now c.args.rec.now c.args.held c.requires.1.1 none

pub progress-requires : goal.progress-requires
progress-requires c =
    let o = c.in_default-kind in
    let p = others c.args.mem.now c.args.rec.now c.args.held c.in-Some.kind c.requires.1.1 c.in-Some.ensures o.not-Vote o.not-Commit o.not-Timeout o.not-Proposal o.not-Block in
    (ready_less _ _ _ _ _ (omega (arith, progress_room _ c.args.rec.now (ready_facts _ _ _ c.requires.0).few p)) c.requires.0, p)

pub returns-in_default-kind : goal.returns-in_default-kind
returns-in_default-kind c =
    let o = c.in_default-kind in
    let p = others c.args.mem.now c.args.rec.now c.args.held c.in-Some.kind c.requires.1.1 c.in-Some.ensures o.not-Vote o.not-Commit o.not-Timeout o.not-Proposal o.not-Block in
    certificate_gives c.args.d _ _ c.args.rec.now c.args.held p c.progress.ensures c.no_block-in_default-kind.ensures

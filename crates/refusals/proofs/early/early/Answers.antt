use mathlib.Core.Path.{◌≡◌, sym}
use mathlib.Core.Bool.{false}
use mathlib.Core.List.{List}
use Prim.Native.Nat.{ℕ}
use borrow.Author.Tests.{ne_eqb}
use native.Mathlib.Omega.{arith}
use Rattle.std.proofs.lemmas.Grind.{common_steps}
use Rattle.wire.specs.Fields.{kind_of}
use Rattle.wire.specs.Shape.{certificate_length, certificate_kind_bad, bad_length, bad_kind}
use Rattle.wire.specs.Content.{content}
use Rattle.wire.proofs.Frames.{whole_header, whole_vote, whole_commit, whole_timeout, whole_proposal, inner_length, whole_certificate, inner_kind, certificate_kind, certificate_other}
use Rattle.protocol.specs.Refusals.{refusals}
use Rattle.refusals.specs.Early.{ballot_rules, early_rules}
use Rattle.refusals.proofs.early.early.Goals.{in_default-via-in-Some+in_default, in_default-via-in_default}
use Rattle.refusals.proofs.early.early.Goals as goal

-- a record of no other kind is a certificate
record Others (r : List ℕ) : Type 0 where
  pub vote : kind_of r ≡ 1 → ⊥
  pub commit : kind_of r ≡ 2 → ⊥
  pub timeout : kind_of r ≡ 5 → ⊥
  pub proposal : kind_of r ≡ 7 → ⊥
  pub block : kind_of r ≡ 8 → ⊥

is-certificate : (r : List ℕ) → bad_length r ≡ false → bad_kind r ≡ false → Others r → (certificate_length r ≡ false) × (certificate_kind_bad r ≡ false)
is-certificate r l k o = (whole_certificate r l o.vote o.commit o.timeout o.proposal o.block, certificate_kind r k o.vote o.commit o.timeout o.proposal o.block)

no-release : (r : List ℕ) → certificate_kind_bad r ≡ false → kind_of r ≡ 9 → ⊥
no-release r k e = let six = certificate_other r k (λ z. omega (arith, e, z)) in omega (arith, e, six)

pub kind_at-requires : goal.kind_at-requires
kind_at-requires c = omega (arith, whole_header _ c.requires.1.1.1.0)

pub u64_at-requires : goal.u64_at-requires
u64_at-requires c = let k : 1 ≡ kind_of c.args.rec.now = rw c.in-Some-Vote.field-0-is at c.in-Some-Vote.ensures in omega (arith, whole_vote _ c.requires.1.1.1.0 (sym k))

pub ballot-requires : goal.ballot-requires
ballot-requires c = let k : 1 ≡ kind_of c.args.rec.now = rw c.in-Some-Vote.field-0-is at c.in-Some-Vote.ensures in
    (c.requires.0, (c.requires.1.0, (omega (arith, whole_vote _ c.requires.1.1.1.0 (sym k)), omega (arith, c.vote_row.ensures))))

pub returns-in-Some-Vote : goal.returns-in-Some-Vote
unfolding content early_rules refusals ballot_rules
returns-in-Some-Vote c = let k : 1 ≡ kind_of c.args.rec.now = rw c.in-Some-Vote.field-0-is at c.in-Some-Vote.ensures in rw (← k) (rw (c.vote_row.ensures, c.u64_at.ensures) at c.ballot.ensures)

pub u64_at-requires-in-Some-Commit : goal.u64_at-requires-in-Some-Commit
u64_at-requires-in-Some-Commit c = let k : 2 ≡ kind_of c.args.rec.now = rw c.in-Some-Commit.field-0-is at c.in-Some-Commit.ensures in omega (arith, whole_commit _ c.requires.1.1.1.0 (sym k))

pub ballot-requires-in-Some-Commit : goal.ballot-requires-in-Some-Commit
ballot-requires-in-Some-Commit c = let k : 2 ≡ kind_of c.args.rec.now = rw c.in-Some-Commit.field-0-is at c.in-Some-Commit.ensures in
    (c.requires.0, (c.requires.1.0, (omega (arith, whole_commit _ c.requires.1.1.1.0 (sym k)), omega (arith, c.commit_row.ensures))))

pub returns-in-Some-Commit : goal.returns-in-Some-Commit
unfolding content early_rules refusals ballot_rules
returns-in-Some-Commit c = let k : 2 ≡ kind_of c.args.rec.now = rw c.in-Some-Commit.field-0-is at c.in-Some-Commit.ensures in rw (← k) (rw (c.commit_row.ensures, c.u64_at-in-Some-Commit.ensures) at c.ballot-in-Some-Commit.ensures)

pub timeout_early-requires : goal.timeout_early-requires
timeout_early-requires c = let k : 5 ≡ kind_of c.args.rec.now = rw c.in-Some-Timeout.field-0-is at c.in-Some-Timeout.ensures in (c.requires.0, (c.requires.1.0, omega (arith, whole_timeout _ c.requires.1.1.1.0 (sym k))))

pub returns-in-Some-Timeout : goal.returns-in-Some-Timeout
unfolding content early_rules
returns-in-Some-Timeout c = let k : 5 ≡ kind_of c.args.rec.now = rw c.in-Some-Timeout.field-0-is at c.in-Some-Timeout.ensures in rw (← k) c.timeout_early.ensures

pub proposal_early-requires : goal.proposal_early-requires
proposal_early-requires c = let k : 7 ≡ kind_of c.args.rec.now = rw c.in-Some-Proposal.field-0-is at c.in-Some-Proposal.ensures in
    (omega (arith, c.requires.0), (c.requires.1.1.0, (whole_proposal _ c.requires.1.1.1.0 (sym k), (inner_length _ c.requires.1.1.1.0 (sym k), inner_kind _ c.requires.1.1.1.1 (sym k)))))

pub returns-in-Some-Proposal : goal.returns-in-Some-Proposal
unfolding content early_rules
returns-in-Some-Proposal c = let k : 7 ≡ kind_of c.args.rec.now = rw c.in-Some-Proposal.field-0-is at c.in-Some-Proposal.ensures in rw (← k) c.proposal_early.ensures

pub block_first-requires : goal.block_first-requires
block_first-requires c = (omega (arith, c.requires.0), whole_header _ c.requires.1.1.1.0)

pub returns-in-Some-Block : goal.returns-in-Some-Block
unfolding content early_rules
returns-in-Some-Block c = let k : 8 ≡ kind_of c.args.rec.now = rw c.in-Some-Block.field-0-is at c.in-Some-Block.ensures in rw (← k) c.block_first.ensures

pub certificate_early-requires : goal.certificate_early-requires
certificate_early-requires c = let o : Others c.args.rec.now = elim c.in_default.branch [ in_default-via-in-Some+in_default w ↦ record { vote = λ e. grind (arith, common_steps); commit = λ e. grind (arith, common_steps); timeout = λ e. grind (arith, common_steps); proposal = λ e. grind (arith, common_steps); block = λ e. grind (arith, common_steps) } | in_default-via-in_default w ↦ record { vote = λ e. grind (arith, common_steps); commit = λ e. grind (arith, common_steps); timeout = λ e. grind (arith, common_steps); proposal = λ e. grind (arith, common_steps); block = λ e. grind (arith, common_steps) } ] in
    (omega (arith, c.requires.0), is-certificate _ c.requires.1.1.1.0 c.requires.1.1.1.1 o)

pub returns-in_default : goal.returns-in_default
unfolding content early_rules
returns-in_default c = let o : Others c.args.rec.now = elim c.in_default.branch [ in_default-via-in-Some+in_default w ↦ record { vote = λ e. grind (arith, common_steps); commit = λ e. grind (arith, common_steps); timeout = λ e. grind (arith, common_steps); proposal = λ e. grind (arith, common_steps); block = λ e. grind (arith, common_steps) } | in_default-via-in_default w ↦ record { vote = λ e. grind (arith, common_steps); commit = λ e. grind (arith, common_steps); timeout = λ e. grind (arith, common_steps); proposal = λ e. grind (arith, common_steps); block = λ e. grind (arith, common_steps) } ] in
    let g = is-certificate _ c.requires.1.1.1.0 c.requires.1.1.1.1 o in
    rw (ne_eqb _ _ o.vote, ne_eqb _ _ o.commit, ne_eqb _ _ o.timeout, ne_eqb _ _ o.proposal, ne_eqb _ _ o.block, ne_eqb _ _ (no-release _ g.1)) c.certificate_early.ensures

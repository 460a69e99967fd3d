use mathlib.Core.Path.{◌≡◌, sym, ◌∙◌}
use native.Mathlib.Omega.{arith}
use Rattle.std.proofs.lemmas.Grind.{common_steps}
use Rattle.wire.specs.Fields.{kind_of}
use Rattle.wire.specs.Content.{content}
use Rattle.wire.proofs.Frames.{whole_header, whole_block, whole_proposal, inner_length, inner_kind}
use Rattle.wire.proofs.Certificates.{Stands, within, shaped_stands}
use Rattle.judge.specs.Want.{asked}
use Rattle.judge.proofs.Wants.{asked_none}
use Rattle.judge.proofs.look_up.Goals.{in_default-via-in-Some+in_default, in_default-via-in_default}
use Rattle.judge.proofs.look_up.Goals as goal

pub kind_at-requires : goal.kind_at-requires
kind_at-requires c = omega (arith, whole_header _ c.requires.1.1.0)

pub progress-inner-requires : goal.progress-inner-requires
progress-inner-requires c = let k : kind_of c.args.rec.now ≡ 7 = sym (rw c.in-Some-Proposal.field-0-is at c.in-Some-Proposal.ensures) in
    let inner : Stands c.args.rec.now 88 = let r = c.args.rec.now in shaped_stands r 88 (inner_length r c.requires.1.1.0 k) (inner_kind r c.requires.1.1.1 k) in
    (inner.head, inner.block)

pub safe_certificate-safe-requires : goal.safe_certificate-safe-requires
safe_certificate-safe-requires c = let k : kind_of c.args.rec.now ≡ 7 = sym (rw c.in-Some-Proposal.field-0-is at c.in-Some-Proposal.ensures) in
    let inner : Stands c.args.rec.now 88 = let r = c.args.rec.now in shaped_stands r 88 (inner_length r c.requires.1.1.0 k) (inner_kind r c.requires.1.1.1 k) in
    (rw c.settings.ensures c.requires.1.0, within c.args.rec.now 88 inner c.progress-inner.ensures.0)

pub name_at-requires : goal.name_at-requires
name_at-requires c = let k : kind_of c.args.rec.now ≡ 7 = sym (rw c.in-Some-Proposal.field-0-is at c.in-Some-Proposal.ensures) in omega (arith, whole_proposal _ c.requires.1.1.0 k)

pub returns-in-Some-Proposal : goal.returns-in-Some-Proposal
unfolding content asked
returns-in-Some-Proposal c = let k : kind_of c.args.rec.now ≡ 7 = sym (rw c.in-Some-Proposal.field-0-is at c.in-Some-Proposal.ensures) in rw k (rw (c.name_at.ensures, c.safe_certificate-safe.ensures, c.progress-inner.ensures.1, c.settings.ensures) at c.names.ensures)

pub name_at-requires-in-Some-Block : goal.name_at-requires-in-Some-Block
name_at-requires-in-Some-Block c = let k : kind_of c.args.rec.now ≡ 8 = sym (rw c.in-Some-Block.field-0-is at c.in-Some-Block.ensures) in omega (arith, whole_block _ c.requires.1.1.0 k)

pub name_at-requires-in-Some-Block-2 : goal.name_at-requires-in-Some-Block-2
name_at-requires-in-Some-Block-2 c = let k : kind_of c.args.rec.now ≡ 8 = sym (rw c.in-Some-Block.field-0-is at c.in-Some-Block.ensures) in omega (arith, whole_block _ c.requires.1.1.0 k)

pub returns-in-Some-Block : goal.returns-in-Some-Block
unfolding content asked
returns-in-Some-Block c = let k : kind_of c.args.rec.now ≡ 8 = sym (rw c.in-Some-Block.field-0-is at c.in-Some-Block.ensures) in rw k (rw (c.name_at-in-Some-Block-2.ensures, c.name_at-in-Some-Block.ensures) at c.names-in-Some-Block.ensures)

pub returns-in_default : goal.returns-in_default
returns-in_default c = c.nothing.ensures ∙ asked_none _ _
    (λ k. elim c.in_default.branch [ in_default-via-in-Some+in_default w ↦ grind (arith, common_steps) | in_default-via-in_default w ↦ grind (arith, common_steps) ])
    (λ k. elim c.in_default.branch [ in_default-via-in-Some+in_default w ↦ grind (arith, common_steps) | in_default-via-in_default w ↦ grind (arith, common_steps) ])

use mathlib.Core.Path.{◌≡◌, sym}
use borrow.Author.Rules.{rules}
use Rattle.wire.specs.Fields.{kind_of}
use Rattle.wire.specs.Shape.{certificate_kind_bad, slot_kind_bad}
use Rattle.wire.proofs.Frames.{certificate_timeouts}
use Rattle.shape.proofs.Slots.{any_slot}
use native.Mathlib.Omega.{arith}
use Rattle.shape.proofs.certificate_kind_bad.Goals as goal

pub u16_at-requires : goal.u16_at-requires
u16_at-requires c = let k : 6 ≡ kind_of c.args.rec.now = rw c.in-Some-TimeoutCertificate.field-0-is at c.in-Some-TimeoutCertificate.ensures in
    omega (arith, certificate_timeouts _ c.requires.1 (sym k))

pub timeouts-requires : goal.timeouts-requires
timeouts-requires c = let k : 6 ≡ kind_of c.args.rec.now = rw c.in-Some-TimeoutCertificate.field-0-is at c.in-Some-TimeoutCertificate.ensures in
    omega (arith, c.u16_at.ensures, certificate_timeouts _ c.requires.1 (sym k))

pub returns-in-Some-TimeoutCertificate : goal.returns-in-Some-TimeoutCertificate
unfolding certificate_kind_bad
returns-in-Some-TimeoutCertificate c = let k : 6 ≡ kind_of c.args.rec.now = rw c.in-Some-TimeoutCertificate.field-0-is at c.in-Some-TimeoutCertificate.ensures in
    rw (← k, ← c.u16_at.ensures, ← c.timeouts.ensures.slots) (any_slot slot_kind_bad c.timeouts.result c.any.new.self (λ x b q h. search rules) c.any.ensures.ran c.timeouts.ensures.size)

use Rattle.settings.specs.Refusal.{refused, number}
use mathlib.Core.Path.{◌≡◌}
use Prim.Native.Nat.{◌<◌}
use Rattle.settings.specs.Quorum.{last_view}
use Rattle.wire.specs.Fields.{sender_of, view_of}
use Rattle.wire.specs.Content.{by_timeouts, progress_means, Within}
use Rattle.certificate.specs.Good.{progress_good}
use Rattle.decisive.specs.Decisive.{timeouts_in}
use Rattle.decisive.proofs.Rules.{not_member, view_zero, view_last, certificate_good, certificate_bad}
use native.Mathlib.Omega.{arith}
use Rattle.std.proofs.lemmas.Grind.{common_steps}
use Rattle.decisive.proofs.certificate_refusal.Goals as goal

pub returns-then-n-u16_at : goal.returns-then-n-u16_at
unfolding refused number
returns-then-n-u16_at c = not_member _ _ _ (omega (arith, c.if-n-u16_at.true, c.u16_at.ensures))

pub returns-then-view-eq0 : goal.returns-then-view-eq0
unfolding refused number
returns-then-view-eq0 c = let member : sender_of c.args.rec.now < c.args.n = omega (arith, c.if-n-u16_at.false, c.u16_at.ensures) in
    view_zero _ _ _ member (omega (arith, c.if-view-eq0.true, c.u64_at.ensures))

pub returns-then-le : goal.returns-then-le
unfolding refused number
returns-then-le c = let member : sender_of c.args.rec.now < c.args.n = omega (arith, c.if-n-u16_at.false, c.u16_at.ensures) in
    let some : view_of c.args.rec.now ≡ 0 → ⊥ = λ e. let z = c.u64_at.ensures in c.if-view-eq0.false (omega (arith, z, e)) in
    view_last _ _ _ member some (grind (arith, common_steps))

pub timeouts_good-requires : goal.timeouts_good-requires
unfolding Within
timeouts_good-requires c = omega (arith, c.requires.1, c.u16_at-count.ensures)

pub returns-then-timeouts_good : goal.returns-then-timeouts_good
unfolding progress_means refused number
returns-then-timeouts_good c = let member : sender_of c.args.rec.now < c.args.n = omega (arith, c.if-n-u16_at.false, c.u16_at.ensures) in
    let some : view_of c.args.rec.now ≡ 0 → ⊥ = λ e. let z = c.u64_at.ensures in c.if-view-eq0.false (omega (arith, z, e)) in
    let below : view_of c.args.rec.now < last_view = grind (arith, common_steps) in
    let good-is : c.timeouts_good.result ≡ progress_good c.args.s (by_timeouts (view_of c.args.rec.now) (timeouts_in c.args.rec.now)) = rw c.u16_at-count.ensures at c.timeouts_good.ensures in
    certificate_good _ _ _ member some below c.requires.0 good-is c.if-timeouts_good.true

pub returns : goal.returns
unfolding progress_means refused number
returns c = let member : sender_of c.args.rec.now < c.args.n = omega (arith, c.if-n-u16_at.false, c.u16_at.ensures) in
    let some : view_of c.args.rec.now ≡ 0 → ⊥ = λ e. let z = c.u64_at.ensures in c.if-view-eq0.false (omega (arith, z, e)) in
    let below : view_of c.args.rec.now < last_view = grind (arith, common_steps) in
    let good-is : c.timeouts_good.result ≡ progress_good c.args.s (by_timeouts (view_of c.args.rec.now) (timeouts_in c.args.rec.now)) = rw c.u16_at-count.ensures at c.timeouts_good.ensures in
    certificate_bad _ _ _ member some below c.requires.0 good-is c.if-timeouts_good.false

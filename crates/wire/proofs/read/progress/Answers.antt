use mathlib.Core.Path.{◌≡◌, sym}
use Prim.Native.Nat.{◌+◌}
use borrow.Author.Tests.{ne_eqb}
use lib.ListN.{drop}
use Rattle.codec.proofs.Laws.{part-drop}
use Rattle.wire.specs.Fields.{kind_of, number_at}
use Rattle.wire.specs.Content.{progress_at}
use Rattle.wire.proofs.Certificates.{read_means}
use native.Mathlib.Omega.{arith}
use Rattle.std.proofs.lemmas.Grind.{common_steps}
use Rattle.wire.proofs.read.progress.Goals.{in_default-via-in-Some+in_default, in_default-via-in_default}
use Rattle.wire.proofs.read.progress.Goals as goal

pub u64_at-requires-in-Some-BlockCertificate : goal.u64_at-requires-in-Some-BlockCertificate
u64_at-requires-in-Some-BlockCertificate c = let k : 3 ≡ number_at c.args.rec.now (c.args.at + 4) 2 = rw c.in-Some-BlockCertificate.field-0-is at c.in-Some-BlockCertificate.ensures in
    let e : kind_of (drop c.args.at c.args.rec.now) ≡ 3 = simp part-drop (sym k) in omega (arith, c.requires.1 e)

pub returns-in-Some-BlockCertificate : goal.returns-in-Some-BlockCertificate
unfolding progress_at
returns-in-Some-BlockCertificate c = let k : 3 ≡ number_at c.args.rec.now (c.args.at + 4) 2 = rw c.in-Some-BlockCertificate.field-0-is at c.in-Some-BlockCertificate.ensures in
    read_means c.args.rec.now c.args.at (simp part-drop (rw (← k, ← c.u64_at.ensures, ← c.u64_at-in-Some-BlockCertificate.ensures)))

pub returns-in_default : goal.returns-in_default
unfolding progress_at
returns-in_default c =
    let k : (number_at c.args.rec.now (c.args.at + 4) 2 ≡ 3 → ⊥) = λ e. elim c.in_default.branch [ in_default-via-in-Some+in_default w ↦ grind (arith, common_steps) | in_default-via-in_default w ↦ grind (arith, common_steps) ] in
    read_means c.args.rec.now c.args.at (simp part-drop (rw (ne_eqb _ _ k, ← c.u16_at.ensures)))

use mathlib.Core.Path.{◌≡◌}
use mathlib.Core.Bool.{Bool, not, ◌&&◌}
use mathlib.Core.List.{List}
use Prim.Native.Nat.{ℕ, suc}
use lib.Dec.{eqb}
use Rattle.std.proofs.Common.{arith}
use Rattle.std.proofs.lemmas.Grind.{common_steps}
use Rattle.settings.specs.Refusal.{refused, number}
use Rattle.wire.specs.Fields.{view_of, progress_of}
use Rattle.wire.specs.Content.{certificate_of}
use Rattle.wire.proofs.Certificates.{within, shaped_stands}
use Rattle.certificate.specs.Good.{progress_good}
use Rattle.memory.specs.Layout.{settings_of}
use Rattle.protocol.specs.Refusals.{view_of_progress}
use Rattle.refusals.specs.Number.{first_of}
use Rattle.refusals.specs.Early.{proposal_first}
use Rattle.refusals.proofs.early.proposal_first.Goals as goal

abbrev bad : List ℕ → List ℕ → Bool
bad m r =
    let k = certificate_of (progress_of r) in
    not (progress_good (settings_of m) k && eqb (suc (view_of_progress k)) (view_of r))

pub returns-then-not_leader : goal.returns-then-not_leader
unfolding proposal_first refused number first_of
returns-then-not_leader c = grind (arith, common_steps)

pub returns-then-below_view : goal.returns-then-below_view
unfolding proposal_first refused number first_of
returns-then-below_view c = grind (arith, common_steps)

pub returns-then-le : goal.returns-then-le
unfolding proposal_first refused number first_of
returns-then-le c = grind (arith, common_steps)

pub progress-inner-requires : goal.progress-inner-requires
progress-inner-requires c = let S = shaped_stands c.args.rec.now 88 c.requires.1.1.1.0 c.requires.1.1.1.1 in (S.head, S.block)

pub progress_bad-requires : goal.progress_bad-requires
progress_bad-requires c = within c.args.rec.now 88 (shaped_stands c.args.rec.now 88 c.requires.1.1.1.0 c.requires.1.1.1.1) c.progress-inner.ensures.0

pub returns-then-progress_bad : goal.returns-then-progress_bad
unfolding proposal_first refused number first_of
returns-then-progress_bad c = let bad-is : c.progress_bad.result ≡ bad c.args.mem.now c.args.rec.now = rw (c.progress-inner.ensures.1, c.settings.ensures, c.u64_at.ensures) at c.progress_bad.ensures in
    grind (arith, common_steps)

pub returns : goal.returns
unfolding proposal_first refused number first_of
returns c = let bad-is : c.progress_bad.result ≡ bad c.args.mem.now c.args.rec.now = rw (c.progress-inner.ensures.1, c.settings.ensures, c.u64_at.ensures) at c.progress_bad.ensures in
    grind (arith, common_steps)

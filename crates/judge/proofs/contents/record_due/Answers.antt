use mathlib.Core.Path.{◌≡◌, sym, ◌∙◌}
use native.Mathlib.Omega.{arith}
use Rattle.settings.specs.Quorum.{replicas}
use Rattle.settings.specs.Refusal.{refused}
use Rattle.wire.specs.Shape.{shape_rules}
use Rattle.memory.specs.Layout.{settings_of}
use Rattle.refusals.specs.Number.{first_of}
use Rattle.refusals.proofs.Numbers.{is_refused, isnt_refused}
use Rattle.settings.specs.Refusal.{number}
use Rattle.judge.specs.Contents.{record_due}
use Rattle.judge.proofs.Passing.{Ready, ready, shape_whole}
use Rattle.judge.proofs.Shapes.{shape_refused}
use Rattle.judge.proofs.Dues.{stopped, reached}
use Rattle.judge.proofs.contents.record_due.Goals as goal

pub returns-then-is_err : goal.returns-then-is_err
unfolding record_due refused
returns-then-is_err c = λ s e. stopped _ _ (c.regions.ensures s e) (is_refused _ c.is_err.ensures.value c.if-is_err.true)

pub returns-then-too_long : goal.returns-then-too_long
unfolding record_due refused number
returns-then-too_long c = λ s e. reached _ _ (c.regions.ensures s e) (isnt_refused _ c.is_err.ensures.value c.if-is_err.false) (rw (← c.too_long.ensures, c.if-too_long.true))

pub settings-requires : goal.settings-requires
settings-requires c = let readied : Ready c.args.c c.args.mem.now = ready _ _ _ _ _ c.regions.ensures (isnt_refused _ c.is_err.ensures.value c.if-is_err.false) in omega (arith, readied.long)

pub returns-then-is_err-2 : goal.returns-then-is_err-2
unfolding record_due refused
returns-then-is_err-2 c = let number : refused c.check.result ≡ first_of (shape_rules (replicas (settings_of c.args.mem.now)) c.args.rec.now) = shape_refused _ _ _ (rw (c.n.ensures, c.settings.ensures) at c.check.ensures) in
    λ s e. reached _ _ (c.regions.ensures s e) (isnt_refused _ c.is_err.ensures.value c.if-is_err.false) (rw (← c.too_long.ensures, c.if-too_long.false) (stopped _ _ number (is_refused _ c.is_err-2.ensures.value c.if-is_err-2.true)))

pub digest_due-requires : goal.digest_due-requires
digest_due-requires c = let readied : Ready c.args.c c.args.mem.now = ready _ _ _ _ _ c.regions.ensures (isnt_refused _ c.is_err.ensures.value c.if-is_err.false) in
    let number : refused c.check.result ≡ first_of (shape_rules (replicas (settings_of c.args.mem.now)) c.args.rec.now) = shape_refused _ _ _ (rw (c.n.ensures, c.settings.ensures) at c.check.ensures) in
    (readied.long, (readied.few, (readied.listed, shape_whole _ _ (sym number ∙ isnt_refused _ c.is_err-2.ensures.value c.if-is_err-2.false))))

pub returns : goal.returns
unfolding record_due
returns c = let number : refused c.check.result ≡ first_of (shape_rules (replicas (settings_of c.args.mem.now)) c.args.rec.now) = shape_refused _ _ _ (rw (c.n.ensures, c.settings.ensures) at c.check.ensures) in
    λ s e. reached _ _ (c.regions.ensures s e) (isnt_refused _ c.is_err.ensures.value c.if-is_err.false) (rw (← c.too_long.ensures, c.if-too_long.false) (reached _ _ number (isnt_refused _ c.is_err-2.ensures.value c.if-is_err-2.false) c.digest_due.ensures))

use mathlib.Core.Path.{◌≡◌, sym, ap, ◌∙◌}
use native.Mathlib.Omega.{arith}
use Rattle.std.proofs.lemmas.Result.{err_from_is_err_and}
use Rattle.settings.specs.Quorum.{replicas}
use Rattle.settings.specs.Refusal.{refused}
use Rattle.wire.specs.Shape.{shape_rules}
use Rattle.memory.specs.Layout.{settings_of}
use Rattle.refusals.specs.Number.{first_of}
use Rattle.refusals.proofs.Numbers.{refused_none, refused_some}
use Rattle.judge.proofs.Passing.{Ready, ready, shape_whole}
use Rattle.judge.proofs.Shapes.{shape_refused}
use Rattle.judge.proofs.Wants.{wanted_err, wanted_ok, early_store, record_region, record_shape, record_early, record_asked}
use Rattle.judge.proofs.record.Goals as goal

pub returns-in_err-regions : goal.returns-in_err-regions
returns-in_err-regions c = let p = err_from_is_err_and c.from_residual.result c.from_residual.ensures.1 in
    λ s e. wanted_err c.in_err-regions.was p.1 p.2 ∙ record_region _ _ _ (c.regions.ensures s e) (refused_some c.in_err-regions.was)

pub settings-requires : goal.settings-requires
settings-requires c = let readied : Ready c.args.c c.args.mem.now = ready _ _ _ _ _ c.regions.ensures (refused_none c.in_ok-regions.was) in omega (arith, readied.long)

pub returns-in_err-check : goal.returns-in_err-check
returns-in_err-check c = let p = err_from_is_err_and c.from_residual-in_err-check.result c.from_residual-in_err-check.ensures.1 in
    let number : refused c.check.result ≡ first_of (shape_rules (replicas (settings_of c.args.mem.now)) c.args.rec.now) = shape_refused _ _ _ (rw (c.n.ensures, c.settings.ensures) at c.check.ensures) in
    λ s e. wanted_err c.in_err-check.was p.1 p.2 ∙ record_shape _ _ _ (sym (c.regions.ensures s e) ∙ refused_none c.in_ok-regions.was) number (refused_some c.in_err-check.was)

pub early-requires : goal.early-requires
early-requires c = let readied : Ready c.args.c c.args.mem.now = ready _ _ _ _ _ c.regions.ensures (refused_none c.in_ok-regions.was) in
    let number : refused c.check.result ≡ first_of (shape_rules (replicas (settings_of c.args.mem.now)) c.args.rec.now) = shape_refused _ _ _ (rw (c.n.ensures, c.settings.ensures) at c.check.ensures) in
    (readied.long, (readied.few, (readied.listed, shape_whole _ _ (sym number ∙ refused_none c.in_ok-check.was))))

pub returns-in_err-early : goal.returns-in_err-early
returns-in_err-early c = let p = err_from_is_err_and c.from_residual-in_err-early.result c.from_residual-in_err-early.ensures.1 in
    let number : refused c.check.result ≡ first_of (shape_rules (replicas (settings_of c.args.mem.now)) c.args.rec.now) = shape_refused _ _ _ (rw (c.n.ensures, c.settings.ensures) at c.check.ensures) in
    λ s e. wanted_err c.in_err-early.was p.1 p.2 ∙ record_early _ _ _ (sym (c.regions.ensures s e) ∙ refused_none c.in_ok-regions.was) (sym number ∙ refused_none c.in_ok-check.was) (c.early.ensures ∙ ap first_of (early_store _ _ s _ _)) (refused_some c.in_err-early.was)

pub look_up-requires : goal.look_up-requires
look_up-requires c = let readied : Ready c.args.c c.args.mem.now = ready _ _ _ _ _ c.regions.ensures (refused_none c.in_ok-regions.was) in
    let number : refused c.check.result ≡ first_of (shape_rules (replicas (settings_of c.args.mem.now)) c.args.rec.now) = shape_refused _ _ _ (rw (c.n.ensures, c.settings.ensures) at c.check.ensures) in
    (readied.long, (readied.few, shape_whole _ _ (sym number ∙ refused_none c.in_ok-check.was)))

pub returns : goal.returns
returns c = let number : refused c.check.result ≡ first_of (shape_rules (replicas (settings_of c.args.mem.now)) c.args.rec.now) = shape_refused _ _ _ (rw (c.n.ensures, c.settings.ensures) at c.check.ensures) in
    λ s e. wanted_ok _ ∙ record_asked _ _ _ (sym (c.regions.ensures s e) ∙ refused_none c.in_ok-regions.was) (sym number ∙ refused_none c.in_ok-check.was) (sym (c.early.ensures ∙ ap first_of (early_store _ _ s _ _)) ∙ refused_none c.in_ok-early.was) c.look_up.ensures

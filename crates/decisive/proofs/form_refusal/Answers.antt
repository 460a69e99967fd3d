use Rattle.settings.specs.Refusal.{refused, number}
use mathlib.Core.Path.{◌≡◌, sym, ap, ◌∙◌}
use mathlib.Core.Bool.{false}
use Rattle.wire.specs.Shape.{frame_bad}
use Rattle.wire.proofs.Facts.{off_frame}
use Rattle.refusals.specs.Number.{first_of}
use Rattle.judge.proofs.Shapes.{shape_refused}
use Rattle.decisive.proofs.Rules.{bad_frame, other_kind, form_is}
use Rattle.wire.specs.Fields.{kind_of}
use native.Mathlib.Omega.{arith}
use Rattle.std.proofs.lemmas.Grind.{common_steps}
use Rattle.decisive.proofs.form_refusal.Goals as goal

pub returns-then-frame_bad : goal.returns-then-frame_bad
unfolding refused number
returns-then-frame_bad c = bad_frame _ _ (sym c.frame_bad.ensures ∙ c.if-frame_bad.true)

pub kind_at-requires : goal.kind_at-requires
kind_at-requires c = let framed : frame_bad c.args.rec.now ≡ false = sym c.frame_bad.ensures ∙ c.if-frame_bad.false in
    let f = (off_frame _).0 framed in omega (arith, f.0)

pub returns-then-ne : goal.returns-then-ne
unfolding refused number
returns-then-ne c = let framed : frame_bad c.args.rec.now ≡ false = sym c.frame_bad.ensures ∙ c.if-frame_bad.false in
    other_kind _ _ framed (λ e. grind (arith, common_steps))

pub returns : goal.returns
returns c = let six : kind_of c.args.rec.now ≡ 6 = grind (arith, common_steps) in shape_refused _ _ _ c.check.ensures ∙ ap first_of (sym (form_is _ _ six))

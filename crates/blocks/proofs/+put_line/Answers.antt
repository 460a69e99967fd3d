-- The row of the blocks below, and the record of b behind it.
use mathlib.Core.Path.{◌≡◌, ap, ◌∙◌}
use native.Mathlib.Omega.{arith}
use borrow.Author.Rules.{rules}
use mathlib.Core.List.{List, [], ◌∷◌}
use lib.ListN.{length, length-append}
use Rattle.blocks.specs.Store.{genesis, ancestry}
use Rattle.blocks.specs.declared.Block.{Block}
use Rattle.blocks.proofs.Judging.{nowhere, steps_on, steps_off}
use Rattle.blocks.proofs.Releases.{written_none, written_more}
use Rattle.blocks.proofs.+put_line.Goals as goal
use Rattle.blocks.proofs.+put_line.Goals.{in-On, in-Ends}

pub offset_bounds-held-at_parent : goal.offset_bounds-held-at_parent
offset_bounds-held-at_parent t c = let h = (steps_on c.args.tip c.args.held.now c.args.b c.in-On.at_parent genesis (rw c.in-On.is at c.step.ensures)).within in search rules

pub bounds-held-at_parent : goal.bounds-held-at_parent
bounds-held-at_parent t c = (steps_on c.args.tip c.args.held.now c.args.b c.in-On.at_parent genesis (rw c.in-On.is at c.step.ensures)).within

pub put_line-below-requires : goal.put_line-below-requires
put_line-below-requires t c =
    let on = steps_on c.args.tip c.args.held.now c.args.b c.in-On.at_parent nowhere (rw c.in-On.is at c.step.ensures) in
    let longer = ap length (on.row c.requires.0) ∙ length-append (ancestry c.args.tip c.args.held.now _) (c.args.b ∷ []) in
    (omega (arith, on.lower), (on.same ∙ c.requires.0, omega (arith, c.requires.1, longer)))

pub put_one-requires : goal.put_one-requires
put_one-requires t c =
    elim c.match-step.branch [
      | in-On w ↦ let on = steps_on c.args.tip c.args.held.now c.args.b w.in-On.at_parent nowhere (rw w.in-On.is at c.step.ensures) in
          omega (arith, w.below-is, w.put_line-below.ensures.0, c.requires.1, ap length (on.row c.requires.0) ∙ length-append (ancestry c.args.tip c.args.held.now _) (c.args.b ∷ []))
      | in-Ends w ↦ omega (arith, w.below-is, c.requires.1, ap length ((steps_off c.args.tip c.args.held.now c.args.b w.in-Ends.field-0 (rw w.in-Ends.is at c.step.ensures)).row c.requires.0))
    ]

pub returns : goal.returns
returns t c =
    let size : length c.args.b.name ≡ 32 = omega arith in
    let more = λ (r : List Block).
    written_more c.args.sender c.args.view.0 c.args.at c.args.out.now r (ancestry c.args.tip c.args.held.now c.args.b) c.args.b c.match-step.below c.put_one.result c.match-step.out c.put_one.new.out size in
    elim c.match-step.branch [
      | in-On w ↦ more _ ((steps_on c.args.tip c.args.held.now c.args.b w.in-On.at_parent nowhere (rw w.in-On.is at c.step.ensures)).row c.requires.0)
          (rw (w.below-is, w.out-is) w.put_line-below.ensures) c.put_one.ensures
      | in-Ends w ↦ more [] ((steps_off c.args.tip c.args.held.now c.args.b w.in-Ends.field-0 (rw w.in-Ends.is at c.step.ensures)).row c.requires.0)
          (rw (w.below-is, w.out-is) (written_none c.args.sender c.args.view.0 c.args.at c.args.out.now)) c.put_one.ensures
    ]

-- The walk, which ends where the parent was judged before.
use mathlib.Core.Path.{◌∙◌}
use borrow.Author.Rules.{rules}
use Rattle.blocks.specs.Store.{genesis}
use Rattle.blocks.proofs.Judging.{steps_on, steps_off, verdict_is}
use Rattle.blocks.proofs.judged.Goals as goal

pub offset_bounds-held-at : goal.offset_bounds-held-at
offset_bounds-held-at c = let h = (steps_on c.args.tip c.args.held.now c.args.b c.in-On.at genesis (rw c.in-On.is at c.step.ensures)).within in search rules

pub bounds-held-at : goal.bounds-held-at
bounds-held-at c = (steps_on c.args.tip c.args.held.now c.args.b c.in-On.at genesis (rw c.in-On.is at c.step.ensures)).within

pub returns-in-On : goal.returns-in-On
returns-in-On c =
    let on = steps_on c.args.tip c.args.held.now c.args.b c.in-On.at genesis (rw c.in-On.is at c.step.ensures) in
    c.of.ensures ∙ verdict_is c.args.tip c.args.held.now c.args.i c.args.v c.requires c.args.b c.in-On.at on c.if-at-i.true c.if-at-lt-STORE_LENGTH.true

pub returns-in-On-2 : goal.returns-in-On-2
returns-in-On-2 c = c.leads.ensures ∙ (steps_on c.args.tip c.args.held.now c.args.b c.in-On.at _ (rw c.in-On.is at c.step.ensures)).same

pub returns-in-Ends : goal.returns-in-Ends
returns-in-Ends c = (steps_off c.args.tip c.args.held.now c.args.b c.in-Ends.well (rw c.in-Ends.is at c.step.ensures)).same

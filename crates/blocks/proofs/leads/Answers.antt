-- One step of the walk, by the law of `descends`.
use mathlib.Core.Path.{◌∙◌}
use native.Mathlib.Omega.{arith}
use borrow.Author.Rules.{rules}
use Rattle.blocks.specs.Store.{genesis}
use Rattle.blocks.proofs.Judging.{nowhere, steps_on, steps_off}
use Rattle.blocks.proofs.leads.Goals as goal

pub offset_bounds-held-at : goal.offset_bounds-held-at
offset_bounds-held-at c = let h = (steps_on c.args.tip c.args.held.now c.down.block c.in-On.at genesis (rw c.in-On.is at c.step.ensures)).within in search rules

pub bounds-held-at : goal.bounds-held-at
bounds-held-at c = (steps_on c.args.tip c.args.held.now c.down.block c.in-On.at genesis (rw c.in-On.is at c.step.ensures)).within

pub down-smaller : goal.down-smaller
down-smaller c = omega (arith, (steps_on c.args.tip c.args.held.now c.down.block c.in-On.at nowhere (rw c.in-On.is at c.step.ensures)).lower)

pub down-preserved : goal.down-preserved
down-preserved c = (steps_on c.args.tip c.args.held.now c.down.block c.in-On.at _ (rw c.in-On.is at c.step.ensures)).same ∙ c.down.invariant

pub returns-in-Ends : goal.returns-in-Ends
returns-in-Ends c = (steps_off c.args.tip c.args.held.now c.down.block c.in-Ends.well (rw c.in-Ends.is at c.step.ensures)).same ∙ c.down.invariant

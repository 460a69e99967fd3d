use mathlib.Core.Path.{sym, ◌∙◌}
use Rattle.replay.specs.Input.{opening_of}
use Rattle.replay.proofs.Laws.{well_formed-length}
use native.Mathlib.Omega.{arith}
use Rattle.replay.proofs.input.opening.Goals as goal

pub returns-then-not-well_formed : goal.returns-then-not-well_formed
unfolding opening_of
returns-then-not-well_formed c = rw (← c.well_formed-2.ensures, c.if-not-well_formed.true)

pub u16_at-requires : goal.u16_at-requires
u16_at-requires c = omega (arith, well_formed-length _ (sym c.well_formed-2.ensures ∙ c.if-not-well_formed.false))

pub u16_at-requires-2 : goal.u16_at-requires-2
u16_at-requires-2 c = omega (arith, well_formed-length _ (sym c.well_formed-2.ensures ∙ c.if-not-well_formed.false))

pub u16_at-requires-3 : goal.u16_at-requires-3
u16_at-requires-3 c = omega (arith, well_formed-length _ (sym c.well_formed-2.ensures ∙ c.if-not-well_formed.false))

pub u16_at-requires-4 : goal.u16_at-requires-4
u16_at-requires-4 c = omega (arith, well_formed-length _ (sym c.well_formed-2.ensures ∙ c.if-not-well_formed.false))

pub u16_at-requires-5 : goal.u16_at-requires-5
u16_at-requires-5 c = omega (arith, well_formed-length _ (sym c.well_formed-2.ensures ∙ c.if-not-well_formed.false))

pub returns : goal.returns
unfolding opening_of
returns c = rw (← c.well_formed-2.ensures, c.if-not-well_formed.false, ← c.u16_at.ensures, ← c.u16_at-2.ensures, ← c.u16_at-3.ensures, ← c.u16_at-4.ensures, ← c.u16_at-5.ensures)

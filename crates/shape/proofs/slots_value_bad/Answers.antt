use mathlib.Core.Path.{sym, ◌∙◌}
use native.Mathlib.Numerals.{add-one}
use Rattle.wire.proofs.Turns.{slot_turn}
use Rattle.shape.proofs.Slots.{value_here, value_later, value_none}
use Rattle.shape.proofs.slots_value_bad.Goals as goal

pub returns-then-slot_value_bad : goal.returns-then-slot_value_bad
returns-then-slot_value_bad c = let l = c.loop-slot in
    sym (l.invariant.1 ∙ value_here _ _ _ l.slot-iterator c.next.new.self l.invariant.0 c.in-Some.slot c.in-Some.ensures.steps (sym c.slot_value_bad.ensures ∙ c.if-slot_value_bad.true))

pub loop-slot-preserved : goal.loop-slot-preserved
loop-slot-preserved c = let l = c.loop-slot in (
  (slot_turn l.slot-iterator c.next.new.self l.invariant.0 c.in-Some.slot c.in-Some.ensures.steps).0,
  rw (add-one, c.u16_at.ensures) (l.invariant.1 ∙ value_later _ _ _ l.slot-iterator c.next.new.self l.invariant.0 c.in-Some.slot c.in-Some.ensures.steps (sym c.slot_value_bad.ensures ∙ c.if-slot_value_bad.false)),
)

pub returns : goal.returns
returns c = let l = c.loop-slot in sym (l.invariant.1 ∙ value_none _ _ _ l.slot-iterator c.next.new.self l.invariant.0 c.in-None.ensures.steps)

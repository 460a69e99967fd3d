use mathlib.Core.Path.{sym, ◌∙◌}
use Rattle.wire.proofs.Turns.{slot_turn}
use Rattle.certificate.proofs.Timeouts.{each_on, each_end}
use Rattle.certificate.proofs.safe.built_best.Goals as goal

pub loop-slot-preserved : goal.loop-slot-preserved
loop-slot-preserved c = let l = c.loop-slot in record {
  size = (slot_turn l.slot-iterator c.next.new.self l.invariant.size c.in-Some.slot c.in-Some.ensures.steps).0;
  rest = l.invariant.rest ∙ each_on l.slot-iterator c.next.new.self l.invariant.size _ _ c.in-Some.slot c.in-Some.ensures.steps c.built_by-best.ensures;
}

pub returns : goal.returns
returns c = let l = c.loop-slot in sym (l.invariant.rest ∙ each_end l.slot-iterator c.next.new.self l.invariant.size _ _ c.in-None.ensures.steps)

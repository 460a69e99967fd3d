use mathlib.Core.Path.{sym, ◌∙◌}
use Rattle.wire.proofs.Turns.{slot_turn}
use Rattle.certificate.specs.Safe.{carried_by}
use Rattle.certificate.proofs.Timeouts.{each_on, each_end}
use Rattle.certificate.proofs.safe.carried_best.Goals as goal

pub loop-slot-preserved : goal.loop-slot-preserved
unfolding carried_by
loop-slot-preserved c = let l = c.loop-slot in record {
  size = (slot_turn l.slot-iterator c.next.new.self l.invariant.size c.in-Some.slot c.in-Some.ensures.steps).0;
  rest = l.invariant.rest ∙ each_on l.slot-iterator c.next.new.self l.invariant.size carried_by _ c.in-Some.slot c.in-Some.ensures.steps (rw (c.better-best.ensures, c.from.ensures, c.timeout.ensures));
}

pub returns : goal.returns
returns c = let l = c.loop-slot in sym (l.invariant.rest ∙ each_end l.slot-iterator c.next.new.self l.invariant.size _ _ c.in-None.ensures.steps)

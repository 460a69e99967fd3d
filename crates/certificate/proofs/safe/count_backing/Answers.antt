use mathlib.Core.Path.{refl, sym, ◌∙◌}
use Prim.Native.Nat.{◌+◌, ◌≤◌}
use lib.ListN.{drop}
use native.Mathlib.Omega.{arith}
use Rattle.wire.proofs.Turns.{slot_turn}
use Rattle.certificate.proofs.Timeouts.{count_timeouts, one_left, each_on, each_end, backed_count}
use Rattle.certificate.proofs.safe.count_backing.Goals as goal

pub loop-slot-init : goal.loop-slot-init
loop-slot-init c = rw (c.into_iter-slot-iterator.ensures.into_iter_gives, c.timeouts-slot-items.ensures.slots) (record { size = c.timeouts-slot-items.ensures.size; few = omega (arith, count_timeouts c.args.count (drop 24 c.args.rec.now)); rest = refl })

pub loop-slot-preserved : goal.loop-slot-preserved
loop-slot-preserved c = let l = c.loop-slot in record {
  size = (slot_turn l.slot-iterator c.next.new.self l.invariant.size c.in-Some.slot c.in-Some.ensures.steps).0;
  few =
      let more : c.backed_by-b.result.count ≤ l.b.count + 1 = backed_count _ _ _ _ l.b c.backed_by-b.ensures (omega arith) in
      omega (arith, l.invariant.few, one_left l.slot-iterator c.next.new.self l.invariant.size c.in-Some.slot c.in-Some.ensures.steps);
  rest = l.invariant.rest ∙ each_on l.slot-iterator c.next.new.self l.invariant.size _ _ c.in-Some.slot c.in-Some.ensures.steps c.backed_by-b.ensures;
}

pub returns : goal.returns
returns c = let l = c.loop-slot in sym (l.invariant.rest ∙ each_end l.slot-iterator c.next.new.self l.invariant.size _ _ c.in-None.ensures.steps)

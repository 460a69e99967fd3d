use borrow.Author.Rules.{rules}
use borrow.Author.Tests.{le-ltb, eq-eqb}
use Rattle.wire.specs.Shape.{frame_bad, timeouts_length}
use Rattle.shape.proofs.Slots.{any_slot}
use Rattle.shape.proofs.timeouts_length_bad.Goals as goal

pub returns : goal.returns
unfolding timeouts_length
returns c = rw (le-ltb _ _ c.if-rec-lt-TIMEOUTS_HEAD.false, ← c.u16_at-count.ensures, eq-eqb _ _ c.if-rec-count.false, ← c.timeouts.ensures.slots)
    (any_slot frame_bad c.timeouts.result c.any.new.self (λ x b q h. search rules) c.any.ensures.ran c.timeouts.ensures.size)

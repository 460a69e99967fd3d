use mathlib.Core.Path.{◌≡◌}
use lib.ListN.{drop}
use Rattle.std.specs.Slice.Iter.{chunks_exact_size}
use Rattle.wire.specs.Fields.{timeout_length, cut, slots_left}
use Rattle.wire.specs.Shape.{slots_value_bad}
use Rattle.shape.proofs.slots_value_bad.Given as goal

abbrev pub invariant-loop-slot : goal.invariant-loop-slot
invariant-loop-slot l = (chunks_exact_size l.slot-iterator ≡ timeout_length)
    × (slots_value_bad l.n l.view.0 0 (cut l.count (drop 24 l.rec)) ≡ slots_value_bad l.n l.view.0 l.low (slots_left l.slot-iterator))

use mathlib.Core.Path.{◌≡◌}
use mathlib.Core.List.{map}
use Rattle.std.specs.Slice.Iter.{chunks_exact_size}
use Rattle.wire.specs.Fields.{slots_left}
use Rattle.wire.specs.Content.{timeout_of}
use Rattle.certificate.specs.Safe.{each, carried_by}
use Rattle.certificate.proofs.safe.carried_best.Given as goal

abbrev pub invariant-loop-slot : goal.invariant-loop-slot
invariant-loop-slot l = record {
  size : chunks_exact_size l.slot-iterator ≡ 112;
  rest : each carried_by l.fn.k (map timeout_of (slots_left l.fn.slots)) ≡ each carried_by l.best (map timeout_of (slots_left l.slot-iterator));
}

use mathlib.Core.Path.{◌≡◌}
use mathlib.Core.List.{map}
use lib.ListN.{drop}
use Rattle.std.specs.Slice.Iter.{chunks_exact_size}
use Rattle.wire.specs.Fields.{cut, slots_left}
use Rattle.wire.specs.Content.{timeout_of}
use Rattle.certificate.specs.Safe.{each, built_by}
use Rattle.certificate.proofs.safe.built_best.Given as goal

abbrev pub invariant-loop-slot : goal.invariant-loop-slot
invariant-loop-slot l = record {
  size : chunks_exact_size l.slot-iterator ≡ 112;
  rest : each (built_by l.settings (map timeout_of (cut l.count (drop 24 l.rec)))) l.fn.k (map timeout_of (cut l.count (drop 24 l.rec))) ≡ each (built_by l.settings (map timeout_of (cut l.count (drop 24 l.rec)))) l.best (map timeout_of (slots_left l.slot-iterator));
}

use mathlib.Core.Path.{◌≡◌}
use mathlib.Core.List.{map}
use Prim.Native.Nat.{◌+◌, ◌≤◌}
use lib.ListN.{length, drop}
use Rattle.std.specs.Slice.Iter.{chunks_exact_size}
use Rattle.wire.specs.Fields.{cut, slots_left}
use Rattle.wire.specs.Content.{timeout_of}
use Rattle.certificate.specs.Safe.{each, backed_by, backing}
use Rattle.certificate.proofs.safe.count_backing.Given as goal

abbrev pub invariant-loop-slot : goal.invariant-loop-slot
invariant-loop-slot l = record {
  size : chunks_exact_size l.slot-iterator ≡ 112;
  few : l.b.count + length (map timeout_of (slots_left l.slot-iterator)) ≤ l.count;
  rest : backing l.n l.high.view.0 l.high.name (map timeout_of (cut l.count (drop 24 l.rec))) ≡ each (backed_by l.n l.high.view.0 l.high.name) l.b (map timeout_of (slots_left l.slot-iterator));
}

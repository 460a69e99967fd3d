use mathlib.Core.Path.{◌≡◌}
use Prim.Native.Nat.{◌+◌, ◌*◌}
use lib.ListN.{length}
use Rattle.std.specs.Iterator.Adapters.{enumerate_source, enumerate_count}
use Rattle.std.specs.Slice.Iter.{chunks_exact_size}
use Rattle.settings.specs.Quorum.{largest}
use Rattle.wire.specs.Fields.{timeouts_head, timeout_length, slots_left}
use Rattle.wire.proofs.Turns.{slots_from, timeouts_from}
use Rattle.decisive.specs.Decisive.{lowest_of, decisive}
use Rattle.decisive.specs.Reply.{first_timeouts}
use Rattle.decisive.proofs.first_to_change.Given as goal

abbrev pub invariant-loop-i : goal.invariant-loop-i
invariant-loop-i l = record {
  long : length l.rest ≡ timeouts_head + timeout_length * largest;
  size : chunks_exact_size (enumerate_source l.i-iterator) ≡ timeout_length;
  left : slots_left (enumerate_source l.i-iterator) ≡ slots_from l.rec l.count (enumerate_count l.i-iterator);
  later : decisive l.s (first_timeouts l.rec l.count) ≡ lowest_of l.s (first_timeouts l.rec l.count) (timeouts_from l.rec l.count (enumerate_count l.i-iterator));
}

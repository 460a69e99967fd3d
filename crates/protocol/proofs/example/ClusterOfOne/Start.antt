-- The cluster of one: what an opening leaves of its replica, over any regions that are long enough and any list that is taken, as far as it matters.
-- Assumes nothing.
use Prim.Native.Nat.{ℕ, ◌%◌}
use native.Mathlib.Omega.{arith}
use mathlib.Core.Path.{◌≡◌}
use mathlib.Core.Bool.{false}
use mathlib.Core.List.{List}
use lib.Dec.{lit<, lit≤}
use lib.ListN.{length}
use Rattle.settings.proofs.Leaders.{good_leaders}
use Rattle.codec.specs.Names.{zero_name}
use Rattle.wire.specs.Encode.{block_certificate_bytes}
use Rattle.blocks.specs.declared.Block.{Block}
use Rattle.memory.specs.Layout.{settings_of, own_of, block_count_of, entry_of}
use Rattle.memory.specs.Kept.{has}
use Rattle.memory.specs.Leaders.{entry_for, by_list}
use Rattle.memory.proofs.Apart.{Table, row_of}
use Rattle.counters.specs.Counters.{opened}
use Rattle.protocol.specs.Calls.{Replica, outcome, opening_call, opened_memory}
use Rattle.protocol.specs.ClusterOfOne.{one, Alone, opened_alone}
use Rattle.protocol.proofs.call.Opening.{Openable, opened_settings, opened_own, opened_leaders, opened_count, opened_entry, opened_none, opened_regular, opening_takes}
use Rattle.protocol.proofs.call.OneCall.{RegularReplica}

abbrev pub opened_over : List ℕ → List Block → Replica
opened_over m st = record { counters = opened; memory = m; store = st }

pub record Start (m : List ℕ) (st : List Block) : Type 0 where
  pub regular : RegularReplica (opened_over m st)
  pub settings : settings_of m ≡ one
  pub own : own_of m ≡ 0
  pub count : block_count_of m ≡ 0
  pub entry : entry_of m ≡ block_certificate_bytes 0 0 zero_name 0
  pub leads : by_list m 1 ≡ 0
  pub none : (t : Table) (v i : ℕ) → has m (row_of t v) i ≡ false

module _ (lent : Replica) (leaders : List ℕ) (alone : Alone lent leaders) where
  pub openable : Openable one 0 leaders
  openable = record { few = lit≤ tt; member = lit< tt; list = alone.listed }

  abbrev pub memory_of : List ℕ
  memory_of = opened_memory lent.memory one 0 leaders

  pub opening_is : opened_alone lent leaders ≡ opened_over memory_of lent.store
  unfolding opening_call outcome
  opening_is = rw (opening_takes lent one 0 leaders openable alone.long alone.many)

  -- every entry of the list is below 1
  own_leads : by_list memory_of 1 ≡ 0
  unfolding by_list entry_for
  own_leads = rw (opened_leaders lent.memory one 0 leaders openable alone.long) (omega (arith, (good_leaders 1 leaders alone.listed).below (0 % length leaders) (lit< tt)))

  pub start : Start memory_of lent.store
  start =
      record {
        regular = opened_regular lent.memory lent.store one 0 leaders openable alone.memory alone.store alone.long alone.many;
        settings = opened_settings lent.memory one 0 leaders openable alone.long;
        own = opened_own lent.memory one 0 leaders openable alone.long;
        count = opened_count lent.memory one 0 leaders openable alone.long;
        entry = opened_entry lent.memory one 0 leaders openable alone.long;
        leads = own_leads;
        none = opened_none lent.memory one 0 leaders openable alone.long;
      }

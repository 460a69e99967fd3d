-- What an accepted opening leaves: the settings, own number and leader list given, no held block, the genesis certificate as entry, empty rows; it is regular.
-- Assumes nothing.
use Prim.Native.Nat.{ℕ, ◌+◌, ◌^◌, ◌≤◌, ◌<◌}
use native.Mathlib.Omega.{arith}
use mathlib.Core.Path.{◌≡◌, refl, sym, ap, ◌∙◌}
use mathlib.Core.Bool.{false, not}
use mathlib.Core.List.{List, [], ◌++◌}
use borrow.Author.Tests.{ltb-false, leb-false, eqb-true, not-false, le-ltb, lt-leb, eq-eqb}
use lib.Dec.{lit<, lit≤}
use lib.ListN.{length, length-append}
use Rattle.settings.specs.declared.Settings.{Settings}
use Rattle.settings.specs.Quorum.{largest, replicas}
use Rattle.settings.specs.Opening.{opening_rules, bad_leaders, leader_rules}
use Rattle.settings.proofs.Leaders.{Good, good_leaders}
use Rattle.settings.specs.Answer.{accepts}
use Rattle.codec.specs.Bytes.{IsBytes, patch, le_nat, le_bytes}
use Rattle.codec.specs.Names.{zero_name}
use Rattle.codec.proofs.Laws.{part_same, part_before, length-patch, patch_append, bytes_patch}
use Rattle.codec.proofs.Le.{le_nat-le_bytes, length-le_bytes}
use Rattle.wire.specs.Fields.{number_at}
use Rattle.wire.specs.Encode.{block_certificate_bytes}
use Rattle.wire.specs.Fit.{All}
use Rattle.wire.proofs.Facts.{off_judge}
use Rattle.wire.proofs.Lengths.{length_block_certificate}
use Rattle.wire.proofs.Rows.{bytes_le_bytes}
use Rattle.blocks.specs.declared.Block.{Block}
use Rattle.memory.specs.Layout.{memory_length, entry_place, entry_room, settings_of, own_of, block_count_of, leader_count_of, leaders_of, entry_of, with_block_count, with_leaders, with_entry}
use Rattle.memory.specs.Kept.{has}
use Rattle.memory.proofs.Apart.{Table, row_of}
use Rattle.memory.proofs.Header.{settings_same, own_same, SameHeader, same_header, SameLeaders, leaders_trans, length-with_leaders, bytes_with_leaders, leaders_before, leader_count_put, leaders_put, count_leaders, entry_leaders, length_with_count, bytes_with_count, count_put, count_settings, count_own, length-with_entry, bytes_with_entry, entry_settings, entry_own, entry_block_count, entry_length_put, entry_put}
use Rattle.memory.proofs.Emptying.{emptied, length-emptied, bytes_emptied, emptied_head, emptied_none}
use Rattle.counters.specs.Counters.{opened}
use Rattle.protocol.specs.Work.{Work}
use Rattle.protocol.specs.Typed.{BlockTyped, CountersTyped}
use Rattle.protocol.specs.Refusals.{store_length}
use Rattle.protocol.specs.Calls.{Replica, opened_memory, opening_core}
use Rattle.protocol.proofs.call.Typing.{zero_is_name}
use Rattle.protocol.proofs.call.Regular.{Regular, ProgressForm}
use Rattle.protocol.proofs.call.Certificates.{block_form}

-- ---- settings, own number and leader list that an opening accepts
pub record Openable (s : Settings) (own : ℕ) (leaders : List ℕ) : Type 0 where
  pub few : replicas s ≤ largest
  pub member : own < replicas s
  pub list : bad_leaders (replicas s) leaders ≡ false

-- ---- the first eight bytes
module _ (m : List ℕ) (f c k o : ℕ) where
  begun : List ℕ
  begun = patch m 0 (le_bytes 2 f ++ le_bytes 2 c ++ le_bytes 2 k ++ le_bytes 2 o)

  begun_parts : begun ≡ patch (patch (patch (patch m 0 (le_bytes 2 f)) 2 (le_bytes 2 c)) 4 (le_bytes 2 k)) 6 (le_bytes 2 o)
  unfolding begun
  begun_parts = simp (patch_append, length-append, length-le_bytes)

  -- a field that is put, and what is put behind it
  put_field : (w : List ℕ) (at y : ℕ) → y < 2 ^ 16 → at + 2 ≤ length w → number_at (patch w at (le_bytes 2 y)) at 2 ≡ y
  put_field w at y h l = ap le_nat (part_same w at (le_bytes 2 y) 2 (length-le_bytes 2 y) l) ∙ le_nat-le_bytes 2 y h

  later_field : (w : List ℕ) (at b y : ℕ) → at + 2 ≤ b → number_at (patch w b (le_bytes 2 y)) at 2 ≡ number_at w at 2
  later_field w at b y h = ap le_nat (part_before w b (le_bytes 2 y) at 2 h)

  module _ (l : memory_length ≤ length m) where
    begun-f : f < 2 ^ 16 → number_at begun 0 2 ≡ f
    begun-f h = rw begun_parts (later_field _ 0 6 o (omega arith) ∙ later_field _ 0 4 k (omega arith) ∙ later_field _ 0 2 c (omega arith) ∙ put_field m 0 f h (omega arith))

    begun-c : c < 2 ^ 16 → number_at begun 2 2 ≡ c
    begun-c h =
        rw begun_parts (later_field _ 2 6 o (omega arith) ∙ later_field _ 2 4 k (omega arith) ∙ put_field _ 2 c h (simp length-patch (omega arith)))

    begun-k : k < 2 ^ 16 → number_at begun 4 2 ≡ k
    begun-k h = rw begun_parts (later_field _ 4 6 o (omega arith) ∙ put_field _ 4 k h (simp length-patch (omega arith)))

    begun_own : o < 2 ^ 16 → number_at begun 6 2 ≡ o
    begun_own h = rw begun_parts (put_field _ 6 o h (simp length-patch (omega arith)))

    begun_settings : f < 2 ^ 16 → c < 2 ^ 16 → k < 2 ^ 16 → settings_of begun ≡ record { f = f; c = c; k = k }
    unfolding settings_of
    begun_settings hf hc hk = rw (begun-f hf, begun-c hc, begun-k hk)

  length-begun : length begun ≡ length m
  unfolding begun
  length-begun = length-patch m 0 _

  bytes_begun : IsBytes m → IsBytes begun
  bytes_begun b =
      rw begun_parts
      (bytes_patch _ 6 _ (bytes_patch _ 4 _ (bytes_patch _ 2 _ (bytes_patch m 0 _ b (bytes_le_bytes 2 f)) (bytes_le_bytes 2 c)) (bytes_le_bytes 2 k)) (bytes_le_bytes 2 o))

-- ---- the memory that an opening leaves
module _ (m : List ℕ) (s : Settings) (own : ℕ) (leaders : List ℕ) where
  begun₀ : List ℕ
  begun₀ = begun m s.f s.c s.k own

  led : List ℕ
  led = with_leaders begun₀ leaders

  headed : List ℕ
  headed = with_block_count led 0

  entry₀ : List ℕ
  entry₀ = block_certificate_bytes own 0 zero_name 0

  opened_is : opened_memory m s own leaders ≡ emptied (with_entry headed entry₀)
  unfolding opened_memory headed led begun₀ entry₀ begun
  opened_is = refl

  length_led : length led ≡ length m
  unfolding led begun₀
  length_led = length-with_leaders begun₀ leaders ∙ length-begun m s.f s.c s.k own

  pub length_opened : length (opened_memory m s own leaders) ≡ length m
  unfolding headed
  length_opened = rw opened_is (length-emptied _ ∙ length-with_entry headed entry₀ ∙ length_with_count led 0 ∙ length_led)

  module _ (o : Openable s own leaders) where
    good : Good (replicas s) leaders
    good = good_leaders (replicas s) leaders o.list

    bytes_leaders : IsBytes leaders
    bytes_leaders i = omega (arith, good.below i (omega arith), o.few)

    entry₀_form : ProgressForm (replicas s) entry₀
    unfolding entry₀
    entry₀_form = block_form own 0 zero_name 0 (omega (arith, o.few, o.member)) (lit< tt) zero_is_name (lit< tt) (replicas s)

    length_entry₀ : length entry₀ ≤ entry_room
    unfolding entry₀
    length_entry₀ = omega (arith, length_block_certificate zero_name zero_is_name own 0 0)

    pub bytes_opened : IsBytes m → IsBytes (opened_memory m s own leaders)
    unfolding headed led begun₀
    bytes_opened b =
        rw opened_is
        (bytes_emptied _
        (bytes_with_entry headed entry₀ (bytes_with_count led 0 (bytes_with_leaders begun₀ leaders (bytes_begun m s.f s.c s.k own b) bytes_leaders)) entry₀_form.bytes))

    module _ (long : memory_length ≤ length m) where
      head_long : memory_length ≤ length headed
      unfolding headed
      head_long = omega (arith, length_with_count led 0, length_led)

      same : SameHeader (with_entry headed entry₀) (opened_memory m s own leaders)
      same = rw opened_is (same_header _ _ (emptied_head (with_entry headed entry₀)))

      pub opened_settings : settings_of (opened_memory m s own leaders) ≡ s
      unfolding headed led begun₀
      opened_settings =
          same.settings ∙ entry_settings headed entry₀ ∙ count_settings led 0 ∙ settings_same begun₀ led 12 (leaders_before begun₀ leaders) (omega arith)
          ∙ begun_settings m s.f s.c s.k own long (omega (arith, o.few)) (omega (arith, o.few)) (omega (arith, o.few))

      pub opened_own : own_of (opened_memory m s own leaders) ≡ own
      unfolding headed led begun₀ own_of
      opened_own =
          same.own ∙ entry_own headed entry₀ ∙ count_own led 0 ∙ own_same begun₀ led 12 (leaders_before begun₀ leaders) (omega arith)
          ∙ begun_own m s.f s.c s.k own long (omega (arith, o.few, o.member))

      -- the list that it was given
      begun_long : entry_place ≤ length begun₀
      unfolding begun₀
      begun_long = omega (arith, length-begun m s.f s.c s.k own)

      still_led : SameLeaders led (opened_memory m s own leaders)
      unfolding headed
      still_led = leaders_trans led _ _ (leaders_trans led headed _ (count_leaders led 0) (entry_leaders headed entry₀)) same.leaders

      pub opened_leader_count : leader_count_of (opened_memory m s own leaders) ≡ length leaders
      unfolding led
      opened_leader_count = still_led.count ∙ leader_count_put begun₀ leaders good.most begun_long

      pub opened_leaders : leaders_of (opened_memory m s own leaders) ≡ leaders
      unfolding led
      opened_leaders = still_led.list ∙ leaders_put begun₀ leaders good.most begun_long

      pub opened_count : block_count_of (opened_memory m s own leaders) ≡ 0
      unfolding headed
      opened_count = same.block_count ∙ entry_block_count headed entry₀ ∙ count_put led 0 (lit< tt) (omega (arith, length_led))

      pub opened_entry : entry_of (opened_memory m s own leaders) ≡ block_certificate_bytes own 0 zero_name 0
      unfolding entry₀
      opened_entry = same.entry (omega (arith, entry_length_put headed entry₀ length_entry₀ head_long, length_entry₀)) ∙ entry_put headed entry₀ length_entry₀ head_long

      -- no row of any table has an entry
      pub opened_none : (t : Table) (v i : ℕ) → has (opened_memory m s own leaders) (row_of t v) i ≡ false
      opened_none t v i = rw opened_is (emptied_none i (with_entry headed entry₀) (omega (arith, length-with_entry headed entry₀, head_long)) t v)

-- ---- the state that an opening leaves
abbrev pub opened_work : List ℕ → List Block → Settings → ℕ → List ℕ → Work
opened_work m st s own leaders = record { counters = opened; memory = opened_memory m s own leaders; store = st; out = [] }

opened_typed : CountersTyped opened
unfolding opened
opened_typed =
    record {
      view = lit< tt;
      timed = lit< tt;
      high = record { view = lit< tt; name = zero_is_name };
      lock = record { view = lit< tt; name = zero_is_name; signers = lit< tt };
      weak = record { view = lit< tt; name = zero_is_name; signers = lit< tt };
      tip = record { name = zero_is_name; parent = zero_is_name; height = lit< tt };
    }

pub opened_regular : (m : List ℕ) (st : List Block) (s : Settings) (own : ℕ) (leaders : List ℕ) → Openable s own leaders → IsBytes m → All BlockTyped st → memory_length ≤ length m
    → store_length ≤ length st → Regular (opened_work m st s own leaders)
unfolding opened entry₀
opened_regular m st s own leaders o b t long room =
    record {
      typed = record { counters = opened_typed; memory = bytes_opened m s own leaders o b; store = t };
      memory_long = omega (arith, length_opened m s own leaders);
      store_long = room;
      few = rw (opened_settings m s own leaders o long) o.few;
      member = rw (opened_settings m s own leaders o long, opened_own m s own leaders o long) o.member;
      view_first = lit≤ tt;
      view_last = lit≤ tt;
      room = omega (arith, opened_count m s own leaders o long);
      entry = rw (opened_settings m s own leaders o long, opened_entry m s own leaders o long) (entry₀_form m s own leaders o).form;
      leaders_some = let g = good_leaders (replicas s) leaders o.list in omega (arith, opened_leader_count m s own leaders o long, g.some);
      leaders_most = let g = good_leaders (replicas s) leaders o.list in omega (arith, opened_leader_count m s own leaders o long, g.most);
    }

-- ---- an opening that is accepted: its five numbers and its list, the lengths of the regions, and what it leaves
pub record OpenedBy (r : Replica) (f c k n own : ℕ) (leaders : List ℕ) (W : Work) : Type 0 where
  pub count : n ≡ replicas (record { f = f; c = c; k = k })
  pub openable : Openable (record { f = f; c = c; k = k }) own leaders
  pub memory : memory_length ≤ length r.memory
  pub store : store_length ≤ length r.store
  pub left : W ≡ opened_work r.memory r.store (record { f = f; c = c; k = k }) own leaders

pub opening_accepts : (r : Replica) (f c k n own : ℕ) (leaders : List ℕ) (W : Work) → opening_core r f c k n own leaders ≡ accepts W → OpenedBy r f c k n own leaders W
unfolding opening_core opening_rules leader_rules
opening_accepts r f c k n own leaders W e =
    let s : Settings = record { f = f; c = c; k = k } in
    let q = (off_judge _ _ W).0 e in
    let t = q.0 in
    let count : n ≡ replicas s = eqb-true _ _ (not-false _ t.0) in
    let small : n ≤ largest = ltb-false _ _ t.1.0 in
    let low : own < n = leb-false _ _ t.1.1.0 in
    let listed : bad_leaders n leaders ≡ false = t.1.1.1.0 in
    record {
      count = count;
      openable = record { few = omega arith; member = omega arith; list = rw count at listed };
      memory = ltb-false _ _ t.1.1.1.1.0;
      store = ltb-false _ _ t.1.1.1.1.1.0;
      left = sym q.1;
    }

-- and the other way round: settings that can be opened, over regions that are long enough
pub opening_takes : (r : Replica) (s : Settings) (own : ℕ) (leaders : List ℕ) → Openable s own leaders → memory_length ≤ length r.memory → store_length ≤ length r.store
    → opening_core r s.f s.c s.k (replicas s) own leaders ≡ accepts (opened_work r.memory r.store s own leaders)
unfolding opening_core opening_rules leader_rules
opening_takes r s own leaders o long many =
    (off_judge _ _ _).1 ((ap not (eq-eqb (replicas s) (replicas s) refl), (le-ltb _ _ o.few, (lt-leb _ _ o.member, (o.list, (le-ltb _ _ long, (le-ltb _ _ many, tt)))))), refl)

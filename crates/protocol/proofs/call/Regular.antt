-- A replica at work whose regions pass refusal 2 (`Regular`), and each action keeps it so. Assumes nothing.
use Prim.Native.Nat.{ℕ, ◌+◌, ◌*◌, ◌≤◌, ◌<◌}
use native.Mathlib.Omega.{arith}
use mathlib.Core.Path.{◌≡◌, refl, ◌∙◌}
use mathlib.Core.Bool.{Bool, true, false, cond, ◌&&◌}
use mathlib.Core.Logic.{◌⊎◌, inl, inr}
use mathlib.Core.List.{List}
use borrow.Author.Tests.{leb-true, ltb-true, eqb-true, le-leb, lt-ltb, eq-eqb}
use lib.Dec.{eqb, leb}
use lib.ListN.{length, drop, set, length-set, length-take, length-drop}
use Rattle.settings.specs.Quorum.{largest, last_view}
use Rattle.settings.specs.Opening.{most_leaders}
use Rattle.codec.specs.Bytes.{IsBytes, part}
use Rattle.codec.proofs.Order.{and_true}
use Rattle.wire.specs.Fields.{kind_of, count_of, view_of, block_certificate_length, timeouts_head, timeout_length}
use Rattle.certificate.specs.declared.Certificate.{Certificate}
use Rattle.blocks.specs.declared.Block.{Block}
use Rattle.memory.specs.Layout.{memory_length, entry_room, entry_place, block_count_of, entry_of, entry_length_of, leader_count_of, settings_of, own_of, with_block_count, with_entry}
use Rattle.memory.specs.Kept.{keep}
use Rattle.memory.specs.Window.{entered}
use Rattle.memory.proofs.Apart.{Table, row_of, width_of}
use Rattle.memory.proofs.Keeping.{length-keep, bytes_keep}
use Rattle.memory.proofs.Entering.{length-entered, bytes_entered, entered_head}
use Rattle.memory.proofs.Header.{SameHeader, same_header, SameLeaders, leaders_refl, leaders_trans, keep_head, length_with_count, bytes_with_count, count_put, count_settings, count_own, count_leaders, count_entry, length-with_entry, bytes_with_entry, entry_settings, entry_own, entry_leaders, entry_block_count, entry_put}
use Rattle.counters.specs.declared.Counters.{Counters}
use Rattle.counters.specs.Counters.{adopting, with_locks, entering}
use Rattle.protocol.specs.Work.{Work, view, settings, n, own, view_now, held_block, with_counters, with_memory, send, adopt, enter_by, hold}
use Rattle.protocol.specs.Typed.{CertificateTyped, BlockTyped, CountersTyped, Typed}
use Rattle.protocol.specs.Refusals.{store_length, regular, entry_regular}
use Rattle.protocol.proofs.call.Typing.{all_set, adopting_typed}

-- a record that can be an entry certificate in a cluster of n: kind 3, or kind 6 with at most n timeouts, of its length
abbrev pub EntryForm : ℕ → List ℕ → Type 0
EntryForm n r =
    ((kind_of r ≡ 3) × (length r ≡ block_certificate_length))
    ⊎ ((kind_of r ≡ 6) × (count_of r ≤ n) × (length r ≡ timeouts_head + timeout_length * count_of r))

-- types, lengths, and the rules of refusal 2, one by one
pub record Regular (W : Work) : Type 0 where
  pub typed : Typed W
  pub memory_long : memory_length ≤ length W.memory
  pub store_long : store_length ≤ length W.store
  pub few : n W ≤ largest
  pub member : own W < n W
  pub view_first : 1 ≤ view_now W
  pub view_last : view_now W ≤ last_view
  pub room : block_count_of W.memory ≤ store_length
  pub entry : EntryForm (n W) (entry_of W.memory)
  pub leaders_some : 1 ≤ leader_count_of W.memory
  pub leaders_most : leader_count_of W.memory ≤ most_leaders

-- what every action leaves: settings, own number and leader list, and the lengths of the regions
pub record Still (W W' : Work) : Type 0 where
  pub settings : settings_of W'.memory ≡ settings_of W.memory
  pub own : own_of W'.memory ≡ own_of W.memory
  pub leaders : SameLeaders W.memory W'.memory
  pub memory : length W'.memory ≡ length W.memory
  pub store : length W'.store ≡ length W.store

-- a certificate's record that may come in or be formed: bytes, of the form, and of a view below the last
pub record ProgressForm (n : ℕ) (r : List ℕ) : Type 0 where
  pub bytes : IsBytes r
  pub form : EntryForm n r
  pub view : view_of r < last_view

pub still_refl : (W : Work) → Still W W
still_refl W = record { settings = refl; own = refl; leaders = leaders_refl W.memory; memory = refl; store = refl }

pub still_trans : (W W₁ W₂ : Work) → Still W W₁ → Still W₁ W₂ → Still W W₂
still_trans W W₁ W₂ a b =
    record {
      settings = b.settings ∙ a.settings;
      own = b.own ∙ a.own;
      leaders = leaders_trans W.memory W₁.memory W₂.memory a.leaders b.leaders;
      memory = b.memory ∙ a.memory;
      store = b.store ∙ a.store;
    }

-- ---- the entry certificate has room
pub form_room : (n : ℕ) (r : List ℕ) → n ≤ largest → EntryForm n r → length r ≤ entry_room
form_room n r h (inl (k, l)) = omega arith
form_room n r h (inr (k, c, l)) = omega arith

-- ---- refusal 2, as tests
entry_rules : (W : Work) → EntryForm (n W) (entry_of W.memory) → entry_regular W ≡ true
entry_rules W (inl (k, l)) = rw (k, eq-eqb _ _ l)
entry_rules W (inr (k, c, l)) = rw (k, le-leb _ _ c) (eq-eqb _ _ l)

rules_entry : (W : Work) → entry_regular W ≡ true → EntryForm (n W) (entry_of W.memory)
rules_entry W e = go (eqb (kind_of r) 3) refl e
  where
    r : List ℕ
    r = entry_of W.memory

    go : (t : Bool) → eqb (kind_of r) 3 ≡ t
        → cond t (eqb (length r) block_certificate_length) (eqb (kind_of r) 6 && (leb (count_of r) (n W) && eqb (length r) (timeouts_head + timeout_length * count_of r))) ≡ true
        → EntryForm (n W) r
    go true k h = inl (eqb-true _ _ k, eqb-true _ _ h)
    go false k h =
        let a = and_true _ _ h in
        let b = and_true _ _ a.1 in
        inr (eqb-true _ _ a.0, leb-true _ _ b.0, eqb-true _ _ b.1)

pub regular_rules : (W : Work) → Regular W → regular W ≡ true
unfolding regular
regular_rules W R =
    rw (le-leb _ _ R.few, lt-ltb _ _ R.member, le-leb _ _ R.view_first, le-leb _ _ R.view_last, le-leb _ _ R.room, entry_rules W R.entry, le-leb _ _ R.leaders_some)
    (le-leb _ _ R.leaders_most)

pub rules_regular : (W : Work) → Typed W → memory_length ≤ length W.memory → store_length ≤ length W.store → regular W ≡ true → Regular W
unfolding regular
rules_regular W t m s e =
    let a = and_true _ _ e in
    let c = and_true _ _ a.1 in
    let d = and_true _ _ c.1 in
    let f = and_true _ _ d.1 in
    let g = and_true _ _ f.1 in
    let h = and_true _ _ g.1 in
    let l = and_true _ _ h.1 in
    record {
      typed = t;
      memory_long = m;
      store_long = s;
      few = leb-true _ _ a.0;
      member = ltb-true _ _ c.0;
      view_first = leb-true _ _ d.0;
      view_last = leb-true _ _ f.0;
      room = leb-true _ _ g.0;
      entry = rules_entry W h.0;
      leaders_some = leb-true _ _ l.0;
      leaders_most = leb-true _ _ l.1;
    }

-- ---- a state after another: what has to be shown
pub regular_after : (W W' : Work) → Regular W → Still W W' → Typed W' → 1 ≤ view_now W' → view_now W' ≤ last_view → block_count_of W'.memory ≤ store_length
    → EntryForm (n W) (entry_of W'.memory) → Regular W'
regular_after W W' R s t a b c e =
    record {
      typed = t;
      memory_long = omega (arith, R.memory_long, s.memory);
      store_long = omega (arith, R.store_long, s.store);
      few = rw s.settings R.few;
      member = rw (s.settings, s.own) R.member;
      view_first = a;
      view_last = b;
      room = c;
      entry = rw s.settings e;
      leaders_some = rw s.leaders.count R.leaders_some;
      leaders_most = rw s.leaders.count R.leaders_most;
    }

-- ---- the actions
entry_length : (m : List ℕ) → length (entry_of m) ≤ entry_room → memory_length ≤ length m → entry_length_of m ≤ entry_room
unfolding entry_of part
entry_length m h l = omega (arith, h, length-take (entry_length_of m) (drop entry_place m), length-drop entry_place m)

-- another memory with the same fields in its head
same_regular : (W : Work) (m : List ℕ) → IsBytes m → length m ≡ length W.memory → SameHeader W.memory m → Regular W → Regular (with_memory W m) × Still W (with_memory W m)
same_regular W m b l h R =
    let s : Still W (with_memory W m) = record { settings = h.settings; own = h.own; leaders = h.leaders; memory = l; store = refl } in
    let e : entry_of m ≡ entry_of W.memory = h.entry (entry_length W.memory (form_room (n W) _ R.few R.entry) R.memory_long) in (
      regular_after W (with_memory W m) R s (record { counters = R.typed.counters; memory = b; store = R.typed.store }) R.view_first R.view_last
          (rw h.block_count R.room) (rw e R.entry),
      s,
    )

pub keep_regular : (W : Work) (t : Table) (v i : ℕ) (e : List ℕ) → i < largest → length e ≡ width_of t → IsBytes e → Regular W
    → Regular (with_memory W (keep W.memory (row_of t v) (width_of t) i e)) × Still W (with_memory W (keep W.memory (row_of t v) (width_of t) i e))
keep_regular W t v i e h l b R =
    same_regular W (keep W.memory (row_of t v) (width_of t) i e) (bytes_keep W.memory (row_of t v) (width_of t) i e R.typed.memory b)
    (length-keep W.memory (row_of t v) (width_of t) i e) (same_header _ _ (keep_head W.memory t v i e l h)) R

pub counters_regular : (W : Work) (c : Counters) → CountersTyped c → 1 ≤ c.view.0 → c.view.0 ≤ last_view → Regular W → Regular (with_counters W c)
counters_regular W c t a b R =
    regular_after W (with_counters W c) R (record { settings = refl; own = refl; leaders = leaders_refl W.memory; memory = refl; store = refl })
    (record { counters = t; memory = R.typed.memory; store = R.typed.store }) a b R.room R.entry

pub send_regular : (W : Work) (r : List ℕ) → Regular W → Regular (send W r)
send_regular W r R =
    regular_after W (send W r) R (record { settings = refl; own = refl; leaders = leaders_refl W.memory; memory = refl; store = refl })
    (record { counters = R.typed.counters; memory = R.typed.memory; store = R.typed.store }) R.view_first R.view_last R.room R.entry

-- adopting leaves the view
pub adopting-view : (c : Counters) (k : Certificate) → (adopting c k).view ≡ c.view
unfolding adopting with_locks
adopting-view c k = refl

pub adopt_regular : (W : Work) (k : Certificate) → CertificateTyped k → Regular W → Regular (adopt W k)
unfolding adopt adopting with_locks
adopt_regular W k t R = counters_regular W (adopting W.counters k) (adopting_typed W.counters k R.typed.counters t) R.view_first R.view_last R

pub adopt_still : (W : Work) (k : Certificate) → Still W (adopt W k)
unfolding adopt
adopt_still W k = record { settings = refl; own = refl; leaders = leaders_refl W.memory; memory = refl; store = refl }

entering_typed : (c : Counters) (v : ℕ) → v ≤ last_view → CountersTyped c → CountersTyped (entering c (view v))
unfolding entering
entering_typed c v h t = record { view = omega arith; timed = t.timed; high = t.high; lock = t.lock; weak = t.weak; tip = t.tip }

pub enter_regular : (W : Work) (v : ℕ) (r : List ℕ) → 1 ≤ v → v ≤ last_view → IsBytes r → EntryForm (n W) r → Regular W → Regular (enter_by W v r) × Still W (enter_by W v r)
unfolding enter_by entering
enter_regular W v r a b br f R =
    let m = W.memory in
    let w = entered m (view_now W) v in
    let h = same_header m w (entered_head m (view_now W) v) in
    let lw : length w ≡ length m = length-entered m (view_now W) v in
    let long : memory_length ≤ length w = omega (arith, lw, R.memory_long) in
    let put : entry_of (with_entry w r) ≡ r = entry_put w r (form_room (n W) r R.few f) long in
    let s : Still W (enter_by W v r) =
    record {
      settings = entry_settings w r ∙ h.settings;
      own = entry_own w r ∙ h.own;
      leaders = leaders_trans m w (with_entry w r) h.leaders (entry_leaders w r);
      memory = length-with_entry w r ∙ lw;
      store = refl;
    } in (
      regular_after W (enter_by W v r) R s
          (record {
            counters = entering_typed W.counters v b R.typed.counters;
            memory = bytes_with_entry w r (bytes_entered m (view_now W) v R.typed.memory) br;
            store = R.typed.store;
          })
          a b (rw (entry_block_count w r, h.block_count) R.room) (rw put f),
      s,
    )

pub hold_regular : (W : Work) (b : Block) → BlockTyped b → ((held_block W b.name).is ≡ false → block_count_of W.memory < store_length) → Regular W → Regular (hold W b) × Still W (hold W b)
unfolding hold
hold_regular W b t free R = go (held_block W b.name).is refl
  where
    k : ℕ
    k = block_count_of W.memory

    m : List ℕ
    m = with_block_count W.memory (k + 1)

    with : Work
    with = record { counters = W.counters; memory = m; store = set W.store k b; out = W.out }

    go : (is : Bool) → (held_block W b.name).is ≡ is → Regular (cond is W with) × Still W (cond is W with)
    go true e = (R, still_refl W)
    go false e =
        let less : k < store_length = free e in
        let put : block_count_of m ≡ k + 1 = count_put W.memory (k + 1) (omega arith) (omega (arith, R.memory_long)) in
        let s : Still W with =
        record {
          settings = count_settings W.memory (k + 1);
          own = count_own W.memory (k + 1);
          leaders = count_leaders W.memory (k + 1);
          memory = length_with_count W.memory (k + 1);
          store = length-set W.store k b;
        } in (
          regular_after W with R s
              (record { counters = R.typed.counters; memory = bytes_with_count W.memory (k + 1) R.typed.memory; store = all_set BlockTyped W.store k b R.typed.store t })
              R.view_first R.view_last (omega (arith, put)) (rw (count_entry W.memory (k + 1)) R.entry),
          s,
        )

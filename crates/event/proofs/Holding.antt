-- A block that is held and a proposal that is taken, as the code does it; each premise is a test or what one callee ensures. Assumes nothing.
use Prim.Native.Nat.{ℕ, ◌+◌, ◌≤◌, ◌<◌, ◌^◌}
use native.Mathlib.Omega.{arith}
use mathlib.Core.Path.{◌≡◌, refl, sym, ap, ◌∙◌}
use mathlib.Core.Bool.{Bool, true, false, cond, ◌&&◌}
use mathlib.Core.List.{List}
use Rattle.std.specs.Prelude.{Option, Some, None}
use borrow.Author.Tests.{eq-eqb, ne_eqb}
use lib.Dec.{ltb}
use lib.ListN.{length, take, set, length-append}
use lib.Seq.{length-take-le}
use Rattle.settings.specs.Quorum.{replicas}
use Rattle.wire.specs.Content.{certificate_of}
use Rattle.wire.specs.Encode.{vote_bytes}
use Rattle.certificate.specs.declared.Certificate.{Certificate}
use Rattle.certificate.specs.Safe.{safe_certificate}
use Rattle.blocks.specs.declared.Block.{Block}
use Rattle.memory.specs.Layout.{entry_room, settings_of, block_count_of, with_block_count}
use Rattle.memory.proofs.Header.{length_with_count, bytes_with_count, count_put, count_settings, count_own, count_leaders, count_entry}
use Rattle.counters.specs.declared.Counters.{Counters}
use Rattle.counters.specs.Counters.{adopting, with_locks}
use Rattle.protocol.specs.Work.{Work, own, settings, timed, high_vote_view, held_block, hold, send_vote, keep_vote}
use Rattle.protocol.specs.Refusals.{store_length}
use Rattle.protocol.specs.Events.{progress, proposition_of}
use Rattle.protocol.proofs.call.Regular.{Regular, ProgressForm, regular_after}
use Rattle.protocol.proofs.call.Rules.{adopts_regular, progress_regular}
use Rattle.protocol.proofs.call.Written.{adopt-out, progress_out}
use Rattle.protocol.proofs.call.Proposals.{SameHeld, progress_held}
use Rattle.act.specs.declared.Draft.{Draft}
use Rattle.act.specs.Draft.{work_of, Left, left, left_by, Does, Ready}
use Rattle.act.proofs.Steps.{empty_store, Longer, does_nothing, regular_ready, ready_next}
use Rattle.act.proofs.Advancing.{longer_if, adopt_safe, adopt_does}
use Rattle.event.specs.declared.Event.{Event}
use Rattle.event.specs.declared.Placed.{Placed}
use Rattle.event.specs.Event.{Gives, filled, HeldIs, placed_for, counted_in, HasRoom, hold_vote}
use Rattle.event.proofs.Giving.{gives_same, does_gives, gives_then}

-- ---- the block is held
module _ (d : Draft) (m o : List ℕ) (b : Block) (t : Bool) (h : d.at ≤ length o) where
  pub hold_gives : {p : Option Placed} {m₁ : List ℕ} → (p ≡ placed_for m b t) × (m₁ ≡ counted_in m t) → Gives (λ W. hold W b) (HeldIs b.name t) d m o (record { draft = d; placed = p }) m₁ o
  unfolding hold placed_for counted_in
  hold_gives {p} {m₁} e = record { leaves = λ s l x. by s t l x e.0 e.1 }
    where
      at_is : (s : List Block) → d.at ≡ length (take d.at o)
      at_is s = sym (length-take-le d.at o h)

      by : (s : List Block) (t : Bool) → length s < 2 ^ 64 → (held_block (work_of d m o s) b.name).is ≡ t → p ≡ cond t None (Some (record { place = block_count_of m; block = b }))
          → m₁ ≡ cond t m (with_block_count m (block_count_of m + 1)) → left d m₁ o (filled s p) ≡ left_by (hold (work_of d m o s) b) o
      by s true l x q r = rw (x, q, r) ((does_nothing d m o h).leaves s)
      by s false l x q r = rw (x, q, r) (ap (λ (z : Left). record { counters = z.counters; at = z.at; memory = with_block_count m (block_count_of m + 1); output = z.output; store = set s (block_count_of m) b }) ((does_nothing d m o h).leaves s))

-- the counters stay
either_counters : (W A : Work) (t : Bool) → A.counters ≡ W.counters → (cond t W A).counters ≡ W.counters
either_counters W A true e = refl
either_counters W A false e = e

hold-counters : (W : Work) (b : Block) → (hold W b).counters ≡ W.counters
unfolding hold
hold-counters W b = either_counters W _ (held_block W b.name).is refl

hold_longer : (W A : Work) (t : Bool) → A.out ≡ W.out → Longer W (cond t W A)
hold_longer W A true e = omega arith
hold_longer W A false e = omega (arith, ap length e)

vote_longer : (v : ℕ) (x : List ℕ) (W : Work) → Longer W (send_vote v x W)
unfolding send_vote keep_vote
vote_longer v x W = omega (arith, length-append W.out (vote_bytes 1 (own W) v x))

pub hold_vote_longer : (v : ℕ) (b : Block) (W : Work) → Longer W (hold_vote v b W)
unfolding hold_vote hold
hold_vote_longer v b W =
    let W₂ = hold W b in
    let a : Longer W W₂ = hold_longer W _ (held_block W b.name).is refl in
    longer_if W _ _ (ltb (timed W₂) v && ltb (high_vote_view W₂) v) (omega (arith, a, vote_longer v b.name W₂)) a

-- ---- regular with one block more
module _ (d : Draft) (m o : List ℕ) (t : Bool) (k : ℕ) (a : Ready d m o k) (R : Regular (work_of d m o empty_store)) (free : HasRoom m t) where
  counted : Ready d (counted_in m t) o k
  unfolding counted_in
  counted = go t free
    where
      j : ℕ
      j = block_count_of m

      m₁ : List ℕ
      m₁ = with_block_count m (j + 1)

      more : block_count_of m < store_length → Ready d m₁ o k
      more less =
          let W = work_of d m o empty_store in
          let W₁ = work_of d m₁ o empty_store in
          let put : block_count_of m₁ ≡ j + 1 = count_put m (j + 1) (omega arith) (omega (arith, R.memory_long)) in
          let R₁ : Regular W₁ =
          regular_after W W₁ R (record { settings = count_settings m (j + 1); own = count_own m (j + 1); leaders = count_leaders m (j + 1); memory = length_with_count m (j + 1); store = refl })
          (record { counters = R.typed.counters; memory = bytes_with_count m (j + 1) R.typed.memory; store = R.typed.store })
          R.view_first R.view_last (omega (arith, put)) (rw (count_entry m (j + 1)) R.entry) in
          let at_is : length (take d.at o) ≡ d.at = length-take-le d.at o (omega (arith, a.room)) in
          regular_ready d m₁ o empty_store W₁ o k ((does_nothing d m₁ o (omega (arith, a.room))).leaves empty_store) R₁ (omega (arith, at_is, a.room))

      go : (t : Bool) → HasRoom m t → Ready d (cond t m (with_block_count m (block_count_of m + 1))) o k
      go true f = a
      go false f = more (f refl)

  pub hold_ready : {m₁ : List ℕ} → m₁ ≡ counted_in m t → Ready d m₁ o k
  hold_ready e = rw e counted

-- ---- "hold the block; ... vote for it"
module _ (d : Draft) (m o : List ℕ) (v : ℕ) (b : Block) (t : Bool) (h : d.at ≤ length o) {p : Option Placed} {m₁ : List ℕ} (e : (p ≡ placed_for m b t) × (m₁ ≡ counted_in m t)) where
  timed_is : (s : List Block) → timed (hold (work_of d m o s) b) ≡ d.counters.timed.0
  timed_is s = ap (λ (c : Counters). c.timed.0) (hold-counters (work_of d m o s) b)

  high_is : (s : List Block) → high_vote_view (hold (work_of d m o s) b) ≡ d.counters.high.view.0
  high_is s = ap (λ (c : Counters). c.high.view.0) (hold-counters (work_of d m o s) b)

  module _ {voting : Bool} (x : voting ≡ (ltb d.counters.timed.0 v && ltb d.counters.high.view.0 v)) where
    pub held_only : voting ≡ false → Gives (hold_vote v b) (HeldIs b.name t) d m o (record { draft = d; placed = p }) m₁ o
    unfolding hold_vote
    held_only y = gives_same (λ W. hold W b) (hold_vote v b) (HeldIs b.name t) (λ s l g. sym (rw (timed_is s, high_is s, ← x, y))) (hold_gives d m o b t h e)

    pub held_and_voted : {d₂ : Draft} {m₂ o₂ : List ℕ} → voting ≡ true → Does (send_vote v b.name) d m₁ o d₂ m₂ o₂
        → Gives (hold_vote v b) (HeldIs b.name t) d m o (record { draft = d₂; placed = p }) m₂ o₂
    unfolding hold_vote
    held_and_voted y a =
        gives_same (λ W. send_vote v b.name (hold W b)) (hold_vote v b) (HeldIs b.name t) (λ s l g. sym (rw (timed_is s, high_is s, ← x, y)))
        (gives_then (λ W. hold W b) (send_vote v b.name) (HeldIs b.name t) (hold_gives d m o b t h e) a (vote_longer v b.name))

-- ---- a proposal
pub tip_adopted : (c : Counters) (k : Certificate) {c₁ : Counters} → c₁ ≡ adopting c k → c₁.tip ≡ c.tip
unfolding adopting with_locks
tip_adopted c k e = ap (λ (c : Counters). c.tip) e

-- what is held of a name, by what the search goes through
pub held_same_lem : (x : List ℕ) (t : Bool) (d d₁ : Draft) (m m₁ o o₁ : List ℕ) → d₁.counters.tip ≡ d.counters.tip → block_count_of m₁ ≡ block_count_of m
    → (s : List Block) → HeldIs x t (work_of d m o s) → HeldIs x t (work_of d₁ m₁ o₁ s)
held_same_lem x t d d₁ m m₁ o o₁ p q s g = rw (p, q) g

module _ (d : Draft) (m o : List ℕ) (v : ℕ) (b : Block) (t : Bool) (r : List ℕ) where
  -- of the current view
  pub now_gives : {c : Counters} {e : Event} {m₂ o₂ : List ℕ} → d.at ≤ length o → v ≡ d.counters.view.0 → c ≡ adopting d.counters (safe_certificate (settings_of m) (certificate_of r))
      → Gives (hold_vote v b) (HeldIs b.name t) (record { counters = c; at = d.at }) m o e m₂ o₂ → Gives (proposition_of v b r) (HeldIs b.name t) d m o e m₂ o₂
  unfolding proposition_of hold_vote
  now_gives {c = c} h q p a =
      gives_same (λ W. hold_vote v b (adopt_safe r W)) (proposition_of v b r) (HeldIs b.name t) (λ s l g. sym (rw (eq-eqb v d.counters.view.0 q)))
      (does_gives (adopt_safe r) (hold_vote v b) (HeldIs b.name t) (HeldIs b.name t) (adopt_does d m o r h p) a (held_same_lem b.name t d (record { counters = c; at = d.at }) m m o o (tip_adopted _ _ p) refl) (hold_vote_longer v b))

  -- of a higher view
  module _ (R : Regular (work_of d m o empty_store)) (f : ProgressForm (replicas (settings_of m)) r) {d₁ : Draft} {m₁ o₁ : List ℕ} (a : Does (progress r) d m o d₁ m₁ o₁) where
    same : SameHeld (work_of d m o empty_store) (progress r (work_of d m o empty_store))
    same = progress_held (work_of d m o empty_store) r f R

    count_same : block_count_of m₁ ≡ block_count_of m
    count_same = ap (λ (l : Left). block_count_of l.memory) (a.leaves empty_store) ∙ same.count

    tip_same : d₁.counters.tip ≡ d.counters.tip
    tip_same = ap (λ (l : Left). l.counters.tip) (a.leaves empty_store) ∙ same.tip

    pub next_ready : Ready d m o (entry_room + 48) → Ready d₁ m₁ o₁ 48
    next_ready q =
        let W = work_of d m o empty_store in
        ready_next (progress r) entry_room 48 a q (progress_regular W r f R).0 (progress_out W r f R.few) (omega arith)

    pub next_room : HasRoom m t → HasRoom m₁ t
    next_room h e = omega (arith, h e, count_same)

    pub next_gives : {e : Event} {m₂ o₂ : List ℕ} → (v ≡ d.counters.view.0 → ⊥) → Gives (hold_vote v b) (HeldIs b.name t) d₁ m₁ o₁ e m₂ o₂
        → Gives (proposition_of v b r) (HeldIs b.name t) d m o e m₂ o₂
    unfolding proposition_of hold_vote
    next_gives q c =
        gives_same (λ W. hold_vote v b (progress r W)) (proposition_of v b r) (HeldIs b.name t) (λ s l g. sym (rw (ne_eqb v d.counters.view.0 q)))
        (does_gives (progress r) (hold_vote v b) (HeldIs b.name t) (HeldIs b.name t) a c (held_same_lem b.name t d d₁ m m₁ o o₁ tip_same count_same) (hold_vote_longer v b))

-- the safe certificate alone leaves the replica ready
pub adopted_ready : (d : Draft) (m o r : List ℕ) (k : ℕ) {c : Counters} → Ready d m o k → Regular (work_of d m o empty_store) → ProgressForm (replicas (settings_of m)) r
    → c ≡ adopting d.counters (safe_certificate (settings_of m) (certificate_of r)) → Ready (record { counters = c; at = d.at }) m o k
adopted_ready d m o r k a R f e =
    let W = work_of d m o empty_store in
    ready_next (adopt_safe r) 0 k (adopt_does d m o r (omega (arith, a.room)) e) a (adopts_regular W r f.bytes f.form R) (omega (arith, ap length (adopt-out W (safe_certificate (settings W) (certificate_of r))))) (omega arith)

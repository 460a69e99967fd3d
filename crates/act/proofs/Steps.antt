-- The relation `Does` between a step of code and a step of the definitions: no step, two steps, and what is ready afterwards. Assumes nothing.
use Prim.Native.Nat.{ℕ, zero, suc, ◌+◌, ◌-◌, ◌≤◌, ◌<◌}
use native.Mathlib.Omega.{arith}
use mathlib.Core.Path.{◌≡◌, refl, sym, ap, ◌∙◌}
use mathlib.Core.List.{List, [], ◌∷◌, ◌++◌, append_assoc}
use lib.Dec.{lit<, leb}
use lib.ListN.{length, take, drop, set, replicate, length-append, length-drop, length-set, take-append-drop}
use lib.Seq.{take_at, take-append_seam, drop-append-add, drop-drop, take-suc-set, drop-set-lt, length-take-le}
use borrow.Author.Tests.{leb-true, ltb-true}
use Rattle.settings.specs.Quorum.{largest, last_view, replicas}
use Rattle.codec.proofs.Order.{and_true}
use Rattle.memory.specs.Layout.{settings_of, own_of, block_count_of}
use Rattle.codec.specs.Bytes.{IsBytes, part, patch}
use Rattle.codec.proofs.Laws.{length-part, patch-part, patch_append, patch_comm, patch-patch}
use Rattle.wire.specs.Fit.{All}
use Rattle.blocks.specs.declared.Block.{Block}
use Rattle.blocks.specs.Store.{genesis}
use Rattle.protocol.specs.Work.{Work}
use Rattle.protocol.specs.Typed.{BlockTyped, CountersTyped}
use Rattle.protocol.specs.Refusals.{store_length, regular}
use Rattle.protocol.proofs.call.Typing.{zero_is_name}
use Rattle.protocol.proofs.call.Regular.{Regular, rules_regular, regular_rules}
use Rattle.protocol.proofs.call.Written.{Grows}
use Rattle.act.specs.declared.Draft.{Draft}
use Rattle.act.specs.Draft.{work_of, Left, left, left_by, Does, Ready}

-- ---- a record in the region, behind what is written
pub patch_split : (o : List ℕ) (at : ℕ) (v : List ℕ) → at + length v ≤ length o → patch o at v ≡ take at o ++ (v ++ drop (at + length v) o)
unfolding patch
patch_split o at [] h = let e : at + 0 ≡ at = omega arith in rw e (sym (take-append-drop at o))
patch_split o at (x ∷ v) h =
    let e : suc at + length v ≡ at + suc (length v) = omega arith in
    patch_split (set o at x) (suc at) v (omega (arith, length-set o at x)) ∙ rw (take-suc-set o at x (omega arith), drop-set-lt (suc at + length v) o at x (omega arith), e) (append_assoc (take at o) (x ∷ []) _)

module _ (o : List ℕ) (at : ℕ) (v : List ℕ) (h : at + length v ≤ length o) where
  pub sent_at : at + length v ≡ length (take at o ++ v)
  sent_at = omega (arith, length-append (take at o) v, length-take-le at o (let b : at ≤ length o = omega arith in b))

  pub sent_out : patch o at v ≡ (take at o ++ v) ++ drop (length (take at o ++ v)) o
  sent_out = patch_split o at v h ∙ sym (append_assoc (take at o) v _) ∙ ap (λ (k : ℕ). (take at o ++ v) ++ drop k o) sent_at

-- what stands before it and behind it stays
pub take-patch : (o : List ℕ) (at : ℕ) (v : List ℕ) → at + length v ≤ length o → take at (patch o at v) ≡ take at o
take-patch o at v h = rw (patch_split o at v h) (take_at (take at o) _ at (length-take-le at o (let b : at ≤ length o = omega arith in b)))

pub drop-patch : (o : List ℕ) (at : ℕ) (v : List ℕ) (b : ℕ) → at + length v ≤ length o → at + length v ≤ b → drop b (patch o at v) ≡ drop b o
drop-patch o at v b h l =
    let a = take at o ++ v in
    let e : b ≡ length a + (b - length a) = omega (arith, sent_at o at v h) in
    rw (sent_out o at v h) (ap (λ (i : ℕ). drop i (a ++ drop (length a) o)) e ∙ drop-append-add a (drop (length a) o) (b - length a) ∙ drop-drop (b - length a) (length a) o ∙ ap (λ (i : ℕ). drop i o) (sym e))

-- bytes inside a record that is put
pub patch_inner : (o : List ℕ) (at : ℕ) (r : List ℕ) (i : ℕ) (v : List ℕ) → i + length v ≤ length r → patch (patch o at r) (at + i) v ≡ patch o at (patch r i v)
patch_inner o at r i v h =
    let a = take i r in
    let k = length v in
    let b = part r i k in
    let z = drop (i + k) r in
    let la : length a ≡ i = length-take-le i r (let x : i ≤ length r = omega arith in x) in
    let lb : length b ≡ k = length-part r i k h in
    let whole : r ≡ a ++ (b ++ z) = sym (patch-part r i k h) ∙ patch_split r i b (omega arith) ∙ ap (λ (j : ℕ). a ++ (b ++ drop (i + j) r)) lb in
    let s = patch o at a in
    let left : patch o at r ≡ patch (patch s (at + i) b) (at + i + k) z =
    ap (patch o at) whole ∙ patch_append o at a (b ++ z) ∙ ap (λ (j : ℕ). patch s (at + j) (b ++ z)) la ∙ patch_append s (at + i) b z ∙ ap (λ (j : ℕ). patch (patch s (at + i) b) (at + i + j) z) lb in
    let right : patch o at (patch r i v) ≡ patch (patch s (at + i) v) (at + i + k) z =
    ap (patch o at) (patch_split r i v h) ∙ patch_append o at a (v ++ z) ∙ ap (λ (j : ℕ). patch s (at + j) (v ++ z)) la ∙ patch_append s (at + i) v z in
    ap (λ (x : List ℕ). patch x (at + i) v) left ∙ sym (patch_comm (patch s (at + i) b) (at + i) v (at + i + k) z (omega arith))
    ∙ ap (λ (x : List ℕ). patch x (at + i + k) z) (patch-patch s (at + i) b v lb) ∙ sym right

-- ---- what is left, field by field
pub same_left : (d : Draft) (m o : List ℕ) (s : List Block) (W : Work) (o₀ : List ℕ) → d.counters ≡ W.counters → d.at ≡ length W.out → m ≡ W.memory
    → o ≡ W.out ++ drop (length W.out) o₀ → s ≡ W.store → left d m o s ≡ left_by W o₀
same_left d m o s W o₀ p q r t u = rw (p, q, r, t, u)

-- the replica at work, read off again
pub work_again : (d : Draft) (m o : List ℕ) (s : List Block) (W : Work) (o₀ : List ℕ) → left d m o s ≡ left_by W o₀ → work_of d m o s ≡ W
work_again d m o s W o₀ e =
    ap (λ (l : Left). record { counters = l.counters; memory = l.memory; store = l.store; out = take l.at l.output }) e
    ∙ ap (λ (x : List ℕ). record { counters = W.counters; memory = W.memory; store = W.store; out = x }) (take-append_seam W.out _)

-- what is left over the region of the step before is left over the first region
pub left_over : (d : Draft) (m o : List ℕ) (s : List Block) (W W' : Work) (o₀ o₁ : List ℕ) → o₁ ≡ W.out ++ drop (length W.out) o₀ → length W.out ≤ length W'.out
    → left d m o s ≡ left_by W' o₁ → left d m o s ≡ left_by W' o₀
left_over d m o s W W' o₀ o₁ e h l =
    let a = length W.out in
    let b = length W'.out in
    let k : b ≡ a + (b - a) = omega arith in
    let x : drop b o₁ ≡ drop b o₀ =
    ap (drop b) e ∙ ap (λ (i : ℕ). drop i (W.out ++ drop a o₀)) k ∙ drop-append-add W.out (drop a o₀) (b - a) ∙ drop-drop (b - a) a o₀ ∙ ap (λ (i : ℕ). drop i o₀) (sym k) in
    l ∙ ap (λ (y : List ℕ). record { counters = W'.counters; at = b; memory = W'.memory; output = W'.out ++ y; store = W'.store }) x

-- one equation behind another: W' comes of W, which was left before
pub left_then : (g : Work → Work) {d₁ d₂ : Draft} {m₁ m₂ o₁ o₂ : List ℕ} {s₁ s₂ : List Block} (W₁ : Work) (o : List ℕ) → left d₁ m₁ o₁ s₁ ≡ left_by W₁ o
    → left d₂ m₂ o₂ s₂ ≡ left_by (g (work_of d₁ m₁ o₁ s₁)) o₁ → length W₁.out ≤ length (g W₁).out → left d₂ m₂ o₂ s₂ ≡ left_by (g W₁) o
left_then g {d₁} {d₂} {m₁} {m₂} {o₁} {o₂} {s₁} {s₂} W₁ o e f h =
    left_over d₂ m₂ o₂ s₂ W₁ (g W₁) o o₁ (ap (λ (l : Left). l.output) e) h (f ∙ ap (λ (W : Work). left_by (g W) o₁) (work_again d₁ m₁ o₁ s₁ W₁ o e))

-- ---- no step, and two steps
-- nothing is unwritten
abbrev pub Longer : Work → Work → Type 0
Longer W W' = length W.out ≤ length W'.out

pub does_nothing : (d : Draft) (m o : List ℕ) → d.at ≤ length o → Does (λ W. W) d m o d m o
does_nothing d m o h =
    let l : length (take d.at o) ≡ d.at = length-take-le d.at o h in
    record { leaves = λ s. same_left d m o s (work_of d m o s) o refl (sym l) refl (sym (take-append-drop d.at o) ∙ ap (λ (i : ℕ). take d.at o ++ drop i o) (sym l)) refl }

pub does_then : (f g : Work → Work) {d d₁ d₂ : Draft} {m m₁ m₂ o o₁ o₂ : List ℕ} → Does f d m o d₁ m₁ o₁ → Does g d₁ m₁ o₁ d₂ m₂ o₂
    → ((W : Work) → Longer W (g W)) → Does (λ W. g (f W)) d m o d₂ m₂ o₂
does_then f g {d} {d₁} {d₂} {m} {m₁} {m₂} {o} {o₁} {o₂} a b h =
    record { leaves = λ s. let W₁ = f (work_of d m o s) in left_then g W₁ o (a.leaves s) (b.leaves s) (h W₁) }

pub does_same : (f g : Work → Work) {d d₁ : Draft} {m m₁ o o₁ : List ℕ} → ((s : List Block) → f (work_of d m o s) ≡ g (work_of d m o s)) → Does f d m o d₁ m₁ o₁ → Does g d m o d₁ m₁ o₁
does_same f g {o = o} h a = record { leaves = λ s. a.leaves s ∙ ap (λ (W : Work). left_by W o) (h s) }

-- a step that finds nothing to do
pub does_stay : (f : Work → Work) (d : Draft) (m o : List ℕ) → d.at ≤ length o → ((s : List Block) → f (work_of d m o s) ≡ work_of d m o s) → Does f d m o d m o
does_stay f d m o h e = does_same (λ W. W) f (λ s. sym (e s)) (does_nothing d m o h)

-- a step from a region into which bytes were put that it takes for written is one from the region before
pub does_over : (f : Work → Work) {d d₁ : Draft} {m m₁ o o₁ o₂ : List ℕ} (v : List ℕ) → d.at + length v ≤ length o → o₁ ≡ patch o d.at v
    → ((s : List Block) → d.at + length v ≤ length (f (work_of d m o s)).out) → Does f d m o₁ d₁ m₁ o₂ → Does f d m o d₁ m₁ o₂
does_over f {d} {d₁} {m} {m₁} {o} {o₁} {o₂} v h e l a = record {
  leaves = λ s.
      let W = f (work_of d m o s) in
      a.leaves s
      ∙ ap (λ (x : List ℕ). left_by (f (record { counters = d.counters; memory = m; store = s; out = x })) o₁) (ap (take d.at) e ∙ take-patch o d.at v h)
      ∙ ap (λ (x : List ℕ). record { counters = W.counters; at = length W.out; memory = W.memory; output = W.out ++ x; store = W.store })
      (ap (drop (length W.out)) e ∙ drop-patch o d.at v (length W.out) h (l s));
}

-- ---- ready, and regular at a store that is long enough
abbrev pub empty_store : List Block
empty_store = replicate store_length genesis

store_typed : (k : ℕ) → All BlockTyped (replicate k genesis)
unfolding All
store_typed zero = tt
store_typed (suc k) = (record { name = zero_is_name; parent = zero_is_name; height = lit< tt }, store_typed k)

module _ (d : Draft) (m o : List ℕ) where
  pub ready_regular : {k : ℕ} → Ready d m o k → CountersTyped d.counters → IsBytes m → Regular (work_of d m o empty_store)
  unfolding regular
  ready_regular r t b =
      rules_regular (work_of d m o empty_store) (record { counters = t; memory = b; store = store_typed store_length }) r.long (omega arith) r.regular

  pub written_at : {k : ℕ} → Ready d m o k → (s : List Block) → length (work_of d m o s).out ≡ d.at
  written_at r s = length-take-le d.at o (omega (arith, r.room))

  pub regular_ready : (s : List Block) (W : Work) (o₀ : List ℕ) (k : ℕ) → left d m o s ≡ left_by W o₀ → Regular W → length W.out + k ≤ length o₀ → Ready d m o k
  unfolding regular
  regular_ready s W o₀ k e R h =
      let c : d.counters ≡ W.counters = ap (λ (l : Left). l.counters) e in
      let m' : m ≡ W.memory = ap (λ (l : Left). l.memory) e in
      let a : d.at ≡ length W.out = ap (λ (l : Left). l.at) e in
      let o' : o ≡ W.out ++ drop (length W.out) o₀ = ap (λ (l : Left). l.output) e in
      let l : length o ≡ length o₀ = ap length o' ∙ length-append W.out _ ∙ omega (arith, length-drop (length W.out) o₀) in
      record {
        long = omega (arith, R.memory_long, ap length m');
        regular = ap (λ (W : Work). regular W) (ap (λ (l : Left). record { counters = l.counters; memory = l.memory; store = []; out = take l.at l.output }) e) ∙ regular_rules W R;
        room = omega (arith, a, l);
      }

pub ready_less : (d : Draft) (m o : List ℕ) (i k : ℕ) → k ≤ i → Ready d m o i → Ready d m o k
ready_less d m o i k h r = record { long = r.long; regular = r.regular; room = omega (arith, r.room) }

-- after a step that writes at most c bytes
pub ready_next : (f : Work → Work) (c : ℕ) {d d₁ : Draft} {m m₁ o o₁ : List ℕ} {i : ℕ} (k : ℕ) → Does f d m o d₁ m₁ o₁ → Ready d m o i
    → Regular (f (work_of d m o empty_store)) → Grows c (work_of d m o empty_store) (f (work_of d m o empty_store)) → c + k ≤ i → Ready d₁ m₁ o₁ k
ready_next f c {d} {d₁} {m} {m₁} {o} {o₁} k a r R g h =
    regular_ready d₁ m₁ o₁ empty_store (f (work_of d m o empty_store)) o k (a.leaves empty_store) R (omega (arith, written_at d m o r empty_store, r.room, g))

-- ---- what refusal 2 says of a draft, with no types
pub record Facts (d : Draft) (m : List ℕ) : Type 0 where
  pub few : replicas (settings_of m) ≤ largest
  pub member : own_of m < replicas (settings_of m)
  pub view_first : 1 ≤ d.counters.view.0
  pub view_last : d.counters.view.0 ≤ last_view
  pub blocks : block_count_of m ≤ store_length

pub ready_facts : (d : Draft) (m o : List ℕ) {k : ℕ} → Ready d m o k → Facts d m
unfolding regular
ready_facts d m o r =
    let a = and_true _ _ r.regular in
    let c = and_true _ _ a.1 in
    let e = and_true _ _ c.1 in
    let f = and_true _ _ e.1 in
    let g = and_true (leb (block_count_of m) store_length) _ f.1 in
    record { few = leb-true _ _ a.0; member = ltb-true _ _ c.0; view_first = leb-true _ _ e.0; view_last = leb-true _ _ f.0; blocks = leb-true _ _ g.0 }

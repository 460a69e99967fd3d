-- One turn of a loop over the timeouts inside a timeout certificate, and its end. Assumes nothing.
use mathlib.Core.Path.{◌≡◌, refl, sym, ap, ap₂, ◌∙◌}
use mathlib.Core.List.{List, [], ◌∷◌, map}
use Prim.Native.Nat.{ℕ, zero, suc, ◌+◌, ◌*◌, ◌-◌, ◌/◌, ◌≤◌, ◌<◌}
use native.Mathlib.Nat.{add-sub_cancel_left}
use native.Mathlib.Omega.{arith}
use lib.ListN.{length, take, drop, length-append}
use lib.Seq.{drop-drop, take_at, drop_at}
use denote.Bor.{Bor}
use Rattle.std.specs.declared.option.Option.TheVariants.{Some, None}
use Rattle.std.specs.declared.slice.ChunksExact.{ChunksExact}
use Rattle.std.specs.Slice.Iter.{chunks_exact_rest, chunks_exact_size, chunks_exact_steps}
use Rattle.std.specs.Iterator.{AlwaysYields}
use Rattle.std.proofs.lemmas.List.{take-take, drop-take}
use Rattle.wire.specs.declared.Timeout.{Timeout}
use Rattle.wire.specs.Fields.{timeout_length, timeouts_head, cut, slots_left}
use Rattle.wire.specs.Content.{timeout_of}

-- where timeout i begins
abbrev pub place : ℕ → ℕ
place i = timeouts_head + timeout_length * i

-- the part that is lent, `&rec[at..at + 112]`
abbrev pub slot : List ℕ → ℕ → List ℕ
slot r i = take (place i + timeout_length - place i) (drop (place i) r)

-- the timeouts from timeout i on, of k
abbrev pub slots_from : List ℕ → ℕ → ℕ → List (List ℕ)
slots_from r k i = cut (k - i) (drop (place i) r)

pub slots_turn : (r : List ℕ) (k i : ℕ) → i < k → slots_from r k i ≡ slot r i ∷ slots_from r k (i + 1)
unfolding cut
slots_turn r k i h =
    let e : k - i ≡ suc (k - (i + 1)) = omega arith in
    let f : place i + timeout_length ≡ place (i + 1) = omega arith in
    rw (e, add-sub_cancel_left (place i) timeout_length, drop-drop timeout_length (place i) r, f)

pub slots_end : (r : List ℕ) (k i : ℕ) → k ≤ i → slots_from r k i ≡ []
unfolding cut
slots_end r k i h = let e : k - i ≡ 0 = omega arith in rw e

-- the same, read
abbrev pub timeouts_from : List ℕ → ℕ → ℕ → List Timeout
timeouts_from r k i = map timeout_of (slots_from r k i)

pub timeouts_turn : (r : List ℕ) (k i : ℕ) → i < k → timeouts_from r k i ≡ timeout_of (slot r i) ∷ timeouts_from r k (i + 1)
timeouts_turn r k i h = ap (map timeout_of) (slots_turn r k i h)

pub timeouts_end : (r : List ℕ) (k i : ℕ) → k ≤ i → timeouts_from r k i ≡ []
timeouts_end r k i h = ap (map timeout_of) (slots_end r k i h)

-- ---- an iterator over the timeouts: what it has left

-- only the bytes of k timeouts are cut
pub cut_front : (k n : ℕ) (s : List ℕ) → timeout_length * k ≤ n → cut k (take n s) ≡ cut k s
unfolding cut
cut_front zero n s h = refl
cut_front (suc k) n s h =
    let e : n ≡ timeout_length + (n - timeout_length) = omega arith in
    let d : drop timeout_length (take n s) ≡ take (n - timeout_length) (drop timeout_length s) = ap (λ (m : ℕ). drop timeout_length (take m s)) e ∙ drop-take timeout_length (n - timeout_length) s in
    ap₂ (λ (a : List ℕ) (b : List (List ℕ)). a ∷ b) (take-take timeout_length n s (omega arith)) (ap (cut k) d ∙ cut_front k (n - timeout_length) (drop timeout_length s) (omega arith))

module _ (s t : ChunksExact ℕ) (size : chunks_exact_size s ≡ timeout_length) where
  -- one turn takes the first of them, and the last one finds none
  pub slot_turn : (x : Bor (List ℕ)) → chunks_exact_steps s (Some x) t → (chunks_exact_size t ≡ timeout_length) × (slots_left s ≡ x.now ∷ slots_left t)
  unfolding cut
  slot_turn x (same, (e, l), u) =
      let long : length x.now ≡ timeout_length = l ∙ size in
      let k : length (chunks_exact_rest s) / timeout_length ≡ suc (length (chunks_exact_rest t) / timeout_length) = omega (arith, ap length e, length-append x.now (chunks_exact_rest t)) in
      (same ∙ size, rw (k, e, take_at x.now (chunks_exact_rest t) timeout_length long, drop_at x.now (chunks_exact_rest t) timeout_length long))

  pub slot_end : chunks_exact_steps s None t → slots_left s ≡ []
  unfolding cut
  slot_end (same, (h, e), u) = let k : length (chunks_exact_rest s) / timeout_length ≡ 0 = omega arith in rw k

-- every run of its calls gives what it has left, in order
none_left : (s t : ChunksExact ℕ) (x : Bor (List ℕ)) → chunks_exact_size s ≡ timeout_length → length (chunks_exact_rest s) / timeout_length ≡ 0 → chunks_exact_steps s (Some x) t → ⊥
none_left s t x size l (same, (e, long), u) = absurd (omega (arith, ap length e, length-append x.now (chunks_exact_rest t)))

some_left : (k : ℕ) (s t : ChunksExact ℕ) → chunks_exact_size s ≡ timeout_length → length (chunks_exact_rest s) / timeout_length ≡ suc k → chunks_exact_steps s None t → ⊥
some_left k s t size l (same, (h, e), u) = omega arith

-- an iterator that has so many timeouts left gives these, one by one
abbrev Gives : ℕ → ChunksExact ℕ → Type 0
Gives k s = AlwaysYields chunks_exact_steps (λ (x : Bor (List ℕ)). x.now) s (cut k (chunks_exact_rest s))

then_gives : (k : ℕ) (s t : ChunksExact ℕ) (x : Bor (List ℕ)) → chunks_exact_size s ≡ timeout_length → length (chunks_exact_rest s) / timeout_length ≡ suc k → chunks_exact_steps s (Some x) t
    → (chunks_exact_size t ≡ timeout_length → length (chunks_exact_rest t) / timeout_length ≡ k → Gives k t)
    → (x.now ≡ take timeout_length (chunks_exact_rest s)) × AlwaysYields chunks_exact_steps (λ (x : Bor (List ℕ)). x.now) t (cut k (drop timeout_length (chunks_exact_rest s)))
then_gives k s t x size l (same, (e, long), u) later =
    let d : drop timeout_length (chunks_exact_rest s) ≡ chunks_exact_rest t = rw e (drop_at x.now (chunks_exact_rest t) timeout_length (long ∙ size)) in
    let h : length (chunks_exact_rest t) / timeout_length ≡ k = omega (arith, ap length e, length-append x.now (chunks_exact_rest t)) in
    (rw e (sym (take_at x.now (chunks_exact_rest t) timeout_length (long ∙ size))), rw d (later (same ∙ size) h))

gives_cut : (k : ℕ) (s : ChunksExact ℕ) → chunks_exact_size s ≡ timeout_length → length (chunks_exact_rest s) / timeout_length ≡ k → Gives k s
unfolding cut
gives_cut zero s size l = λ x t h. none_left s t x size l h
gives_cut (suc k) s size l = (λ t h. some_left k s t size l h, λ x t h. then_gives k s t x size l h (λ m. gives_cut k t m))

pub slots_yield : (s : ChunksExact ℕ) → chunks_exact_size s ≡ timeout_length → AlwaysYields chunks_exact_steps (λ (x : Bor (List ℕ)). x.now) s (slots_left s)
slots_yield s size = gives_cut (length (chunks_exact_rest s) / timeout_length) s size refl

-- Byte lists compared a word at a time: a word is any number of bytes, read as one number. Assumes nothing.
use mathlib.Core.Path.{◌≡◌, refl, sym, ap, ap₂, ◌∙◌}
use mathlib.Core.Logic.{⊎_elim}
use mathlib.Core.Bool.{Bool, true, false, ◌&&◌}
use mathlib.Core.List.{List, [], ◌∷◌, ◌++◌}
use Prim.Native.Nat.{ℕ, suc, ◌+◌, ◌*◌, ◌≤◌, ◌<◌}
use native.Mathlib.Nat.{le_of_eq}
use native.Mathlib.Omega.{arith}
use borrow.Author.Tests.{lt-ltb, le-ltb, eq-eqb}
use lib.ListN.{length, take, drop, drop_of_length-le, take-append-drop}
use lib.Seq.{drop-drop}
use Rattle.codec.specs.Bytes.{IsBytes, part, le_nat, le_bytes, be_from, be_nat}
use Rattle.codec.specs.Names.{same_bytes, less_bytes}
use Rattle.codec.proofs.Laws.{length-part}
use Rattle.codec.proofs.Le.{bytes_part, le_bytes-le_nat}
use Rattle.codec.proofs.Order.{ne_same, less_asym, which}

-- ---- words of one length stand in the order of their numbers
be_from_lt : (m n : ℕ) (s t : List ℕ) → length s ≡ length t → IsBytes s → m < n → be_from m s < be_from n t
unfolding be_from
be_from_lt m n [] [] l b h = h
be_from_lt m n [] (y ∷ t) l b h = absurd (omega arith)
be_from_lt m n (x ∷ s) [] l b h = absurd (omega arith)
be_from_lt m n (x ∷ s) (y ∷ t) l b h = be_from_lt (256 * m + x) (256 * n + y) s t (omega arith) (λ i. b (suc i)) (omega (arith, b 0))

be_from_injective : (m : ℕ) (s t : List ℕ) → length s ≡ length t → IsBytes s → IsBytes t → be_from m s ≡ be_from m t → s ≡ t
unfolding be_from
be_from_injective m [] [] l bs bt e = refl
be_from_injective m [] (y ∷ t) l bs bt e = absurd (omega arith)
be_from_injective m (x ∷ s) [] l bs bt e = absurd (omega arith)
be_from_injective m (x ∷ s) (y ∷ t) l bs bt e =
    ⊎_elim (λ h. absurd (omega (arith, be_from_lt (256 * m + x) (256 * m + y) s t (omega arith) (λ i. bs (suc i)) (omega arith))))
    (λ o. ⊎_elim
    (λ h. ap₂ (λ (z : ℕ) (u : List ℕ). z ∷ u) h
    (be_from_injective (256 * m + x) s t (omega arith) (λ i. bs (suc i)) (λ i. bt (suc i)) (e ∙ ap (λ (z : ℕ). be_from (256 * m + z) t) (sym h))))
    (λ h. absurd (omega (arith, be_from_lt (256 * m + y) (256 * m + x) t s (omega arith) (λ i. bt (suc i)) (omega arith)))) o)
    (which x y)

-- whatever stands behind the words
be_from_less : (m : ℕ) (s t a b : List ℕ) → length s ≡ length t → IsBytes t → be_from m s < be_from m t → less_bytes (s ++ a) (t ++ b) ≡ true
unfolding be_from less_bytes
be_from_less m [] [] a b l bt h = absurd (omega arith)
be_from_less m [] (y ∷ t) a b l bt h = absurd (omega arith)
be_from_less m (x ∷ s) [] a b l bt h = absurd (omega arith)
be_from_less m (x ∷ s) (y ∷ t) a b l bt h =
    ⊎_elim (λ o. rw (lt-ltb x y o))
    (λ o. ⊎_elim
    (λ e. let g : be_from (256 * m + y) s < be_from (256 * m + y) t = rw e at h in
    let k : length s ≡ length t = omega arith in
    rw (eq-eqb x y e, le-ltb x y (le_of_eq (sym e)), be_from_less (256 * m + y) s t a b k (λ i. bt (suc i)) g))
    (λ g. absurd (omega (arith, be_from_lt (256 * m + y) (256 * m + x) t s (omega arith) (λ i. bt (suc i)) (omega arith)))) o)
    (which x y)

-- ---- words are the same if their numbers are, in either order of the bytes
pub be_injective : (s t : List ℕ) → length s ≡ length t → IsBytes s → IsBytes t → be_nat s ≡ be_nat t → s ≡ t
be_injective s t = be_from_injective 0 s t

pub le_injective : (s t : List ℕ) → length s ≡ length t → IsBytes s → IsBytes t → le_nat s ≡ le_nat t → s ≡ t
le_injective s t l bs bt e = sym (le_bytes-le_nat s bs) ∙ ap₂ le_bytes l e ∙ le_bytes-le_nat t bt

-- ---- what stands from place i on is a word and what stands behind it
split : (s : List ℕ) (i k : ℕ) → drop i s ≡ part s i k ++ drop (i + k) s
unfolding part
split s i k = sym (take-append-drop k (drop i s)) ∙ ap (λ (l : List ℕ). take k (drop i s) ++ l) (drop-drop k i s)

same_after : (s a b : List ℕ) → same_bytes (s ++ a) (s ++ b) ≡ same_bytes a b
unfolding same_bytes
same_after [] a b = refl
same_after (x ∷ s) a b = rw (eq-eqb x x refl, same_after s a b)

less_after : (s a b : List ℕ) → less_bytes (s ++ a) (s ++ b) ≡ less_bytes a b
unfolding less_bytes
less_after [] a b = refl
less_after (x ∷ s) a b = rw (eq-eqb x x refl, le-ltb x x (le_of_eq refl), less_after s a b)

-- ---- one turn of a loop that compares the words at i, by what it finds
module _ (a b : List ℕ) (i k : ℕ) where
  same_word : part a i k ≡ part b i k → same_bytes (drop i a) (drop i b) ≡ same_bytes (drop (i + k) a) (drop (i + k) b)
  same_word e = ap₂ same_bytes (split a i k ∙ ap (λ (w : List ℕ). w ++ drop (i + k) a) e) (split b i k) ∙ same_after (part b i k) (drop (i + k) a) (drop (i + k) b)

  other_word : (part a i k ≡ part b i k → ⊥) → same_bytes (drop i a) (drop i b) ≡ false
  unfolding part
  other_word h = ne_same _ _ (λ e. h (ap (take k) e))

  -- r is what was found so far, q what is found with this word
  module _ (r q : Bool) where
    pub turn_same : part a i k ≡ part b i k → q ≡ r → (r && same_bytes (drop i a) (drop i b)) ≡ (q && same_bytes (drop (i + k) a) (drop (i + k) b))
    turn_same h e = ap₂ ◌&&◌ (sym e) (same_word h)

    pub turn_other : (part a i k ≡ part b i k → ⊥) → q ≡ false → (r && same_bytes (drop i a) (drop i b)) ≡ (q && same_bytes (drop (i + k) a) (drop (i + k) b))
    turn_other h e = ap (λ (t : Bool). r && t) (other_word h) ∙ and_false r ∙ ap (λ (t : Bool). t && same_bytes (drop (i + k) a) (drop (i + k) b)) (sym e)
      where
        and_false : (t : Bool) → (t && false) ≡ false
        and_false true = refl
        and_false false = refl

  module _ (ha : i + k ≤ length a) (hb : i + k ≤ length b) (ba : IsBytes a) (bb : IsBytes b) where
    long : length (part a i k) ≡ length (part b i k)
    long = length-part a i k ha ∙ sym (length-part b i k hb)

    pub part_be : be_nat (part a i k) ≡ be_nat (part b i k) → part a i k ≡ part b i k
    part_be = be_injective (part a i k) (part b i k) long (bytes_part a i k ba) (bytes_part b i k bb)

    pub part_le : le_nat (part a i k) ≡ le_nat (part b i k) → part a i k ≡ part b i k
    part_le = le_injective (part a i k) (part b i k) long (bytes_part a i k ba) (bytes_part b i k bb)

    pub turn_less : be_nat (part a i k) < be_nat (part b i k) → less_bytes (drop i a) (drop i b) ≡ true
    turn_less h = ap₂ less_bytes (split a i k) (split b i k) ∙ be_from_less 0 (part a i k) (part b i k) (drop (i + k) a) (drop (i + k) b) long (bytes_part b i k bb) h

    pub turn_level : be_nat (part a i k) ≡ be_nat (part b i k) → less_bytes (drop i a) (drop i b) ≡ less_bytes (drop (i + k) a) (drop (i + k) b)
    turn_level h = ap₂ less_bytes (split a i k ∙ ap (λ (w : List ℕ). w ++ drop (i + k) a) (part_be h)) (split b i k) ∙ less_after (part b i k) (drop (i + k) a) (drop (i + k) b)

pub turn_more : (a b : List ℕ) (i k : ℕ) → i + k ≤ length a → i + k ≤ length b → IsBytes a → IsBytes b → be_nat (part b i k) < be_nat (part a i k) → less_bytes (drop i a) (drop i b) ≡ false
turn_more a b i k ha hb ba bb h = less_asym (drop i b) (drop i a) (turn_less b a i k hb ha bb ba h)

same_end : (a b : List ℕ) (i : ℕ) → length a ≤ i → length b ≤ i → same_bytes (drop i a) (drop i b) ≡ true
unfolding same_bytes
same_end a b i ha hb = rw (drop_of_length-le a, drop_of_length-le b)

-- the end of a loop that looked for a difference
pub turns_end : (a b : List ℕ) (i : ℕ) (r : Bool) → length a ≤ i → length b ≤ i → (r && same_bytes (drop i a) (drop i b)) ≡ r
turns_end a b i true ha hb = same_end a b i ha hb
turns_end a b i false ha hb = refl

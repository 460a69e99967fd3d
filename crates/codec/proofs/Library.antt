-- What the library says of bytes, in this crate's words. Assumes nothing.
use borrow.Rule.Slice.PartMut.{put_mid}
use Rattle.std.proofs.Common.{append-nil, ◌≡◌, ℕ, zero, suc, ◌+◌, ◌*◌, ◌-◌, ◌/◌, ◌%◌, ◌^◌, ◌≤◌, ◌<◌, ◌&&◌, List, [], ◌∷◌, ◌++◌, Ordering, append_assoc, arith, drop, drop-drop, get_or, length, nat_eq, refl, replicate, set, slice_index, sym, take, w16, w32, w64, ap, ◌∙◌}
use Rattle.std.proofs.lemmas.Bool.Decides.{nat_tests}
use Rattle.std.proofs.lemmas.Cmp.{same_from_slice_cmp}
use Rattle.std.proofs.lemmas.List.{drop-set-lt, length-append, length-replicate, length-set, take-append-drop, take_all, take-replicate, drop-replicate}
use Rattle.std.proofs.Math.Nat.{add-mul, add-sub_cancel_left, add-zero, div-div-eq-div-mul, div-one, mul_assoc, pow-suc, sub_self}
use Rattle.std.proofs.Math.Seq.{take-suc-set}
use Rattle.std.specs.Cmp.Lexicographic.{pointwise, slice_cmp}
use Rattle.std.specs.Int.{bytes_low_first, byte_at, byte_worth, sum_through, from_le_bytes, from_be_bytes, to_le_bytes}
use Rattle.std.specs.Ordering.{nat_cmp, is_lt}
use Rattle.codec.proofs.Laws.{part_lent}
use Rattle.codec.specs.Bytes.{patch, le_nat, be_from, be_nat, le_bytes}
use Rattle.codec.specs.Names.{same_bytes, less_bytes}

-- ---- a part written over, `mem[at..at + n]`
joined : (s : List ℕ) (at : ℕ) (v : List ℕ) → at + length v ≤ length s → take at s ++ (v ++ drop (at + length v) s) ≡ patch s at v
unfolding patch
joined s at [] h = rw add-zero (take-append-drop at s)
joined s at (x ∷ v) h =
    let e = joined (set s at x) (suc at) v (simp length-set (omega arith)) in
    let f : at + suc (length v) ≡ suc at + length v = omega arith in
    let below : at < length s = omega arith in
    let past : at < suc at + length v = omega arith in
    rw f (rw (take-suc-set s at x, append_assoc, drop-set-lt (suc at + length v) s at x) at e)

pub written : (s : List ℕ) (at n : ℕ) (v : List ℕ) → at + n ≤ length s → length v ≡ n → put_mid at (at + n - at) s v ≡ patch s at v
written s at n v h e = rw (add-sub_cancel_left, drop-drop, sym e) (joined s at v (omega arith))

-- ---- names
pub pointwise_same : (a b : List ℕ) → pointwise nat_eq a b ≡ same_bytes a b
unfolding same_bytes
pointwise_same [] [] = refl
pointwise_same [] (y ∷ b) = refl
pointwise_same (x ∷ a) [] = refl
pointwise_same (x ∷ a) (y ∷ b) = ap (λ t. nat_eq x y && t) (pointwise_same a b)

pub cmp_less : (a b : List ℕ) (o : Ordering) → o ≡ slice_cmp nat_cmp a b → is_lt o ≡ less_bytes a b
unfolding less_bytes
cmp_less = same_from_slice_cmp nat_cmp is_lt less_bytes refl (λ _ _. refl) (λ _ _. refl) (λ x y xs ys o h. grind (arith, nat_tests))

-- ---- numbers
worth : (i b : ℕ) → byte_worth i b ≡ b * 256 ^ i
worth zero b = omega arith
worth (suc i) b = refl

le_nat_more : (k : ℕ) (s : List ℕ) → le_nat (take (suc k) s) ≡ le_nat (take k s) + get_or s k 0 * 256 ^ k
unfolding le_nat
le_nat_more zero [] = refl
le_nat_more (suc k) [] = omega arith
le_nat_more zero (x ∷ s) = omega arith
le_nat_more (suc k) (x ∷ s) = rw (pow-suc, le_nat_more k s, ← (mul_assoc (get_or s k 0) (256 ^ k) 256)) (omega arith)

le_nat_first : (k : ℕ) (s : List ℕ) → sum_through (λ i. byte_worth i (slice_index s i)) k ≡ le_nat (take (suc k) s)
unfolding le_nat
le_nat_first zero s = omega (arith, le_nat_more 0 s)
le_nat_first (suc k) s = ap (λ m. m + get_or s (suc k) 0 * 256 ^ suc k) (le_nat_first k s) ∙ sym (le_nat_more (suc k) s)

-- n + 1 bytes, the lowest first
pub from_le : (n : ℕ) (s : List ℕ) → length s ≡ suc n → sum_through (λ i. byte_worth i (slice_index s i)) n ≡ le_nat s
from_le n s h = le_nat_first n s ∙ ap le_nat (take_all (suc n) s (omega arith))

be_from_more : (k m : ℕ) (s : List ℕ) → k < length s → be_from m (take (suc k) s) ≡ 256 * be_from m (take k s) + get_or s k 0
unfolding be_from
be_from_more k m [] h = absurd (omega arith)
be_from_more zero m (x ∷ s) h = refl
be_from_more (suc k) m (x ∷ s) h = be_from_more k (256 * m + x) s (omega arith)

raised : (b g p : ℕ) → b * (p * 256) + g * p ≡ (256 * b + g) * p
raised b g p = rw (add-mul, mul_assoc 256 b p, ← (mul_assoc b p 256)) (omega arith)

be_nat_first : (n k : ℕ) (s : List ℕ) → k ≤ n → k < length s → sum_through (λ i. byte_worth (n - i) (slice_index s i)) k ≡ be_nat (take (suc k) s) * 256 ^ (n - k)
unfolding be_from
be_nat_first n zero s h l =
    let e : get_or s 0 0 ≡ be_nat (take 1 s) = omega (arith, be_from_more 0 0 s l) in
    worth (n - 0) (get_or s 0 0) ∙ ap (λ m. m * 256 ^ (n - 0)) e
be_nat_first n (suc k) s h l =
    let f : n - k ≡ suc (n - suc k) = omega arith in
    rw (be_nat_first n k s (omega arith) (omega arith), worth (n - suc k) (get_or s (suc k) 0), be_from_more (suc k) 0 s l, f, pow-suc) (raised _ _ _)

-- n + 1 bytes, the highest first
pub from_be : (n : ℕ) (s : List ℕ) → length s ≡ suc n → sum_through (λ i. byte_worth (n - i) (slice_index s i)) n ≡ be_nat s
from_be n s h =
    let all : length s ≤ suc n = omega arith in
    be_nat_first n n s (omega arith) (omega arith) ∙ rw (sub_self, take_all (suc n) s) (omega arith)

-- zeros above change no number
pub le_nat_zeros : (s : List ℕ) (k : ℕ) → le_nat (s ++ replicate k 0) ≡ le_nat s
unfolding le_nat
le_nat_zeros [] zero = refl
le_nat_zeros [] (suc k) = omega (arith, le_nat_zeros [] k)
le_nat_zeros (x ∷ s) k = ap (λ m. x + 256 * m) (le_nat_zeros s k)

pub be_nat_zeros : (k : ℕ) (s : List ℕ) → be_nat (replicate k 0 ++ s) ≡ be_nat s
unfolding be_from
be_nat_zeros zero s = refl
be_nat_zeros (suc k) s = be_nat_zeros k s

-- up to 8 bytes, read through an array of 8 zeros: v is what stands in it, at its front and at its end
pub le_short : (s v : List ℕ) → v ≡ s → length s ≤ 8 → from_le_bytes w64 (v ++ drop (length s) (replicate 8 0)) ≡ le_nat s
le_short s v e h =
    let l : length (s ++ drop (length s) (replicate 8 0)) ≡ 8 = simp (length-append, drop-replicate, length-replicate) (omega arith) in
    rw e (from_le 7 _ l ∙ rw drop-replicate (le_nat_zeros s (8 - length s)))

behind_zeros : (n : ℕ) (s : List ℕ) → length s ≤ n → put_mid (n - length s) (n - (n - length s)) (replicate n 0) s ≡ replicate (n - length s) 0 ++ s
behind_zeros n s h =
    let below : n - length s ≤ n = omega arith in
    let none : n - (n - length s) - (n - (n - length s)) ≡ 0 = omega arith in
    rw (take-replicate {X = ℕ}, drop-replicate {X = ℕ}, drop-replicate {X = ℕ}, none, append-nil)

pub be_short : (s v : List ℕ) → v ≡ s → length s ≤ 8 → from_be_bytes w64 (put_mid (8 - length s) (8 - (8 - length s)) (replicate 8 0) v) ≡ be_nat s
be_short s v e h =
    let l : length (replicate (8 - length s) 0 ++ s) ≡ 8 = simp (length-append, length-replicate) (omega arith) in
    rw e (ap (from_be_bytes w64) (behind_zeros 8 s h) ∙ from_be 7 _ l ∙ be_nat_zeros (8 - length s) s)

-- the bytes of a number
place : (i n : ℕ) → byte_at i n ≡ n / 256 ^ i % 256
place zero n = omega arith
place (suc i) n = refl

to_le_from : (i k n : ℕ) → bytes_low_first i k n ≡ le_bytes k (n / 256 ^ i)
unfolding le_bytes
to_le_from i zero n = refl
to_le_from i (suc k) n = rw (place i n, to_le_from (suc i) k n, pow-suc, div-div-eq-div-mul)

pub to_le : (k n : ℕ) → bytes_low_first 0 k n ≡ le_bytes k n
to_le k n = to_le_from 0 k n ∙ ap (le_bytes k) (div-one n)

-- at the library's widths
pub le_nat_2 : (s : List ℕ) → length s ≡ 2 → le_nat s ≡ from_le_bytes w16 s
le_nat_2 s h = sym (from_le 1 s h)

pub le_nat_4 : (s : List ℕ) → length s ≡ 4 → le_nat s ≡ from_le_bytes w32 s
le_nat_4 s h = sym (from_le 3 s h)

pub le_nat_8 : (s : List ℕ) → length s ≡ 8 → le_nat s ≡ from_le_bytes w64 s
le_nat_8 s h = sym (from_le 7 s h)

pub le_bytes_2 : (n : ℕ) → le_bytes 2 n ≡ to_le_bytes w16 n
le_bytes_2 n = sym (to_le 2 n)

pub le_bytes_4 : (n : ℕ) → le_bytes 4 n ≡ to_le_bytes w32 n
le_bytes_4 n = sym (to_le 4 n)

pub le_bytes_8 : (n : ℕ) → le_bytes 8 n ≡ to_le_bytes w64 n
le_bytes_8 n = sym (to_le 8 n)

-- what a number's reading and writing stand on
pub ruleset numbers = (part_lent, le_short, be_short, le_nat_2, le_nat_4, le_nat_8, le_bytes_2, le_bytes_4, le_bytes_8)

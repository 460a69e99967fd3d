-- The laws of `part` and `patch`, for any width. Assumes nothing.
use mathlib.Core.Path.{◌≡◌, refl, sym, ap, ◌∙◌}
use mathlib.Core.List.{List, [], ◌∷◌, ◌++◌}
use Prim.Native.Nat.{ℕ, zero, suc, ◌+◌, ◌-◌, ◌≤◌, ◌<◌}
use native.Mathlib.Numerals.{add-one}
use native.Mathlib.Nat.{add-zero, add-suc, add-sub_cancel_left, add-sub_of_le}
use native.Mathlib.Omega.{arith}
use lib.ListN.{length, take, drop, get_or, set, length-set, length-drop}
use lib.Seq.{drop-cons, get_or-set_same, get_or-set_other, drop-set-lt, drop-set-add, take-set-le, ext_get_or, get_or-drop, get_or-take, set_comm, set-set, set-get_or, length-take-le, take_all, drop-drop}
use mathlib.Core.Bool.{Bool, true, false, ◌||◌}
use mathlib.Core.Logic.{⊎_elim, ◌⊎◌, inl, inr}
use borrow.Author.Tests.{leb-true}
use lib.Dec.{leb}
use Rattle.codec.specs.Bytes.{part, patch}

pub patch_nil : (s : List ℕ) (at : ℕ) → patch s at [] ≡ s
unfolding patch
patch_nil s at = refl

pub patch_cons : (s : List ℕ) (at x : ℕ) (v : List ℕ) → patch s at (x ∷ v) ≡ patch (set s at x) (at + 1) v
unfolding patch
patch_cons s at x v = rw add-one

-- one turn of a loop that stores v from place at on
pub patch_turn : (s : List ℕ) (at i : ℕ) (v : List ℕ) → i < length v → patch (set s (at + i) (get_or v i 0)) (at + (i + 1)) (drop (i + 1) v) ≡ patch s (at + i) (drop i v)
unfolding patch
patch_turn s at i v h = rw (add-one, add-suc, drop-cons v i 0)

pub length-patch : (s : List ℕ) (at : ℕ) (v : List ℕ) → length (patch s at v) ≡ length s
unfolding patch
length-patch s at [] = refl
length-patch s at (x ∷ v) = length-patch (set s at x) (suc at) v ∙ length-set s at x

pub length-part : (s : List ℕ) (at n : ℕ) → at + n ≤ length s → length (part s at n) ≡ n
unfolding part
length-part s at n h = length-take-le n (drop at s) (simp length-drop (omega arith))

-- ---- an element after a patch: before it, behind it, in it
pub get_or_before : (s : List ℕ) (at : ℕ) (v : List ℕ) (k d : ℕ) → k < at → get_or (patch s at v) k d ≡ get_or s k d
unfolding patch
get_or_before s at [] k d h = refl
get_or_before s at (x ∷ v) k d h = get_or_before (set s at x) (suc at) v k d (omega arith) ∙ get_or-set_other s at k x d (omega arith)

pub get_or_behind : (s : List ℕ) (at : ℕ) (v : List ℕ) (k d : ℕ) → at + length v ≤ k → get_or (patch s at v) k d ≡ get_or s k d
unfolding patch
get_or_behind s at [] k d h = refl
get_or_behind s at (x ∷ v) k d h = get_or_behind (set s at x) (suc at) v k d (omega arith) ∙ get_or-set_other s at k x d (omega arith)

pub get_or_in : (s : List ℕ) (at : ℕ) (v : List ℕ) (k d : ℕ) → k < length v → at + length v ≤ length s → get_or (patch s at v) (at + k) d ≡ get_or v k d
unfolding patch
get_or_in s at [] k d h l = absurd (omega arith)
get_or_in s at (x ∷ v) zero d h l = ap (λ (j : ℕ). get_or (patch (set s at x) (suc at) v) j d) (add-zero at) ∙ get_or_before (set s at x) (suc at) v at d (omega arith) ∙ get_or-set_same s at x d (omega arith)
get_or_in s at (x ∷ v) (suc k) d h l =
    ap (λ (j : ℕ). get_or (patch (set s at x) (suc at) v) j d) (omega arith)
    ∙ get_or_in (set s at x) (suc at) v k d (omega arith) (simp length-set (omega arith))

pub get_or-part : (s : List ℕ) (at n k d : ℕ) → k < n → get_or (part s at n) k d ≡ get_or s (at + k) d
unfolding part
get_or-part s at n k d h = get_or-take n (drop at s) k d h ∙ get_or-drop at s k d

-- ---- a part after a patch: the same place, and places apart
pub part_same : (s : List ℕ) (at : ℕ) (v : List ℕ) (n : ℕ) → length v ≡ n → at + n ≤ length s → part (patch s at v) at n ≡ v
part_same s at v n e h =
    ext_get_or 0 (part (patch s at v) at n) v (length-part (patch s at v) at n (simp length-patch h) ∙ sym e)
    (λ k l. let b : k < n = omega (arith, length-part (patch s at v) at n (simp length-patch h)) in
    get_or-part (patch s at v) at n k 0 b ∙ get_or_in s at v k 0 (omega arith) (omega arith))

part-set_before : (s : List ℕ) (i x at n : ℕ) → at + n ≤ i → part (set s i x) at n ≡ part s at n
unfolding part
part-set_before s i x at n h =
    ap (λ (j : ℕ). take n (drop at (set s j x))) (sym (add-sub_of_le (let h2 : at ≤ i = omega arith in h2)))
    ∙ ap (λ (l : List ℕ). take n l) (drop-set-add at s (i - at) x)
    ∙ take-set-le n (drop at s) (i - at) x (omega arith)

part-set_behind : (s : List ℕ) (i x at n : ℕ) → i < at → part (set s i x) at n ≡ part s at n
unfolding part
part-set_behind s i x at n h = ap (λ (l : List ℕ). take n l) (drop-set-lt at s i x h)

pub part_before : (s : List ℕ) (b : ℕ) (v : List ℕ) (a n : ℕ) → a + n ≤ b → part (patch s b v) a n ≡ part s a n
unfolding patch
part_before s b [] a n h = refl
part_before s b (x ∷ v) a n h = part_before (set s b x) (suc b) v a n (omega arith) ∙ part-set_before s b x a n h

pub part_behind : (s : List ℕ) (b : ℕ) (v : List ℕ) (a n : ℕ) → b + length v ≤ a → part (patch s b v) a n ≡ part s a n
unfolding patch
part_behind s b [] a n h = refl
part_behind s b (x ∷ v) a n h = part_behind (set s b x) (suc b) v a n (omega arith) ∙ part-set_behind s b x a n (omega arith)

-- ---- two patches: at places apart they commute; at one place the later one stands
set-patch : (s : List ℕ) (i x b : ℕ) (w : List ℕ) → i < b → patch (set s i x) b w ≡ set (patch s b w) i x
unfolding patch
set-patch s i x b [] h = refl
set-patch s i x b (y ∷ w) h = ap (λ (l : List ℕ). patch l (suc b) w) (set_comm s i b x y (omega arith)) ∙ set-patch (set s b y) i x (suc b) w (omega arith)

pub patch_comm : (s : List ℕ) (a : ℕ) (v : List ℕ) (b : ℕ) (w : List ℕ) → a + length v ≤ b → patch (patch s a v) b w ≡ patch (patch s b w) a v
unfolding patch
patch_comm s a [] b w h = refl
patch_comm s a (x ∷ v) b w h = patch_comm (set s a x) (suc a) v b w (omega arith) ∙ ap (λ (l : List ℕ). patch l (suc a) v) (set-patch s a x b w (omega arith))

pub patch-patch : (s : List ℕ) (a : ℕ) (v w : List ℕ) → length v ≡ length w → patch (patch s a v) a w ≡ patch s a w
unfolding patch
patch-patch s a [] [] e = refl
patch-patch s a [] (y ∷ w) e = absurd (omega arith)
patch-patch s a (x ∷ v) [] e = absurd (omega arith)
patch-patch s a (x ∷ v) (y ∷ w) e =
    ap (λ (l : List ℕ). patch l (suc a) w) (sym (set-patch (set s a x) a y (suc a) v (omega arith)) ∙ ap (λ (l : List ℕ). patch l (suc a) v) (set-set s a x y))
    ∙ patch-patch (set s a y) (suc a) v w (omega arith)

-- writing back what is read changes nothing
pub patch-part : (s : List ℕ) (at n : ℕ) → at + n ≤ length s → patch s at (part s at n) ≡ s
unfolding patch part
patch-part s at zero h = refl
patch-part s at (suc n) h =
    ap (λ (l : List ℕ). patch s at (take (suc n) l)) (drop-cons s at 0 (omega arith))
    ∙ ap (λ (l : List ℕ). patch l (suc at) (take n (drop (suc at) s))) (set-get_or s at 0)
    ∙ patch-part s (suc at) n (omega arith)

-- a whole list replaced
pub patch_whole : (s v : List ℕ) → length v ≡ length s → patch s 0 v ≡ v
patch_whole s v e =
    ext_get_or 0 (patch s 0 v) v (length-patch s 0 v ∙ sym e)
    (λ k l. let b : k < length v = omega (arith, length-patch s 0 v) in
    ap (λ (j : ℕ). get_or (patch s 0 v) j 0) (omega arith) ∙ get_or_in s 0 v k 0 b (omega arith))

-- a part that is lent, `&s[at..at + n]`
pub part_lent : (s : List ℕ) (at n : ℕ) → take (at + n - at) (drop at s) ≡ part s at n
unfolding part
part_lent s at n = rw (add-sub_cancel_left at n)

-- a part of what is left behind a place
pub part-drop : (s : List ℕ) (a b n : ℕ) → part (drop a s) b n ≡ part s (a + b) n
unfolding part
part-drop s a b n = rw drop-drop

-- a part of a part
pub part-part : (s : List ℕ) (at n i k : ℕ) → at + n ≤ length s → i + k ≤ n → part (part s at n) i k ≡ part s (at + i) k
part-part s at n i k h l =
    let f : length (part (part s at n) i k) ≡ k = length-part (part s at n) i k (omega (arith, length-part s at n h)) in
    ext_get_or 0 (part (part s at n) i k) (part s (at + i) k) (f ∙ sym (length-part s (at + i) k (omega arith)))
    (λ j b. let g : j < k = omega arith in
    get_or-part (part s at n) i k j 0 g ∙ get_or-part s at n (i + j) 0 (omega arith) ∙ ap (λ (m : ℕ). get_or s m 0) (omega arith) ∙ sym (get_or-part s (at + i) k j 0 g))

-- the rest of a list, `&s[at..]`
pub part_rest : (s : List ℕ) (at : ℕ) → take (length s - at) (drop at s) ≡ drop at s
part_rest s at = take_all (length s - at) (drop at s) (simp length-drop (omega arith))

pub patch_append : (s : List ℕ) (at : ℕ) (v w : List ℕ) → patch s at (v ++ w) ≡ patch (patch s at v) (at + length v) w
unfolding patch
patch_append s at [] w = rw add-zero
patch_append s at (x ∷ v) w = patch_append (set s at x) (suc at) v w ∙ ap (λ (k : ℕ). patch (patch (set s at x) (suc at) v) k w) (omega_suc at (length v))
  where
    omega_suc : (a b : ℕ) → suc a + b ≡ a + suc b
    omega_suc a b = omega arith

-- ---- the laws with a side condition that computes at places that are written out, so that `simp` proves it by itself

abbrev pub apart : ℕ → ℕ → ℕ → ℕ → Bool
apart a m b n = leb (a + m) b || leb (b + n) a

apart_cases : (p q : Bool) → (p || q) ≡ true → (p ≡ true) ⊎ (q ≡ true)
apart_cases true q e = inl refl
apart_cases false q e = inr e

-- n bytes at a, after a patch elsewhere
pub part_apart : (s : List ℕ) (b : ℕ) (v : List ℕ) (a n : ℕ) → apart b (length v) a n ≡ true → part (patch s b v) a n ≡ part s a n
part_apart s b v a n e =
    ⊎_elim (λ p. part_behind s b v a n (leb-true (b + length v) a p)) (λ p. part_before s b v a n (leb-true (a + n) b p))
    (apart_cases (leb (b + length v) a) (leb (a + n) b) e)

pub part_here : (s : List ℕ) (at : ℕ) (v : List ℕ) (n : ℕ) → length v ≡ n → leb (at + n) (length s) ≡ true → part (patch s at v) at n ≡ v
part_here s at v n e h = part_same s at v n e (leb-true (at + n) (length s) h)

-- a part that is lent, `&s[a..e]`, of n bytes
pub part_span : (s : List ℕ) (a e n : ℕ) → e ≡ a + n → take (e - a) (drop a s) ≡ part s a n
part_span s a e n h = ap (λ (k : ℕ). take (k - a) (drop a s)) h ∙ part_lent s a n

-- a list of bytes stays one
pub bytes_patch : (s : List ℕ) (at : ℕ) (v : List ℕ) → ((i : ℕ) → get_or s i 0 < 256) → ((i : ℕ) → get_or v i 0 < 256) → (i : ℕ) → get_or (patch s at v) i 0 < 256
unfolding patch
bytes_patch s at [] hs hv i = hs i
bytes_patch s at (x ∷ v) hs hv i = bytes_patch (set s at x) (suc at) v (bytes_set s at x hs (hv 0)) (λ j. hv (suc j)) i
  where
    bytes_set : (l : List ℕ) (k y : ℕ) → ((j : ℕ) → get_or l j 0 < 256) → y < 256 → (j : ℕ) → get_or (set l k y) j 0 < 256
    bytes_set [] k y h b j = h j
    bytes_set (z ∷ l) zero y h b zero = b
    bytes_set (z ∷ l) zero y h b (suc j) = h (suc j)
    bytes_set (z ∷ l) (suc k) y h b zero = h zero
    bytes_set (z ∷ l) (suc k) y h b (suc j) = bytes_set l k y (λ i. h (suc i)) b j

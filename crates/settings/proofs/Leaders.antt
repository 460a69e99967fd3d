-- The laws of leader lists: one turn of the loop that looks for an entry from n on, what a list that opening takes has, and the list 0 to n - 1. Assumes nothing.
use mathlib.Core.Path.{◌≡◌, refl, ap, ◌∙◌}
use mathlib.Core.Bool.{Bool, true, false, ◌||◌, true≢false}
use mathlib.Core.List.{List, [], ◌∷◌}
use Prim.Native.Nat.{ℕ, zero, suc, ◌+◌, ◌≤◌, ◌<◌}
use native.Mathlib.Numerals.{add-one}
use native.Mathlib.Omega.{arith}
use borrow.Author.Tests.{le-leb, lt-leb, le-ltb, ne_eqb, leb-false, eqb-false, ltb-false}
use lib.Dec.{eqb, ltb, leb}
use lib.ListN.{length, take, drop, get_or, drop_of_length-le}
use lib.Seq.{drop-cons}
use Rattle.settings.specs.Quorum.{largest}
use Rattle.settings.specs.Opening.{most_leaders, has_from, bad_leaders, numbers_from, in_turn}

-- ---- a look at entry i
module _ (n : ℕ) (l : List ℕ) (i : ℕ) where
  pub from_on : i < length l → get_or l i 0 < n → has_from n (drop i l) ≡ has_from n (drop (i + 1) l)
  unfolding has_from
  from_on h e = rw (add-one, drop-cons l i 0, lt-leb _ _ e)

  pub from_here : i < length l → n ≤ get_or l i 0 → has_from n (drop i l) ≡ true
  unfolding has_from
  from_here h e = rw (drop-cons l i 0, le-leb _ _ e)

  pub from_end : length l ≤ i → has_from n (drop i l) ≡ false
  unfolding has_from
  from_end h = rw (drop_of_length-le l)

-- ---- by the lengths
module _ (n : ℕ) (l : List ℕ) where
  pub sized_bad : (length l ≡ 0 → ⊥) → length l ≤ most_leaders → bad_leaders n l ≡ has_from n l
  unfolding bad_leaders
  sized_bad d h = rw (ne_eqb _ _ d, le-ltb _ _ h) (or_false (has_from n l))
    where
      or_false : (a : Bool) → (a || false) ≡ a
      or_false true = refl
      or_false false = refl

-- ---- a list that opening takes
pub record Good (n : ℕ) (l : List ℕ) : Type 0 where
  pub some : 0 < length l
  pub most : length l ≤ most_leaders
  pub below : (i : ℕ) → 0 < n → get_or l i 0 < n

all_below : (n : ℕ) (l : List ℕ) → has_from n l ≡ false → (i : ℕ) → 0 < n → get_or l i 0 < n
unfolding has_from
all_below n [] e i p = p
all_below n (x ∷ l) e i p = first (leb n x) refl e (λ f j. all_below n l f j p) i
  where
    first : (t : Bool) → leb n x ≡ t → (t || has_from n l) ≡ false → (has_from n l ≡ false → (j : ℕ) → get_or l j 0 < n) → (i : ℕ) → get_or (x ∷ l) i 0 < n
    first true a f more i = absurd (true≢false f)
    first false a f more zero = leb-false _ _ a
    first false a f more (suc i) = more f i

pub good_leaders : (n : ℕ) (l : List ℕ) → bad_leaders n l ≡ false → Good n l
unfolding bad_leaders
good_leaders n l e = go (has_from n l) refl (eqb (length l) 0) refl (ltb most_leaders (length l)) refl e
  where
    go : (a : Bool) → has_from n l ≡ a → (b : Bool) → eqb (length l) 0 ≡ b → (c : Bool) → ltb most_leaders (length l) ≡ c → (a || (b || c)) ≡ false → Good n l
    go true p b q c r f = absurd (true≢false f)
    go false p true q c r f = absurd (true≢false f)
    go false p false q true r f = absurd (true≢false f)
    go false p false q false r f = let d = eqb-false (length l) 0 q in record { some = omega (arith, d); most = ltb-false _ _ r; below = all_below n l p }

-- ---- the list 0 to n - 1
pub length_numbers : (i k : ℕ) → length (numbers_from i k) ≡ k
unfolding numbers_from
length_numbers i zero = refl
length_numbers i (suc k) = ap suc (length_numbers (suc i) k)

pub get_numbers : (i k j : ℕ) → j < k → get_or (numbers_from i k) j 0 ≡ i + j
unfolding numbers_from
get_numbers i zero j h = absurd (omega arith)
get_numbers i (suc k) zero h = omega arith
get_numbers i (suc k) (suc j) h = let e = get_numbers (suc i) k j (omega arith) in e ∙ omega arith

pub first_numbers : (i n k : ℕ) → n ≤ k → take n (numbers_from i k) ≡ numbers_from i n
unfolding numbers_from
first_numbers i zero k h = refl
first_numbers i (suc n) zero h = absurd (omega arith)
first_numbers i (suc n) (suc k) h = ap (λ (l : List ℕ). i ∷ l) (first_numbers (suc i) n k (omega arith))

numbers_below : (n i k : ℕ) → i + k ≤ n → has_from n (numbers_from i k) ≡ false
unfolding numbers_from has_from
numbers_below n i zero h = refl
numbers_below n i (suc k) h = let less : i < n = omega arith in rw (lt-leb _ _ less) (numbers_below n (suc i) k (omega arith))

-- opening takes it, in every cluster
pub in_turn_good : (n : ℕ) → 0 < n → n ≤ largest → bad_leaders n (in_turn n) ≡ false
in_turn_good n p h =
    let l = length_numbers 0 n in
    sized_bad n (in_turn n) (λ e. omega (arith, l, e)) (omega (arith, l)) ∙ numbers_below n 0 n (omega arith)

-- How many numbers below n pass a test; the bits of a set of replicas, and their count. Assumes nothing.
use mathlib.Core.Path.{◌≡◌, refl, sym, ap, ap₂, ◌∙◌}
use mathlib.Core.Bool.{Bool, true, false, cond, true≢false}
use Prim.Native.Nat.{ℕ, zero, suc, ◌+◌, ◌-◌, ◌/◌, ◌%◌, ◌^◌, ◌≤◌, ◌<◌}
use native.Mathlib.Nat.{add-zero, add-suc, lt_of_lt_of_le, mod-lt, div-eq_of_lt}
use native.Mathlib.Numerals.{add-one}
use native.Mathlib.Omega.{arith}
use borrow.Author.Tests.{eqb-true, eqb-false}
use lib.Count.{ones_in}
use lib.Dec.{eqb}
use lib.Pow.{pow_pos, pow_mono, field, mod-mod-pow}
use Rattle.certificate.specs.Good.{signer_count}
use Rattle.certificate.specs.Safe.{signs}
use Rattle.certificate.proofs.Signers.{signs_suc}

-- ---- how many numbers below n pass a test
unfoldable pub counted : (ℕ → Bool) → ℕ → ℕ
counted t zero = 0
counted t (suc n) = cond (t n) (suc (counted t n)) (counted t n)

pub counted_same : (t u : ℕ → Bool) (n : ℕ) → ((i : ℕ) → i < n → t i ≡ u i) → counted t n ≡ counted u n
unfolding counted
counted_same t u zero h = refl
counted_same t u (suc n) h = rw (h n (omega arith), counted_same t u n (λ i l. h i (omega arith)))

-- numbers from n on that do not pass are not counted
pub counted_above : (t : ℕ → Bool) (n d : ℕ) → ((i : ℕ) → n ≤ i → t i ≡ false) → counted t (n + d) ≡ counted t n
unfolding counted
counted_above t n zero h = rw add-zero
counted_above t n (suc d) h = rw (add-suc, h (n + d) (omega arith), counted_above t n d h)

-- a test that lets more through counts no less
pub counted_le : (t u : ℕ → Bool) (n : ℕ) → ((i : ℕ) → i < n → t i ≡ true → u i ≡ true) → counted t n ≤ counted u n
unfolding counted
counted_le t u zero h = omega arith
counted_le t u (suc n) h = go (t n) refl (u n) refl (counted_le t u n (λ i l. h i (omega arith)))
  where
    go : (p : Bool) → t n ≡ p → (q : Bool) → u n ≡ q → counted t n ≤ counted u n → cond p (suc (counted t n)) (counted t n) ≤ cond q (suc (counted u n)) (counted u n)
    go true e true f g = omega arith
    go true e false f g = absurd (true≢false (sym (h n (omega arith) e) ∙ f))
    go false e true f g = omega arith
    go false e false f g = g

-- no more pass than there are
pub counted_most : (t : ℕ → Bool) (n : ℕ) → counted t n ≤ n
unfolding counted
counted_most t zero = omega arith
counted_most t (suc n) = go (t n) (counted_most t n)
  where
    go : (b : Bool) → counted t n ≤ n → cond b (suc (counted t n)) (counted t n) ≤ suc n
    go true h = omega (arith, h)
    go false h = omega (arith, h)

-- one number more passes
pub counted_one : (t u : ℕ → Bool) (i n : ℕ) → i < n → t i ≡ false → u i ≡ true → ((j : ℕ) → j < n → (j ≡ i → ⊥) → u j ≡ t j) → counted u n ≡ suc (counted t n)
unfolding counted
counted_one t u i zero l e f h = absurd (omega arith)
counted_one t u i (suc n) l e f h = go (eqb i n) refl (λ d. counted_one t u i n (omega arith) e f (λ j b. h j (omega arith)))
  where
    top : i ≡ n → counted u n ≡ counted t n
    top d = counted_same u t n (λ j b. h j (omega arith) (omega arith))

    past : (p : Bool) → counted u n ≡ suc (counted t n) → cond p (suc (counted u n)) (counted u n) ≡ suc (cond p (suc (counted t n)) (counted t n))
    past true g = ap suc g
    past false g = g

    go : (p : Bool) → eqb i n ≡ p → ((i ≡ n → ⊥) → counted u n ≡ suc (counted t n)) → cond (u n) (suc (counted u n)) (counted u n) ≡ suc (cond (t n) (suc (counted t n)) (counted t n))
    go true p rest = let d = eqb-true i n p in rw (ap u (sym d) ∙ f, ap t (sym d) ∙ e, top d)
    go false p rest = let d = eqb-false i n p in rw (h n (omega arith) (λ x. d (sym x))) (past (t n) (rest d))

-- the first number taken apart from the others
counted_first : (t : ℕ → Bool) (n : ℕ) → counted t (suc n) ≡ cond (t 0) 1 0 + counted (λ i. t (suc i)) n
unfolding counted
counted_first t zero = rw add-zero
counted_first t (suc n) = go (t (suc n)) (counted_first t n)
  where
    go : (p : Bool) → cond (t n) (suc (counted t n)) (counted t n) ≡ cond (t 0) 1 0 + counted (λ i. t (suc i)) n
        → cond p (suc (cond (t n) (suc (counted t n)) (counted t n))) (cond (t n) (suc (counted t n)) (counted t n))
        ≡ cond (t 0) 1 0 + cond p (suc (counted (λ i. t (suc i)) n)) (counted (λ i. t (suc i)) n)
    go true g = rw (g, add-suc)
    go false g = g

-- ---- a bit
signs_first : (g : ℕ) → signs g 0 ≡ eqb (g % 2) 1
unfolding signs
signs_first g = let e : g / 1 ≡ g = omega arith in rw e

-- a set of n bits has no replica from n on
pub signs_above : (g n i : ℕ) → g < 2 ^ n → n ≤ i → signs g i ≡ false
unfolding signs
signs_above g n i h l = rw (div-eq_of_lt (lt_of_lt_of_le h (pow_mono l)))

pub signs_none : (i : ℕ) → signs 0 i ≡ false
signs_none i = signs_above 0 0 i (omega arith) (omega arith)

-- cut to n bits
pub signs_low : (g n i : ℕ) → i < n → signs (g % 2 ^ n) i ≡ signs g i
unfolding signs
signs_low g n i l =
    let e : n ≡ suc (n - suc i) + i = omega arith in
    ap (λ (k : ℕ). eqb (g % 2 ^ k / 2 ^ i % 2) 1) e
    ∙ ap (λ (x : ℕ). eqb (x % 2) 1) (field g (suc (n - suc i)) i ∙ ap (λ (k : ℕ). g / 2 ^ i % 2 ^ k) (sym (add-one (n - suc i))))
    ∙ ap (λ (x : ℕ). eqb x 1) (mod-mod-pow (g / 2 ^ i) (n - suc i) 1)

-- ---- how many replicas are in a set
ones_counted : (k g : ℕ) → ones_in k g ≡ counted (signs g) k
unfolding ones_in counted
ones_counted zero g = refl
ones_counted (suc k) g =
    ap₂ (λ (x y : ℕ). x + y) (lowest (eqb (g % 2) 1) refl) (ones_counted k (g / 2) ∙ counted_same (signs (g / 2)) (λ j. signs g (suc j)) k (λ j l. sym (signs_suc g j)))
    ∙ sym (counted_first (signs g) k)
  where
    lowest : (p : Bool) → eqb (g % 2) 1 ≡ p → g % 2 ≡ cond (signs g 0) 1 0
    lowest true e = rw (signs_first g, e) (eqb-true (g % 2) 1 e)
    lowest false e = let o = eqb-false (g % 2) 1 e in rw (signs_first g, e) (omega arith)

pub count_signs : (g : ℕ) → signer_count g ≡ counted (signs g) 64
unfolding signer_count
count_signs g = ones_counted 64 g

-- a set that has a replica below n exactly where a test passes, and none from n on
pub count_set : (g : ℕ) (t : ℕ → Bool) (n : ℕ) → n ≤ 64 → g < 2 ^ n → ((i : ℕ) → i < n → signs g i ≡ t i) → signer_count g ≡ counted t n
count_set g t n l h e =
    let d : 64 ≡ n + (64 - n) = omega arith in
    count_signs g ∙ ap (counted (signs g)) d ∙ counted_above (signs g) n (64 - n) (λ i. signs_above g n i h) ∙ counted_same (signs g) t n e

pub count_low : (g n : ℕ) → n ≤ 64 → signer_count (g % 2 ^ n) ≡ counted (signs g) n
count_low g n l = count_set (g % 2 ^ n) (signs g) n l (mod-lt g (pow_pos n)) (signs_low g n)

-- The laws of counting, and that two sets share what they have beyond n. Assumes nothing.
use mathlib.Core.Bool.{Bool, true, false, ◌&&◌, ◌||◌}
use mathlib.Core.Logic.{◌⊎◌, inl, inr, ⊎_elim}
use mathlib.Core.List.{List, [], ◌∷◌}
use mathlib.Core.Path.{◌≡◌, refl, sym, subst, ◌∙◌}
use Prim.Native.Nat.{ℕ, zero, suc, ◌+◌, ◌≤◌, ◌<◌, zero-le, suc-le-suc}
use native.Mathlib.Omega.{arith}
use native.Mathlib.Nat.{le_antisymm, le_of_suc-le-suc, eq-or-lt_of_le}
use lib.Dec.{T, eqb, eqb→eq, eqb_refl}
use lib.ListN.{length}
use mir.Facts.{and_yes, or_yes}
use Rattle.safety.specs.Count.{tally, count, ◌∩◌, ◌∪◌, holds, Ascend}

either : (b : Bool) → T b ⊎ (T b → ⊥)
either true = inl tt
either false = inr (λ t. t)

pub le_or_lt : (a b : ℕ) → (a ≤ b) ⊎ (b < a)
le_or_lt zero b = inl zero-le
le_or_lt (suc a) zero = inr (suc-le-suc zero-le)
le_or_lt (suc a) (suc b) = ⊎_elim (λ p. inl (suc-le-suc p)) (λ q. inr (suc-le-suc q)) (le_or_lt a b)

tally_both : (a b : Bool) → tally a + tally b ≤ 1 + tally (a && b)
tally_both true true = omega arith
tally_both true false = omega arith
tally_both false true = omega arith
tally_both false false = omega arith

tally_mono : (a b : Bool) → (T a → T b) → tally a ≤ tally b
tally_mono true true h = omega arith
tally_mono true false h = absurd (h tt)
tally_mono false true h = omega arith
tally_mono false false h = omega arith

tally_either : (a b : Bool) → tally (a || b) + tally (a && b) ≡ tally a + tally b
tally_either true true = refl
tally_either true false = refl
tally_either false true = refl
tally_either false false = refl

-- two sets share at least what they have together beyond n
pub overlap : (P Q : ℕ → Bool) (n : ℕ) → count P n + count Q n ≤ n + count (P ∩ Q) n
unfolding count
overlap P Q zero = omega arith
overlap P Q (suc n) = omega (arith, overlap P Q n, tally_both (P n) (Q n))

pub union : (P Q : ℕ → Bool) (n : ℕ) → count (P ∪ Q) n + count (P ∩ Q) n ≡ count P n + count Q n
unfolding count
union P Q zero = refl
union P Q (suc n) = omega (arith, union P Q n, tally_either (P n) (Q n))

pub count_mono : (P Q : ℕ → Bool) (n : ℕ) → ((i : ℕ) → i < n → T (P i) → T (Q i)) → count P n ≤ count Q n
unfolding count
count_mono P Q zero h = omega arith
count_mono P Q (suc n) h =
    omega (arith, count_mono P Q n (λ i l. h i (omega arith)), tally_mono (P n) (Q n) (h n (omega arith)))

pub count_le : (P : ℕ → Bool) (m n : ℕ) → m ≤ n → count P m ≤ count P n
unfolding count
count_le P m zero h = let e : m ≡ 0 = omega arith in rw e (omega arith)
count_le P m (suc n) h = ⊎_elim (λ e. rw e (omega arith)) (λ l. omega (arith, count_le P m n (le_of_suc-le-suc l))) (eq-or-lt_of_le h)

pub count_none : (P : ℕ → Bool) (n : ℕ) → ((i : ℕ) → i < n → T (P i) → ⊥) → count P n ≤ 0
unfolding count
count_none P zero h = omega arith
count_none P (suc n) h = omega (arith, count_none P n (λ i l. h i (omega arith)), tally_mono (P n) false (h n (omega arith)))

pub count_some : (P : ℕ → Bool) (n i : ℕ) → i < n → T (P i) → 0 < count P n
unfolding count
count_some P zero i l t = absurd (omega arith)
count_some P (suc n) i l t = ⊎_elim
    (λ (m : n ≤ i). omega (arith, tally_mono true (P n) (λ _. subst (λ (j : ℕ). T (P j)) (le_antisymm (le_of_suc-le-suc l) m) t)))
    (λ (m : i < n). omega (arith, count_some P n i m t))
    (le_or_lt n i)

-- counted from the lowest number on
pub count_lowest : (P : ℕ → Bool) (n : ℕ) → count P (suc n) ≡ tally (P 0) + count (λ i. P (suc i)) n
unfolding count
count_lowest P zero = refl
count_lowest P (suc n) = omega (arith, count_lowest P n)

-- where none from n on passes, a higher bound counts no more
pub count_beyond : (P : ℕ → Bool) (n m : ℕ) → ((i : ℕ) → n ≤ i → T (P i) → ⊥) → count P m ≤ count P n
unfolding count
count_beyond P n zero h = omega arith
count_beyond P n (suc m) h = ⊎_elim
    (λ l. omega (arith, count_beyond P n m h, tally_mono (P m) false (h m l)))
    (λ l. count_le P (suc m) n l)
    (le_or_lt n m)

-- at most one number passes
pub count_one : (P : ℕ → Bool) (n : ℕ) → ((i j : ℕ) → T (P i) → T (P j) → i ≡ j) → count P n ≤ 1
unfolding count
count_one P zero h = omega arith
count_one P (suc n) h = ⊎_elim
    (λ t. omega (arith, tally_mono (P n) true (λ _. tt), count_none P n (λ i l s. omega (arith, h i n s t))))
    (λ f. omega (arith, count_one P n h, tally_mono (P n) false f))
    (either (P n))

-- a number below n that passes
pub record Found (P : ℕ → Bool) (n : ℕ) : Type 0 where
  pub at : ℕ
  pub below : at < n
  pub passes : T (P at)

pub find : (P : ℕ → Bool) (n : ℕ) → 0 < count P n → Found P n
unfolding count
find P zero h = absurd (omega arith)
find P (suc n) h = go (either (P n)) (λ q. find P n q)
  where
    go : (T (P n)) ⊎ (T (P n) → ⊥) → (0 < count P n → Found P n) → Found P (suc n)
    go (inl t) rest = record { at = n; below = omega arith; passes = t }
    go (inr f) rest =
        let r = rest (omega (arith, h, tally_mono (P n) false f)) in
        record { at = r.at; below = omega (arith, r.below); passes = r.passes }

-- ---- the numbers that a list holds
module _ {A : Type 0} (at : A → ℕ) where
  single : (a : A) (n : ℕ) → count (eqb (at a)) n ≤ 1
  single a n = count_one (eqb (at a)) n (λ i j s t. sym (eqb→eq (at a) i s) ∙ eqb→eq (at a) j t)

  pub holds_le : (l : List A) (n : ℕ) → count (holds at l) n ≤ length l
  holds_le [] n = count_none (holds at []) n (λ i l t. t)
  holds_le (a ∷ l) n = omega (arith, union (eqb (at a)) (holds at l) n, single a n, holds_le l n)

  pub holds_from : (l : List A) (n low i : ℕ) → Ascend at n low l → T (holds at l i) → low ≤ i
  holds_from [] n low i h t = absurd t
  holds_from (a ∷ l) n low i h t = ⊎_elim
      (λ e. omega (arith, eqb→eq (at a) i e))
      (λ m. omega (arith, holds_from l n (suc (at a)) i h.2 m))
      (or_yes (eqb (at a) i) (holds at l i) t)

  -- a list that ascends below n holds as many as it is long
  pub holds_ge : (l : List A) (n low : ℕ) → Ascend at n low l → length l ≤ count (holds at l) n
  holds_ge [] n low h = omega arith
  holds_ge (a ∷ l) n low h = omega (
    arith,
    union (eqb (at a)) (holds at l) n,
    count_some (eqb (at a)) n (at a) h.1 (eqb_refl (at a)),
    holds_ge l n (suc (at a)) h.2,
    count_none (eqb (at a) ∩ holds at l) n (λ i m t.
        let p = and_yes (eqb (at a) i) (holds at l i) t in
        omega (arith, eqb→eq (at a) i p.0, holds_from l n (suc (at a)) i h.2 p.1)),
  )

-- The laws of the comparison of byte lists. Assumes nothing.
use mathlib.Core.Path.{◌≡◌, refl, sym, ap, ap₂, ◌∙◌}
use mathlib.Core.Logic.{◌⊎◌, inl, inr, ⊎_elim}
use mathlib.Core.Bool.{Bool, true, false, ◌&&◌, ◌||◌, true≢false, false≢true}
use mathlib.Core.List.{List, [], ◌∷◌}
use Prim.Native.Nat.{ℕ, ◌<◌}
use native.Mathlib.Nat.{le_of_eq}
use native.Mathlib.Omega.{arith}
use borrow.Author.Tests.{lt-ltb, le-ltb, eq-eqb, ltb-true, ltb-false, eqb-true, eqb-false}
use lib.Dec.{eqb, ltb}
use Rattle.codec.specs.Names.{same_bytes, less_bytes}

-- ---- the same bytes: it decides equality
pub same_refl : (a : List ℕ) → same_bytes a a ≡ true
unfolding same_bytes
same_refl [] = refl
same_refl (x ∷ a) = rw (eq-eqb x x refl, same_refl a)

pub and_true : (p q : Bool) → (p && q) ≡ true → (p ≡ true) × (q ≡ true)
and_true true q e = (refl, e)
and_true false q e = absurd (false≢true e)

pub same_eq : (a b : List ℕ) → same_bytes a b ≡ true → a ≡ b
unfolding same_bytes
same_eq [] [] e = refl
same_eq [] (y ∷ b) e = absurd (false≢true e)
same_eq (x ∷ a) [] e = absurd (false≢true e)
same_eq (x ∷ a) (y ∷ b) e =
    let h = and_true (eqb x y) (same_bytes a b) e in
    ap₂ (λ (z : ℕ) (t : List ℕ). z ∷ t) (eqb-true x y h.0) (same_eq a b h.1)

pub eq_same : (a b : List ℕ) → a ≡ b → same_bytes a b ≡ true
eq_same a b e = ap (same_bytes a) (sym e) ∙ same_refl a

pub same_ne : (a b : List ℕ) → same_bytes a b ≡ false → a ≡ b → ⊥
same_ne a b e h = true≢false (sym (eq_same a b h) ∙ e)

pub ne_same : (a b : List ℕ) → (a ≡ b → ⊥) → same_bytes a b ≡ false
ne_same a b h = go (same_bytes a b) refl
  where
    go : (t : Bool) → same_bytes a b ≡ t → t ≡ false
    go true e = absurd (h (same_eq a b e))
    go false e = refl

pub eq? : (a b : List ℕ) → Dec (a ≡ b)
eq? a b = go (same_bytes a b) refl
  where
    go : (t : Bool) → same_bytes a b ≡ t → Dec (a ≡ b)
    go true e = yes (same_eq a b e)
    go false e = no (same_ne a b e)

-- ---- less: a strict total order
-- what it says of two lists that are not empty
less_cases : (x y : ℕ) (a b : List ℕ) → less_bytes (x ∷ a) (y ∷ b) ≡ true → (x < y) ⊎ ((x ≡ y) × (less_bytes a b ≡ true))
unfolding less_bytes
less_cases x y a b e = go (ltb x y) refl (eqb x y) refl e
  where
    go : (p : Bool) → ltb x y ≡ p → (q : Bool) → eqb x y ≡ q → (p || (q && less_bytes a b)) ≡ true → (x < y) ⊎ ((x ≡ y) × (less_bytes a b ≡ true))
    go true p q r h = inl (ltb-true x y p)
    go false p true r h = inr (eqb-true x y r, h)
    go false p false r h = absurd (false≢true h)

less_head : (x y : ℕ) (a b : List ℕ) → x < y → less_bytes (x ∷ a) (y ∷ b) ≡ true
unfolding less_bytes
less_head x y a b h = rw (lt-ltb x y h)

less_tail : (x y : ℕ) (a b : List ℕ) → x ≡ y → less_bytes a b ≡ true → less_bytes (x ∷ a) (y ∷ b) ≡ true
unfolding less_bytes
less_tail x y a b e h = rw (eq-eqb x y e, le-ltb x y (le_of_eq (sym e)), h)

pub less_irrefl : (a : List ℕ) → less_bytes a a ≡ false
unfolding less_bytes
less_irrefl [] = refl
less_irrefl (x ∷ a) = rw (eq-eqb x x refl, le-ltb x x (le_of_eq refl), less_irrefl a)

pub less_trans : (a b c : List ℕ) → less_bytes a b ≡ true → less_bytes b c ≡ true → less_bytes a c ≡ true
unfolding less_bytes
less_trans [] [] c p q = absurd (false≢true p)
less_trans [] (y ∷ b) [] p q = absurd (false≢true q)
less_trans [] (y ∷ b) (z ∷ c) p q = refl
less_trans (x ∷ a) [] c p q = absurd (false≢true p)
less_trans (x ∷ a) (y ∷ b) [] p q = absurd (false≢true q)
less_trans (x ∷ a) (y ∷ b) (z ∷ c) p q =
    ⊎_elim
    (λ h. ⊎_elim (λ k. less_head x z a c (omega arith)) (λ k. less_head x z a c (omega arith)) (less_cases y z b c q))
    (λ h. ⊎_elim (λ k. less_head x z a c (omega arith)) (λ k. less_tail x z a c (h.0 ∙ k.0) (less_trans a b c h.1 k.1)) (less_cases y z b c q))
    (less_cases x y a b p)

pub less_asym : (a b : List ℕ) → less_bytes a b ≡ true → less_bytes b a ≡ false
less_asym a b h = go (less_bytes b a) refl
  where
    go : (t : Bool) → less_bytes b a ≡ t → t ≡ false
    go true e = absurd (true≢false (sym (less_trans a b a h e) ∙ less_irrefl a))
    go false e = refl

pub which : (m n : ℕ) → (m < n) ⊎ ((m ≡ n) ⊎ (n < m))
which m n = go (ltb m n) refl (eqb m n) refl
  where
    go : (p : Bool) → ltb m n ≡ p → (q : Bool) → eqb m n ≡ q → (m < n) ⊎ ((m ≡ n) ⊎ (n < m))
    go true p q r = inl (ltb-true m n p)
    go false p true r = inr (inl (eqb-true m n r))
    go false p false r = inr (inr (let h = ltb-false m n p in let k = eqb-false m n r in omega arith))

pub less_total : (a b : List ℕ) → (less_bytes a b ≡ true) ⊎ ((a ≡ b) ⊎ (less_bytes b a ≡ true))
unfolding less_bytes
less_total [] [] = inr (inl refl)
less_total [] (y ∷ b) = inl refl
less_total (x ∷ a) [] = inr (inr refl)
less_total (x ∷ a) (y ∷ b) =
    ⊎_elim (λ h. inl (less_head x y a b h))
    (λ h. ⊎_elim
    (λ e. ⊎_elim (λ k. inl (less_tail x y a b e k))
    (λ k. ⊎_elim (λ f. inr (inl (ap₂ (λ (z : ℕ) (t : List ℕ). z ∷ t) e f))) (λ f. inr (inr (less_tail y x b a (sym e) f))) k)
    (less_total a b))
    (λ l. inr (inr (less_head y x b a l))) h)
    (which x y)

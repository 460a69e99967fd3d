-- The elements of a list and of its parts: those of two lists, and those that pass a test. Assumes nothing.
use mathlib.Core.Bool.{Bool, true, false, cond}
use mathlib.Core.List.{List, [], ◌∷◌, ◌++◌}
use mathlib.Core.Logic.{◌⊎◌, inl, inr, ⊎_elim}
use mathlib.Core.Path.{◌≡◌, refl}
use Prim.Native.Nat.{ℕ, suc, ◌≤◌, ◌<◌}
use native.Mathlib.Omega.{arith}
use lib.ListN.{length}
use Rattle.wire.specs.Fit.{All}
use Rattle.wire.proofs.Slots.{all_impl}
use Rattle.certificate.specs.Order.{only}
use Rattle.safety.specs.Lists.{In}
use Rattle.safety.specs.Count.{Ascend}

module _ {A : Type 0} where
  pub in_left : (a : A) (l m : List A) → In a l → In a (l ++ m)
  in_left a [] m p = absurd p
  in_left a (b ∷ l) m p = ⊎_elim inl (λ q. inr (in_left a l m q)) p

  pub in_right : (a : A) (l m : List A) → In a m → In a (l ++ m)
  in_right a [] m p = p
  in_right a (b ∷ l) m p = inr (in_right a l m p)

  pub in_append : (a : A) (l m : List A) → In a (l ++ m) → In a l ⊎ In a m
  in_append a [] m p = inr p
  in_append a (b ∷ l) m (inl e) = inl (inl e)
  in_append a (b ∷ l) m (inr p) = ⊎_elim (λ q. inl (inr q)) inr (in_append a l m p)

  pub all_in : (l : List A) → All (λ a. In a l) l
  unfolding All
  all_in [] = tt
  all_in (a ∷ l) = (inl refl, all_impl _ _ l (λ b h. inr h) (all_in l))

  pub in_all : (P : A → Type 0) (a : A) (l : List A) → All P l → In a l → P a
  unfolding All
  in_all P a [] h p = absurd p
  in_all P a (b ∷ l) h p = ⊎_elim (λ e. rw e h.0) (in_all P a l h.1) p

  -- ---- those that pass a test
  module _ (test : A → Bool) where
    pub only_all : (P : A → Type 0) (l : List A) → All (λ a. test a ≡ true → P a) l → All P (only test l)
    unfolding only All
    only_all P [] h = tt
    only_all P (a ∷ l) h = go (test a) h.0 (only_all P l h.1)
      where
        go : (b : Bool) → (b ≡ true → P a) → All P (only test l) → All P (cond b (a ∷ only test l) (only test l))
        go true p q = (p refl, q)
        go false p q = q

    -- where some pass, what follows from each of them follows
    pub only_some : (P : Type 0) (l : List A) → All (λ a. test a ≡ true → P) l → 0 < length (only test l) → P
    unfolding only All
    only_some P [] h p = absurd (omega arith)
    only_some P (a ∷ l) h p = go (test a) h.0 p (only_some P l h.1)
      where
        go : (b : Bool) → (b ≡ true → P) → 0 < length (cond b (a ∷ only test l) (only test l)) → (0 < length (only test l) → P) → P
        go true q p rest = q refl
        go false q p rest = rest p

    module _ (at : A → ℕ) (n : ℕ) where
      lower : (low high : ℕ) (l : List A) → low ≤ high → Ascend at n high l → Ascend at n low l
      lower low high [] h p = tt
      lower low high (a ∷ l) h p = (omega arith, p.1, p.2)

      pub only_ascend : (low : ℕ) (l : List A) → Ascend at n low l → Ascend at n low (only test l)
      unfolding only
      only_ascend low [] p = tt
      only_ascend low (a ∷ l) p = go (test a) (only_ascend (suc (at a)) l p.2)
        where
          go : (b : Bool) → Ascend at n (suc (at a)) (only test l) → Ascend at n low (cond b (a ∷ only test l) (only test l))
          go true q = (p.0, p.1, q)
          go false q = lower low (suc (at a)) (only test l) (omega arith) q

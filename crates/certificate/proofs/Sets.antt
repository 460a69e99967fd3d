-- Signer sets: a replica more, in the set and in its count (01: A signer set is u64, bit i for box i). Assumes nothing.
use mathlib.Core.Path.{◌≡◌, refl, sym, ◌∙◌}
use mathlib.Core.Bool.{Bool, true, false, cond, not, ◌&&◌, ◌||◌, and-false}
use Prim.Native.Nat.{ℕ, zero, suc, ◌+◌, ◌/◌, ◌%◌, ◌^◌, ◌<◌}
use native.Mathlib.Nat.{pow-suc}
use native.Mathlib.Omega.{arith}
use lib.Count.{ones_in}
use lib.Pow.{shr_lt}
use lib.Dec.{eqb, ltb, eqb-zero-suc, eqb-suc-zero, eqb-suc-suc}
use borrow.Author.Tests.{eqb-true, eqb-false, eq-eqb, ne_eqb, lt-ltb, ltb-true}
use Rattle.certificate.specs.Good.{signer_count}
use Rattle.certificate.specs.Safe.{signs, joins}
use Rattle.certificate.proofs.Signers.{joined_lt, signs_suc}

-- the lowest bit, and the others
signs_zero : (g : ℕ) → signs g 0 ≡ eqb (g % 2) 1
unfolding signs
signs_zero g = let q : g / 1 ≡ g = omega arith in rw q

even : (g : ℕ) → signs g 0 ≡ false → g % 2 ≡ 0
even g e = let h = eqb-false (g % 2) 1 (sym (signs_zero g) ∙ e) in omega arith

-- with replica i in it, a set that lacked i has i and whom it had
pub joined_signs : (g i j : ℕ) → signs g i ≡ false → signs (g + 2 ^ i) j ≡ (eqb i j || signs g j)
joined_signs g zero zero e = let h = even g e in rw (signs_zero (g + 1), eq-eqb ((g + 1) % 2) 1 (omega arith))
joined_signs g zero (suc j) e =
    let h = even g e in
    let q : (g + 1) / 2 ≡ g / 2 = omega arith in
    rw (signs_suc (g + 1) j, q, signs_suc g j, eqb-zero-suc j)
joined_signs g (suc i) zero e =
    let p = pow-suc 2 i in
    let q : (g + 2 ^ suc i) % 2 ≡ g % 2 = omega arith in
    rw (signs_zero (g + 2 ^ suc i), q, signs_zero g, eqb-suc-zero i)
joined_signs g (suc i) (suc j) e =
    let p = pow-suc 2 i in
    let q : (g + 2 ^ suc i) / 2 ≡ g / 2 + 2 ^ i = omega arith in
    rw (signs_suc (g + 2 ^ suc i) j, q, joined_signs (g / 2) i j (sym (signs_suc g i) ∙ e), signs_suc g j, eqb-suc-suc i j)

-- the one that joined, and any other
pub signs_joined : (g i : ℕ) → signs g i ≡ false → signs (g + 2 ^ i) i ≡ true
signs_joined g i e = joined_signs g i i e ∙ rw (eq-eqb i i refl)

pub signs_other : (g i j : ℕ) → signs g i ≡ false → (j ≡ i → ⊥) → signs (g + 2 ^ i) j ≡ signs g j
signs_other g i j e d = joined_signs g i j e ∙ rw (ne_eqb i j (λ f. d (sym f)))

-- and one signer more
ones_in_joined : (k g i : ℕ) → signs g i ≡ false → i < k → ones_in k (g + 2 ^ i) ≡ suc (ones_in k g)
unfolding ones_in
ones_in_joined zero g i e h = absurd (omega arith)
ones_in_joined (suc k) g zero e h =
    let z = even g e in
    let q : (g + 1) / 2 ≡ g / 2 = omega arith in
    rw q (omega arith)
ones_in_joined (suc k) g (suc i) e h =
    let p = pow-suc 2 i in
    let q : (g + 2 ^ suc i) / 2 ≡ g / 2 + 2 ^ i = omega arith in
    let o = ones_in_joined k (g / 2) i (sym (signs_suc g i) ∙ e) (omega arith) in
    rw q (omega arith)

pub joined_count : (g i : ℕ) → signs g i ≡ false → i < 64 → signer_count (g + 2 ^ i) ≡ suc (signer_count g)
unfolding signer_count
joined_count g i e h = ones_in_joined 64 g i e h

-- a set of i bits has no replica i
pub signs_beyond : (g i : ℕ) → g < 2 ^ i → signs g i ≡ false
unfolding signs
signs_beyond g i h =
    let z : 0 + i ≡ i = omega arith in
    let l : g / 2 ^ i < 2 ^ 0 = shr_lt 0 i (rw z h) in
    let q : g / 2 ^ i ≡ 0 = omega arith in
    rw q

-- ---- `joins` of any replica
module _ (n i g : ℕ) where
  -- it adds that replica, if there is one of that number, and no other
  pub joins-signs : (j : ℕ) → signs (joins n i g) j ≡ (ltb j n && eqb i j || signs g j)
  unfolding joins
  joins-signs j = go (ltb i n) refl (signs g i) refl (eqb i j) refl
    where
      same : (p q : Bool) → signs g i ≡ q → signs (cond (p && not q) (g + 2 ^ i) g) i ≡ (p && true || q)
      same true true f = f
      same true false f = joined_signs g i i f ∙ rw (eq-eqb i i refl)
      same false q f = f

      other : (p q : Bool) → signs g i ≡ q → eqb i j ≡ false → signs (cond (p && not q) (g + 2 ^ i) g) j ≡ signs g j
      other true true f h = refl
      other true false f h = joined_signs g i j f ∙ rw h
      other false q f h = refl

      go : (p : Bool) → ltb i n ≡ p → (q : Bool) → signs g i ≡ q → (r : Bool) → eqb i j ≡ r → signs (cond (p && not q) (g + 2 ^ i) g) j ≡ (ltb j n && r || signs g j)
      go p e q f true h = let m = eqb-true i j h in rw (← m, e, f) (same p q f)
      go p e q f false h = rw (and-false (ltb j n)) (other p q f h)

  pub joins_lt : g < 2 ^ n → joins n i g < 2 ^ n
  unfolding joins
  joins_lt h = go (ltb i n) refl (signs g i) refl
    where
      go : (p : Bool) → ltb i n ≡ p → (q : Bool) → signs g i ≡ q → cond (p && not q) (g + 2 ^ i) g < 2 ^ n
      go true e true f = h
      go true e false f = joined_lt n g i h (ltb-true i n e) f
      go false e q f = h

  pub joins_new : i < n → signs g i ≡ false → joins n i g ≡ g + 2 ^ i
  unfolding joins
  joins_new h e = rw (lt-ltb i n h, e)

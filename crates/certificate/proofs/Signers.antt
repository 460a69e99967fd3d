-- Signer sets: what counting the bits of a word gives, and what a replica more leaves. Assumes nothing.
use mathlib.Core.Path.{◌≡◌, sym, ap, subst, ◌∙◌}
use Prim.Native.Nat.{ℕ, zero, suc, ◌+◌, ◌*◌, ◌/◌, ◌%◌, ◌^◌, ◌<◌}
use native.Mathlib.Numerals.{add-one}
use native.Mathlib.Omega.{arith}
use lib.Count.{ones, ones_in, ones_step}
use mathlib.Core.Bool.{false}
use native.Mathlib.Nat.{pow-suc}
use lib.Pow.{shr_lt, shr-shr}
use lib.Dec.{eqb}
use borrow.Author.Tests.{eqb-false}
use Rattle.certificate.specs.Good.{signer_count}
use Rattle.certificate.specs.Safe.{signs}

ones_in_lem : (k n : ℕ) → n < 2 ^ k → ones n ≡ ones_in k n
unfolding ones ones_in
ones_in_lem zero n h = let e : n ≡ 0 = omega arith in ap ones e
ones_in_lem (suc k) n h = ones_step n ∙ ap (λ (x : ℕ). n % 2 + x) (ones_in_lem k (n / 2) (shr_lt k 1 (subst (λ (j : ℕ). n < 2 ^ j) (sym (add-one k)) h)))

pub count_ones : (signers : ℕ) → signers < 2 ^ 64 → ones signers ≡ signer_count signers
unfolding signer_count
count_ones signers h = ones_in_lem 64 signers h

-- replica j + 1 in a set is replica j in the set without its lowest bit
pub signs_suc : (g j : ℕ) → signs g (suc j) ≡ signs (g / 2) j
unfolding signs
signs_suc g j = ap (λ (x : ℕ). eqb (x % 2) 1) (ap (λ (k : ℕ). g / 2 ^ k) (one_plus j) ∙ sym (shr-shr g 1 j))
  where
    one_plus : (j : ℕ) → suc j ≡ 1 + j
    one_plus j = omega arith

-- a replica that isn't in a set of k bits joins it: the set still has k bits
pub joined_lt : (k g i : ℕ) → g < 2 ^ k → i < k → signs g i ≡ false → g + 2 ^ i < 2 ^ k
unfolding signs
joined_lt zero g i h l e = absurd (omega arith)
joined_lt (suc k) g zero h l e =
    let p : 2 ^ suc k ≡ 2 ^ k * 2 = pow-suc 2 k in
    let q : g / 1 ≡ g = omega arith in
    let o : (g % 2 ≡ 1 → ⊥) = eqb-false (g % 2) 1 (rw q at e) in
    omega arith
joined_lt (suc k) g (suc j) h l e =
    let p : 2 ^ suc k ≡ 2 ^ k * 2 = pow-suc 2 k in
    let q : 2 ^ suc j ≡ 2 ^ j * 2 = pow-suc 2 j in
    let b : g / 2 < 2 ^ k = shr_lt k 1 (subst (λ (x : ℕ). g < 2 ^ x) (sym (add-one k)) h) in
    let ih = joined_lt k (g / 2) j b (omega arith) (sym (signs_suc g j) ∙ e) in
    omega arith

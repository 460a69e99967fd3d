-- The laws of words: forms of Ch and of Maj with fewer operations, and sums in another order. Assumes nothing.
use mathlib.Core.Path.{◌≡◌, refl}
use Prim.Native.Nat.{ℕ, zero, suc, ◌-◌, ◌/◌, ◌%◌, ◌^◌, ◌<◌}
use native.Mathlib.Omega.{arith}
use lib.Arith.{lt-one}
use lib.Bits.{bit_and, bit_xor, and_shr, xor_shr, and_mod, xor_mod}
use Rattle.digest.specs.Sha256.{◌⊞◌}

-- ---- halves and last bits

and_half : (x y : ℕ) → bit_and x y / 2 ≡ bit_and (x / 2) (y / 2)
and_half x y = and_shr x y 1

xor_half : (x y : ℕ) → bit_xor x y / 2 ≡ bit_xor (x / 2) (y / 2)
xor_half x y = xor_shr x y 1

not_half : (k x : ℕ) → x < 2 ^ suc k → (2 ^ suc k - 1 - x) / 2 ≡ 2 ^ k - 1 - x / 2
not_half k x h = omega arith

and_last : (x y : ℕ) → bit_and x y % 2 ≡ bit_and (x % 2) (y % 2)
and_last x y = and_mod x y 1

xor_last : (x y : ℕ) → bit_xor x y % 2 ≡ bit_xor (x % 2) (y % 2)
xor_last x y = xor_mod x y 1

not_last : (k x : ℕ) → x < 2 ^ suc k → (2 ^ suc k - 1 - x) % 2 ≡ 1 - x % 2
not_last k x h = omega arith

halves : {x y : ℕ} → x / 2 ≡ y / 2 → x % 2 ≡ y % 2 → x ≡ y
halves p q = omega arith

-- ---- three words of k bits

-- by induction on k
words : (P : ℕ → ℕ → ℕ → ℕ → Type 0) → P 0 0 0 0 → ((k x y z : ℕ) → x < 2 ^ suc k → P k (x / 2) (y / 2) (z / 2) → P (suc k) x y z)
    → (k x y z : ℕ) → x < 2 ^ k → y < 2 ^ k → z < 2 ^ k → P k x y z
words P p s zero x y z hx hy hz = rw (lt-one hx, lt-one hy, lt-one hz) p
words P p s (suc k) x y z hx hy hz = s k x y z hx (words P p s k (x / 2) (y / 2) (z / 2) (omega arith) (omega arith) (omega arith))

bit : (P : ℕ → Type 0) → P 0 → P 1 → (x : ℕ) → P (x % 2)
bit P p q x = at (x % 2) (omega arith)
  where
    at : (n : ℕ) → n < 2 → P n
    at zero h = p
    at (suc zero) h = q
    at (suc (suc n)) h = absurd (omega arith)

-- their last bits, by cases
bits : (P : ℕ → ℕ → ℕ → Type 0) → P 0 0 0 → P 0 0 1 → P 0 1 0 → P 0 1 1 → P 1 0 0 → P 1 0 1 → P 1 1 0 → P 1 1 1
    → (x y z : ℕ) → P (x % 2) (y % 2) (z % 2)
bits P a b c d e f g h x y z =
    bit (λ i. P i (y % 2) (z % 2))
    (bit (λ j. P 0 j (z % 2)) (bit (P 0 0) a b z) (bit (P 0 1) c d z) y)
    (bit (λ j. P 1 j (z % 2)) (bit (P 1 0) e f z) (bit (P 1 1) g h z) y) x

-- ---- Ch and Maj

abbrev pub Choose : ℕ → ℕ → ℕ → ℕ → Type 0
Choose k x y z = bit_xor z (bit_and x (bit_xor y z)) ≡ bit_xor (bit_and x y) (bit_and (2 ^ k - 1 - x) z)

pub choose : (k x y z : ℕ) → x < 2 ^ k → y < 2 ^ k → z < 2 ^ k → Choose k x y z
choose =
    words Choose refl
    (λ k x y z h e. halves (simp (and_half, xor_half, not_half) e)
    (simp (and_last, xor_last, not_last) (bits (Choose 1) refl refl refl refl refl refl refl refl x y z)))

abbrev pub Majority : ℕ → ℕ → ℕ → Type 0
Majority x y z = bit_xor y (bit_and (bit_xor x y) (bit_xor y z)) ≡ bit_xor (bit_xor (bit_and x y) (bit_and x z)) (bit_and y z)

pub majority : (k x y z : ℕ) → x < 2 ^ k → y < 2 ^ k → z < 2 ^ k → Majority x y z
majority =
    words (λ k. Majority) refl
    (λ k x y z h e. halves (simp (and_half, xor_half) e)
    (simp (and_last, xor_last) (bits Majority refl refl refl refl refl refl refl refl x y z)))

-- ---- sums

swap : (x y z : ℕ) → x ⊞ y ⊞ z ≡ x ⊞ z ⊞ y
unfolding ◌⊞◌
swap x y z = omega arith

-- the order of the terms of T₁
pub reorder : (h k w c s : ℕ) → h ⊞ k ⊞ w ⊞ c ⊞ s ≡ h ⊞ s ⊞ c ⊞ k ⊞ w
reorder h k w c s = simp swap

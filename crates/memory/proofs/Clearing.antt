-- Clearing a row: it has no entry, and nothing else changes. Rows that hold the same bytes read the same. Assumes nothing.
use mathlib.Core.Path.{◌≡◌, refl, sym, ap, ◌∙◌}
use mathlib.Core.Bool.{false}
use mathlib.Core.List.{List}
use Prim.Native.Nat.{ℕ, zero, suc, ◌+◌, ◌*◌, ◌≤◌, ◌<◌}
use native.Mathlib.Omega.{arith}
use lib.Dec.{lit<}
use lib.ListN.{length, replicate, length-replicate, replicate-append-replicate}
use Rattle.settings.specs.Quorum.{largest}
use Rattle.codec.specs.Bytes.{IsBytes, part, patch, le_nat}
use Rattle.codec.proofs.Laws.{part_same, part_before, patch_append, bytes_patch}
use Rattle.memory.specs.Layout.{row_size}
use Rattle.memory.specs.Kept.{mask, has, kept, cleared}
use Rattle.memory.proofs.Places.{entry_inside}
use Rattle.memory.proofs.Bits.{signs_none}
use Rattle.memory.proofs.Apart.{Apart, part_off, part_inner}

-- zero bytes
pub bytes_zero : (n : ℕ) → IsBytes (replicate n 0)
bytes_zero zero i = lit< tt
bytes_zero (suc n) zero = lit< tt
bytes_zero (suc n) (suc i) = bytes_zero n i

module _ (m : List ℕ) (row width : ℕ) where
  module _ (fits : row + row_size width ≤ length m) where
    pub mask-cleared : mask (cleared m row width) row ≡ 0
    unfolding cleared mask le_nat
    mask-cleared =
        let zeros : ℕ → List ℕ = λ n. replicate n 0 in
        ap le_nat (
        ap (λ (v : List ℕ). part (patch m row v) row 8) (sym (replicate-append-replicate {A = ℕ} 8 (width * largest) 0))
        ∙ ap (λ (s : List ℕ). part s row 8) (patch_append m row (zeros 8) (zeros (width * largest)))
        ∙ part_before (patch m row (zeros 8)) (row + 8) (zeros (width * largest)) row 8 (omega arith)
        ∙ part_same m row (zeros 8) 8 refl (omega arith))

    pub has-cleared : (i : ℕ) → has (cleared m row width) row i ≡ false
    unfolding has
    has-cleared i = rw mask-cleared (signs_none i)

  pub bytes_cleared : IsBytes m → IsBytes (cleared m row width)
  unfolding cleared
  bytes_cleared b = bytes_patch m row (replicate (row_size width) 0) b (bytes_zero (row_size width))

  pub cleared_apart : (a n : ℕ) → Apart a n row (row_size width) → part (cleared m row width) a n ≡ part m a n
  unfolding cleared
  cleared_apart a n o = part_off m row (replicate (row_size width) 0) a n row (row_size width) o (omega arith) (omega (arith, length-replicate {A = ℕ} (row_size width) 0))

-- ---- two memories with the same bytes in a row
module _ (m w : List ℕ) (row width : ℕ) (same : part w row (row_size width) ≡ part m row (row_size width)) where
  inside : (b k : ℕ) → b + k ≤ row_size width → part w (row + b) k ≡ part m (row + b) k
  inside b k h = sym (part_inner w row (row_size width) b k h) ∙ ap (λ (s : List ℕ). part s b k) same ∙ part_inner m row (row_size width) b k h

  pub mask_same : mask w row ≡ mask m row
  unfolding mask
  mask_same = let e : row ≡ row + 0 = omega arith in ap le_nat (rw e (inside 0 8 (omega arith)))

  pub has_same : (i : ℕ) → has w row i ≡ has m row i
  unfolding has
  has_same i = rw mask_same

  pub kept_same : (i : ℕ) → i < largest → kept w row width i ≡ kept m row width i
  unfolding kept
  kept_same i h = inside (8 + width * i) width (omega (arith, entry_inside width i largest h))

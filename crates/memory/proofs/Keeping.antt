-- Keeping an entry: what is read in the row after it, and that nothing else changes. Assumes nothing.
use mathlib.Core.Path.{◌≡◌, refl, ◌∙◌}
use mathlib.Core.Logic.{⊎_elim}
use mathlib.Core.Bool.{Bool, true, false, cond}
use mathlib.Core.List.{List}
use Prim.Native.Nat.{ℕ, zero, suc, ◌+◌, ◌/◌, ◌^◌, ◌≤◌, ◌<◌}
use native.Mathlib.Nat.{mod-lt}
use native.Mathlib.Omega.{arith}
use lib.Dec.{lit<}
use lib.ListN.{length}
use Rattle.settings.specs.Quorum.{largest}
use Rattle.codec.specs.Bytes.{IsBytes, part, patch, le_bytes}
use Rattle.codec.proofs.Laws.{part_same, part_before, part_behind, length-patch, bytes_patch}
use Rattle.codec.proofs.Le.{le_nat-part, le_nat-le_bytes, length-le_bytes}
use Rattle.codec.proofs.Order.{which}
use Rattle.certificate.proofs.Signers.{joined_lt}
use Rattle.memory.specs.Layout.{row_size}
use Rattle.memory.specs.Kept.{entry_at, mask, has, kept, keep}
use Rattle.memory.proofs.Places.{entry_inside}
use Rattle.certificate.proofs.Sets.{signs_joined, signs_other}
use Rattle.memory.proofs.Apart.{Apart, part_off}

-- a mask is a word
pub mask_lt : (m : List ℕ) (row : ℕ) → IsBytes m → mask m row < 2 ^ 64
unfolding mask
mask_lt m row b = le_nat-part 8 m row b

pub bytes_le : (k n : ℕ) → IsBytes (le_bytes k n)
unfolding le_bytes
bytes_le zero n i = lit< tt
bytes_le (suc k) n zero = mod-lt n (lit< tt)
bytes_le (suc k) n (suc i) = bytes_le k (n / 256) i

-- ---- whatever is kept: the length, the bytes and what is apart from the row
module _ (m : List ℕ) (row width i : ℕ) (e : List ℕ) where
  -- the first one stays
  pub keep_stays : has m row i ≡ true → keep m row width i e ≡ m
  unfolding keep
  keep_stays h = rw h

  keep_puts : has m row i ≡ false → keep m row width i e ≡ patch (patch m (entry_at row width i) e) row (le_bytes 8 (mask m row + 2 ^ i))
  unfolding keep
  keep_puts h = rw h

  -- what holds of m, and of m with an entry and a mask put, holds after keeping
  keep_either : (P : List ℕ → Type 0) → P m → P (patch (patch m (entry_at row width i) e) row (le_bytes 8 (mask m row + 2 ^ i))) → P (keep m row width i e)
  unfolding keep
  keep_either P p q = go (has m row i)
    where
      go : (t : Bool) → P (cond t m (patch (patch m (entry_at row width i) e) row (le_bytes 8 (mask m row + 2 ^ i))))
      go true = p
      go false = q

  pub length-keep : length (keep m row width i e) ≡ length m
  length-keep = keep_either (λ s. length s ≡ length m) refl (simp length-patch)

  pub bytes_keep : IsBytes m → IsBytes e → IsBytes (keep m row width i e)
  bytes_keep b c = keep_either IsBytes b (bytes_patch _ row _ (bytes_patch m (entry_at row width i) e b c) (bytes_le 8 (mask m row + 2 ^ i)))

  pub keep_apart : (a n : ℕ) → length e ≡ width → i < largest → Apart a n row (row_size width) → part (keep m row width i e) a n ≡ part m a n
  keep_apart a n l h o =
      let x = entry_inside width i largest h in
      keep_either (λ s. part s a n ≡ part m a n) refl
      (part_off _ row _ a n row (row_size width) o (omega arith) (omega (arith, length-le_bytes 8 (mask m row + 2 ^ i)))
      ∙ part_off m (entry_at row width i) e a n row (row_size width) o (omega arith) (omega arith))

  -- ---- the row after an entry is put
  module _ (b : IsBytes m) (fits : row + row_size width ≤ length m) (l : length e ≡ width) (h : i < largest) (none : has m row i ≡ false) where
    pub mask-keep : mask (keep m row width i e) row ≡ mask m row + 2 ^ i
    unfolding mask has
    mask-keep =
        let s = patch m (entry_at row width i) e in
        let f : row + 8 ≤ length s = simp length-patch (omega arith) in
        rw (keep_puts none, part_same s row (le_bytes 8 (mask m row + 2 ^ i)) 8 (length-le_bytes 8 (mask m row + 2 ^ i)) f)
        (le_nat-le_bytes 8 (mask m row + 2 ^ i) (joined_lt 64 (mask m row) i (mask_lt m row b) (omega arith) none))

    pub has-keep : has (keep m row width i e) row i ≡ true
    unfolding has
    has-keep = rw mask-keep (signs_joined (mask m row) i none)

    pub has-keep_other : (j : ℕ) → (j ≡ i → ⊥) → has (keep m row width i e) row j ≡ has m row j
    unfolding has
    has-keep_other j d = rw mask-keep (signs_other (mask m row) i j none d)

    kept_behind : (j : ℕ) → kept (keep m row width i e) row width j ≡ part (patch m (entry_at row width i) e) (entry_at row width j) width
    unfolding kept
    kept_behind j = rw (keep_puts none) (part_behind _ row _ (entry_at row width j) width (omega (arith, length-le_bytes 8 (mask m row + 2 ^ i))))

    pub kept-keep : kept (keep m row width i e) row width i ≡ e
    kept-keep = kept_behind i ∙ part_same m (entry_at row width i) e width l (omega (arith, entry_inside width i largest h))

    pub kept-keep_other : (j : ℕ) → (j ≡ i → ⊥) → kept (keep m row width i e) row width j ≡ kept m row width j
    unfolding kept
    kept-keep_other j d =
        kept_behind j ∙ ⊎_elim
        (λ x. part_before m (entry_at row width i) e (entry_at row width j) width (omega (arith, entry_inside width j i x)))
        (λ y. ⊎_elim (λ x. absurd (d x)) (λ x. part_behind m (entry_at row width i) e (entry_at row width j) width (omega (arith, entry_inside width i j x))) y)
        (which j i)

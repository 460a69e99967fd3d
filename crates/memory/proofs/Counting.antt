-- Counting who backs a name: the count is the number of signers, and what putting an entry or clearing a row changes. Assumes nothing.
use mathlib.Core.Path.{◌≡◌, refl, sym, ◌∙◌}
use mathlib.Core.Bool.{Bool, true, false, cond, ◌&&◌, false≢true}
use mathlib.Core.List.{List}
use Prim.Native.Nat.{ℕ, zero, suc, ◌+◌, ◌^◌, ◌≤◌, ◌<◌}
use native.Mathlib.Omega.{arith}
use borrow.Author.Tests.{eqb-true, eqb-false}
use lib.Dec.{eqb}
use lib.ListN.{length}
use Rattle.settings.specs.Quorum.{largest}
use Rattle.codec.specs.Bytes.{IsBytes, part}
use Rattle.codec.specs.Names.{name_length, same_bytes}
use Rattle.codec.proofs.Order.{same_refl}
use Rattle.certificate.specs.Good.{signer_count}
use Rattle.certificate.specs.Safe.{signs}
use Rattle.certificate.proofs.Sets.{signs_joined, signs_other}
use Rattle.memory.specs.Layout.{row_size}
use Rattle.memory.specs.Kept.{mask, has, kept_count, kept, keep, cleared, backs, tallied, tally}
use Rattle.memory.proofs.Rows.{tally-signers}
use Rattle.memory.proofs.Bits.{counted, counted_le, counted_most, counted_one, signs_above, count_set, count_low}
use Rattle.memory.proofs.Keeping.{has-keep, has-keep_other, kept-keep, kept-keep_other}
use Rattle.memory.proofs.Clearing.{has-cleared, has_same, kept_same}

-- ---- who is counted
pub kept_counted : (m : List ℕ) (row n : ℕ) → n ≤ 64 → kept_count m row n ≡ counted (has m row) n
unfolding kept_count has
kept_counted m row n h = count_low (mask m row) n h

-- no more are kept than there are replicas
pub kept_most : (m : List ℕ) (row n : ℕ) → n ≤ 64 → kept_count m row n ≤ n
kept_most m row n w = omega (arith, kept_counted m row n w, counted_most (has m row) n)

module _ (m : List ℕ) (row : ℕ) (x : List ℕ) where
  pub tally-counted : (n : ℕ) → (tally m row x n).count ≡ counted (backs m row x) n
  unfolding tally tallied counted
  tally-counted zero = refl
  tally-counted (suc n) = go (backs m row x n) (tally-counted n)
    where
      go : (t : Bool) → (tally m row x n).count ≡ counted (backs m row x) n
          → (cond t (record { count = (tally m row x n).count + 1; signers = (tally m row x n).signers + 2 ^ n }) (tally m row x n)).count ≡ cond t (suc (counted (backs m row x) n)) (counted (backs m row x) n)
      go true e = omega arith
      go false e = e

  pub tally_beyond : (n i : ℕ) → n ≤ i → signs (tally m row x n).signers i ≡ false
  tally_beyond n i h = signs_above (tally m row x n).signers n i (tally-signers m row x n) h

  pub tally-signs : (n i : ℕ) → i < n → signs (tally m row x n).signers i ≡ backs m row x i
  unfolding tally tallied
  tally-signs zero i h = absurd (omega arith)
  tally-signs (suc n) i h = go (backs m row x n) refl (eqb i n) refl (tally-signs n i)
    where
      none : signs (tally m row x n).signers n ≡ false
      none = tally_beyond n n (omega arith)

      go : (t : Bool) → backs m row x n ≡ t → (d : Bool) → eqb i n ≡ d → (i < n → signs (tally m row x n).signers i ≡ backs m row x i)
          → signs (cond t (record { count = (tally m row x n).count + 1; signers = (tally m row x n).signers + 2 ^ n }) (tally m row x n)).signers i ≡ backs m row x i
      go true e true d f = rw (eqb-true i n d, e) (signs_joined (tally m row x n).signers n none)
      go true e false d f = let o = eqb-false i n d in signs_other (tally m row x n).signers n i none o ∙ f (omega arith)
      go false e true d f = rw (eqb-true i n d, e) none
      go false e false d f = let o = eqb-false i n d in f (omega arith)

  -- "signers": as many as are counted
  pub tally_bits : (n : ℕ) → n ≤ 64 → signer_count (tally m row x n).signers ≡ (tally m row x n).count
  tally_bits n h = count_set (tally m row x n).signers (backs m row x) n h (tally-signers m row x n) (tally-signs n) ∙ sym (tally-counted n)

  -- whoever is counted has an entry
  pub backs-has : (i : ℕ) → backs m row x i ≡ true → has m row i ≡ true
  unfolding backs
  backs-has i e = go (has m row i) e
    where
      go : (t : Bool) → (t && same_bytes (kept m row name_length i) x) ≡ true → t ≡ true
      go true f = refl
      go false f = absurd (false≢true f)

  -- and for that name
  pub backs_same : (i : ℕ) → backs m row x i ≡ true → same_bytes (kept m row name_length i) x ≡ true
  unfolding backs
  backs_same i e = go (has m row i) e
    where
      go : (t : Bool) → (t && same_bytes (kept m row name_length i) x) ≡ true → same_bytes (kept m row name_length i) x ≡ true
      go true f = f
      go false f = absurd (false≢true f)

  pub tally_kept : (n : ℕ) → n ≤ 64 → (tally m row x n).count ≤ kept_count m row n
  tally_kept n h = rw (tally-counted n, kept_counted m row n h) (counted_le (backs m row x) (has m row) n (λ i l. backs-has i))

  -- nobody backs it
  pub tally_none : (n : ℕ) → ((i : ℕ) → i < n → backs m row x i ≡ false) → tally m row x n ≡ record { count = 0; signers = 0 }
  unfolding tally tallied
  tally_none zero h = refl
  tally_none (suc n) h = rw (h n (omega arith)) (tally_none n (λ i l. h i (omega arith)))

-- the same replicas back it
pub tally_same : (m w : List ℕ) (row : ℕ) (x : List ℕ) (n : ℕ) → ((i : ℕ) → i < n → backs w row x i ≡ backs m row x i) → tally w row x n ≡ tally m row x n
unfolding tally tallied
tally_same m w row x zero h = refl
tally_same m w row x (suc n) h = rw (h n (omega arith), tally_same m w row x n (λ i l. h i (omega arith)))

-- a row with the same bytes
pub tally_row : (m w : List ℕ) (row : ℕ) (x : List ℕ) (n : ℕ) → n ≤ largest → part w row (row_size name_length) ≡ part m row (row_size name_length) → tally w row x n ≡ tally m row x n
unfolding backs
tally_row m w row x n h e = tally_same m w row x n (λ i l. rw (has_same m w row name_length e i, kept_same m w row name_length e i (omega arith)))

-- a cleared row
pub tally-cleared : (m : List ℕ) (row : ℕ) (x : List ℕ) (n : ℕ) → row + row_size name_length ≤ length m → tally (cleared m row name_length) row x n ≡ record { count = 0; signers = 0 }
unfolding backs
tally-cleared m row x n fits = tally_none (cleared m row name_length) row x n (λ i l. rw (has-cleared m row name_length fits i))

-- ---- an entry is put
module _ (m : List ℕ) (row i : ℕ) (x : List ℕ) (b : IsBytes m) (fits : row + row_size name_length ≤ length m) (l : length x ≡ name_length) (none : has m row i ≡ false) where
  backs_not : (y : List ℕ) → backs m row y i ≡ false
  unfolding backs
  backs_not y = rw none

  backs_other : (y : List ℕ) (h : i < largest) (j : ℕ) → (j ≡ i → ⊥) → backs (keep m row name_length i x) row y j ≡ backs m row y j
  unfolding backs
  backs_other y h j d = rw (has-keep_other m row name_length i x b fits l h none j d, kept-keep_other m row name_length i x b fits l h none j d)

  backs_new : (y : List ℕ) (h : i < largest) → backs (keep m row name_length i x) row y i ≡ same_bytes x y
  unfolding backs
  backs_new y h = rw (has-keep m row name_length i x b fits l h none, kept-keep m row name_length i x b fits l h none)

  -- its name has one more
  pub tally_more : (n : ℕ) → i < n → n ≤ largest → (tally (keep m row name_length i x) row x n).count ≡ suc (tally m row x n).count
  tally_more n h g =
      rw (tally-counted (keep m row name_length i x) row x n, tally-counted m row x n)
      (counted_one (backs m row x) (backs (keep m row name_length i x) row x) i n h (backs_not x) (backs_new x (omega arith) ∙ same_refl x) (λ j k. backs_other x (omega arith) j))

  -- another name has as many as before
  pub tally_still : (y : List ℕ) (n : ℕ) → i < largest → same_bytes x y ≡ false → tally (keep m row name_length i x) row y n ≡ tally m row y n
  tally_still y n h e = tally_same m (keep m row name_length i x) row y n (λ j k. go j (eqb j i) refl)
    where
      go : (j : ℕ) (t : Bool) → eqb j i ≡ t → backs (keep m row name_length i x) row y j ≡ backs m row y j
      go j true d = let p = eqb-true j i d in rw p (backs_new y h ∙ e ∙ sym (backs_not y))
      go j false d = backs_other y h j (eqb-false j i d)

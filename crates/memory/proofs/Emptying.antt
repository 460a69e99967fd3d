-- All rows cleared, as an opening does: no row of any table has an entry, and nothing else changes. Assumes nothing.
use mathlib.Core.Path.{◌≡◌, refl, ap, ◌∙◌}
use mathlib.Core.Bool.{false}
use mathlib.Core.List.{List}
use Prim.Native.Nat.{ℕ, ◌%◌, ◌≤◌, ◌<◌}
use native.Mathlib.Omega.{arith}
use lib.ListN.{length}
use Rattle.codec.specs.Bytes.{IsBytes}
use Rattle.memory.specs.Layout.{votes_place, memory_length, ballot_rows, timeout_rows}
use Rattle.memory.specs.Kept.{has}
use Rattle.memory.specs.Window.{without_ballots, without_timeouts}
use Rattle.memory.proofs.Drops.{length-cleared}
use Rattle.memory.proofs.Apart.{Table, votes, commits, timeouts, rows_of, size_of, width_of, row_of, row_fits, rows_apart}
use Rattle.memory.proofs.Clearing.{bytes_cleared, cleared_apart, has-cleared, has_same}
use Rattle.memory.proofs.Header.{SameBelow, cleared_head}
use Rattle.memory.proofs.Entering.{pass_keeps, pass_makes, tag, clears, ballots, ballots_pass, timeouts_pass}

abbrev pub emptied : List ℕ → List ℕ
emptied m = without_timeouts (without_ballots m 0 ballot_rows) 0 timeout_rows

-- what clearing any row keeps
emptied_keeps : (P : List ℕ → Type 0) → ((s : List ℕ) (t : Table) (w : ℕ) → P s → P (clears s t w)) → (m : List ℕ) → P m → P (emptied m)
emptied_keeps P h m p =
    rw (timeouts_pass, ballots_pass)
    (pass_keeps (λ s w. clears s timeouts w) P _ 0 timeout_rows (λ s w a b. h s timeouts w)
    (pass_keeps ballots P m 0 ballot_rows (λ s w a b q. h _ commits w (h s votes w q)) p))

pub length-emptied : (m : List ℕ) → length (emptied m) ≡ length m
length-emptied m = emptied_keeps (λ s. length s ≡ length m) (λ s t w e. length-cleared s (row_of t w) (width_of t) ∙ e) m refl

pub bytes_emptied : (m : List ℕ) → IsBytes m → IsBytes (emptied m)
bytes_emptied m = emptied_keeps IsBytes (λ s t w. bytes_cleared s (row_of t w) (width_of t)) m

pub emptied_head : (m : List ℕ) → SameBelow votes_place m (emptied m)
emptied_head m = emptied_keeps (SameBelow votes_place m) (λ s t w p a n h. cleared_head s t w a n h ∙ p a n h) m (λ a n h. refl)

-- ---- no row has an entry
abbrev Long : List ℕ → Type 0
Long s = memory_length ≤ length s

module _ (i : ℕ) where
  abbrev None : Table → ℕ → List ℕ → Type 0
  None t u s = has s (row_of t u) i ≡ false

  long_cleared : (s : List ℕ) (t : Table) (w : ℕ) → Long s → Long (clears s t w)
  long_cleared s t w h = omega (arith, h, length-cleared s (row_of t w) (width_of t))

  -- clearing it, and clearing another one
  none_here : (s : List ℕ) (t : Table) (u : ℕ) → Long s → None t u (clears s t u)
  none_here s t u h = has-cleared s (row_of t u) (width_of t) (omega (arith, h, row_fits t u)) i

  none_other : (s : List ℕ) (t t' : Table) (u w : ℕ) → (t ≡ t' → u % rows_of t ≡ w % rows_of t → ⊥) → None t u s → None t u (clears s t' w)
  none_other s t t' u w d p =
      has_same s (clears s t' w) (row_of t u) (width_of t) (cleared_apart s (row_of t' w) (width_of t') (row_of t u) (size_of t) (rows_apart t t' u w d)) i ∙ p

  none_table : (s : List ℕ) (t t' : Table) (u w : ℕ) → (tag t ≡ tag t' → ⊥) → None t u s → None t u (clears s t' w)
  none_table s t t' u w d = none_other s t t' u w (λ e f. d (ap tag e))

  then_timeouts : (t : Table) (u : ℕ) (s : List ℕ) → (tag t ≡ 2 → ⊥) → None t u s → None t u (without_timeouts s 0 timeout_rows)
  then_timeouts t u s d p = rw timeouts_pass (pass_keeps (λ s w. clears s timeouts w) (None t u) s 0 timeout_rows (λ s w a b. none_table s t timeouts u w d) p)

  -- of a view below the number of rows
  none_low : (m : List ℕ) → Long m → (t : Table) (u : ℕ) → u < rows_of t → None t u (emptied m)
  none_low m h votes u l =
      then_timeouts votes u (without_ballots m 0 ballot_rows) (omega arith)
      (rw ballots_pass
      (pass_makes ballots Long (None votes u) m 0 ballot_rows u (omega arith) (omega arith)
      (λ s w a b q. long_cleared _ commits w (long_cleared s votes w q))
      (λ s q. none_table _ votes commits u u (omega arith) (none_here s votes u q))
      (λ s w a b d p. none_table _ votes commits u w (omega arith) (none_other s votes votes u w (λ e f. omega arith) p)) h))
  none_low m h commits u l =
      then_timeouts commits u (without_ballots m 0 ballot_rows) (omega arith)
      (rw ballots_pass
      (pass_makes ballots Long (None commits u) m 0 ballot_rows u (omega arith) (omega arith)
      (λ s w a b q. long_cleared _ commits w (long_cleared s votes w q))
      (λ s q. none_here _ commits u (long_cleared s votes u q))
      (λ s w a b d p. none_other _ commits commits u w (λ e f. omega arith) (none_table s commits votes u w (omega arith) p)) h))
  none_low m h timeouts u l =
      rw timeouts_pass
      (pass_makes (λ s w. clears s timeouts w) Long (None timeouts u) _ 0 timeout_rows u (omega arith) (omega arith)
      (λ s w a b q. long_cleared s timeouts w q) (λ s q. none_here s timeouts u q)
      (λ s w a b d p. none_other s timeouts timeouts u w (λ e f. omega arith) p)
      (rw ballots_pass (pass_keeps ballots Long m 0 ballot_rows (λ s w a b q. long_cleared _ commits w (long_cleared s votes w q)) h)))

  rem_low : (t : Table) (u : ℕ) → (u % rows_of t < rows_of t) × (u % rows_of t % rows_of t ≡ u % rows_of t)
  rem_low votes u = omega arith
  rem_low commits u = omega arith
  rem_low timeouts u = omega arith

  -- of every view
  pub emptied_none : (m : List ℕ) → memory_length ≤ length m → (t : Table) (u : ℕ) → has (emptied m) (row_of t u) i ≡ false
  emptied_none m h t u = let r = rem_low t u in rw r.1 at (none_low m h t (u % rows_of t) r.0)

-- Entering a view: the rows of the new windows hold what they held, or nothing where the view comes in; nothing else changes. Assumes nothing.
use mathlib.Core.Path.{◌≡◌, refl, sym, ap, subst, ◌∙◌}
use mathlib.Core.Bool.{Bool, true, false}
use mathlib.Core.List.{List}
use Prim.Native.Nat.{ℕ, zero, suc, ◌+◌, ◌-◌, ◌%◌, ◌≤◌, ◌<◌}
use native.Mathlib.Omega.{arith}
use lib.Dec.{eqb}
use borrow.Author.Tests.{eqb-true, eqb-false}
use lib.ListN.{length}
use Rattle.codec.specs.Bytes.{IsBytes, part}
use Rattle.memory.specs.Layout.{votes_place, memory_length}
use Rattle.memory.specs.Kept.{has, cleared}
use Rattle.memory.specs.Window.{lowest, without_ballots, without_timeouts, incoming, entered}
use Rattle.memory.proofs.Drops.{length-cleared}
use Rattle.memory.proofs.Apart.{Table, votes, commits, timeouts, rows_of, size_of, width_of, row_of, row_fits, rows_apart}
use Rattle.memory.proofs.Clearing.{bytes_cleared, cleared_apart, has-cleared, has_same}
use Rattle.memory.proofs.Header.{SameBelow, cleared_head}

-- ---- one view after another
module _ (step : List ℕ → ℕ → List ℕ) where
  pub pass : List ℕ → ℕ → ℕ → List ℕ
  pass m v zero = m
  pass m v (suc k) = pass (step m v) (suc v) k

  -- what every step keeps
  pub pass_keeps : (P : List ℕ → Type 0) (m : List ℕ) (v k : ℕ) → ((s : List ℕ) (w : ℕ) → v ≤ w → w < v + k → P s → P (step s w)) → P m → P (pass m v k)
  unfolding pass
  pass_keeps P m v zero h p = p
  pass_keeps P m v (suc k) h p = pass_keeps P (step m v) (suc v) k (λ s w a b. h s w (omega arith) (omega arith)) (h m v (omega arith) (omega arith) p)

  -- what the step at u makes and the others keep
  pub pass_makes : (Q P : List ℕ → Type 0) (m : List ℕ) (v k u : ℕ) → v ≤ u → u < v + k
      → ((s : List ℕ) (w : ℕ) → v ≤ w → w < v + k → Q s → Q (step s w))
      → ((s : List ℕ) → Q s → P (step s u))
      → ((s : List ℕ) (w : ℕ) → v ≤ w → w < v + k → (w ≡ u → ⊥) → P s → P (step s w))
      → Q m → P (pass m v k)
  unfolding pass
  pass_makes Q P m v zero u a b f g h q = absurd (omega arith)
  pass_makes Q P m v (suc k) u a b f g h q =
      go (eqb v u) refl (λ d. pass_makes Q P (step m v) (suc v) k u (omega arith) (omega arith) (λ s w x y. f s w (omega arith) (omega arith)) g (λ s w x y. h s w (omega arith) (omega arith)) (f m v (omega arith) (omega arith) q))
    where
      go : (t : Bool) → eqb v u ≡ t → ((v ≡ u → ⊥) → P (pass (step m v) (suc v) k)) → P (pass (step m v) (suc v) k)
      go true e rest =
          let d = eqb-true v u e in
          pass_keeps P (step m v) (suc v) k (λ s w x y. h s w (omega arith) (omega arith) (omega arith)) (rw d (g m q))
      go false e rest = rest (eqb-false v u e)

-- tables, told apart
abbrev pub tag : Table → ℕ
tag votes = 0
tag commits = 1
tag timeouts = 2

-- the two passes of entering
abbrev pub clears : List ℕ → Table → ℕ → List ℕ
clears s t w = cleared s (row_of t w) (width_of t)

abbrev pub ballots : List ℕ → ℕ → List ℕ
ballots s w = clears (clears s votes w) commits w

pub ballots_pass : (m : List ℕ) (v k : ℕ) → without_ballots m v k ≡ pass ballots m v k
unfolding without_ballots pass
ballots_pass m v zero = refl
ballots_pass m v (suc k) = ballots_pass (ballots m v) (suc v) k

pub timeouts_pass : (m : List ℕ) (v k : ℕ) → without_timeouts m v k ≡ pass (λ s w. clears s timeouts w) m v k
unfolding without_timeouts pass
timeouts_pass m v zero = refl
timeouts_pass m v (suc k) = timeouts_pass (clears m timeouts v) (suc v) k

-- ---- which views are kept in a table, and which come in
abbrev pub first_of : Table → ℕ → ℕ
first_of votes view = lowest view
first_of commits view = lowest view
first_of timeouts view = view

pub record Windowed (t : Table) (view u : ℕ) : Type 0 where
  pub first : first_of t view ≤ u
  pub last : u ≤ view + 3

-- in a table of so many rows
record Incoming (rows old new u : ℕ) : Type 0 where
  first : new + 4 - incoming rows old new ≤ u
  last : u < new + 4

module _ (old new : ℕ) where
  -- a view of the new window that was in the old one shares no row with one that comes in
  old_new : (t : Table) (u w : ℕ) → Windowed t new u → u ≤ old + 3 → Incoming (rows_of t) old new w → u % rows_of t ≡ w % rows_of t → ⊥
  old_new votes u w h l i e = omega arith
  old_new commits u w h l i e = omega arith
  old_new timeouts u w h l i e = omega arith

  -- any other view of the new window comes in
  comes_in : (t : Table) (u : ℕ) → Windowed t new u → old + 3 < u → Incoming (rows_of t) old new u
  comes_in votes u h l = record { first = omega arith; last = omega arith }
  comes_in commits u h l = record { first = omega arith; last = omega arith }
  comes_in timeouts u h l = record { first = omega arith; last = omega arith }

  -- two views that come in share no row
  new-new : (t : Table) (u w : ℕ) → Incoming (rows_of t) old new u → Incoming (rows_of t) old new w → (w ≡ u → ⊥) → u % rows_of t ≡ w % rows_of t → ⊥
  new-new votes u w h i d e = omega arith
  new-new commits u w h i d e = omega arith
  new-new timeouts u w h i d e = omega arith

  -- P stays whenever a row of a view that comes in is cleared
  abbrev Stays : (List ℕ → Type 0) → Type 0
  Stays P = (s : List ℕ) (t : Table) (w : ℕ) → Incoming (rows_of t) old new w → P s → P (clears s t w)

-- ---- entering, as clearing rows
module _ (m : List ℕ) (old new : ℕ) where
  -- the views that a pass goes over come in
  comes : (rows w : ℕ) → new + 4 - incoming rows old new ≤ w → w < new + 4 - incoming rows old new + incoming rows old new → Incoming rows old new w
  comes rows w a b = record { first = a; last = omega arith }

  -- after the first pass, and after both
  mid : List ℕ
  mid = pass ballots m (new + 4 - incoming (rows_of votes) old new) (incoming (rows_of votes) old new)

  passes : entered m old new ≡ pass (λ s w. clears s timeouts w) mid (new + 4 - incoming (rows_of timeouts) old new) (incoming (rows_of timeouts) old new)
  unfolding entered mid
  passes = rw (timeouts_pass, ballots_pass)

  -- what stays
  then_timeouts : (P : List ℕ → Type 0) → ((s : List ℕ) (w : ℕ) → Incoming (rows_of timeouts) old new w → P s → P (clears s timeouts w)) → P mid → P (entered m old new)
  then_timeouts P h p = rw passes (pass_keeps (λ s w. clears s timeouts w) P mid _ _ (λ s w a b. h s w (comes (rows_of timeouts) w a b)) p)

  mid_keeps : (P : List ℕ → Type 0) → Stays old new P → P m → P mid
  unfolding mid
  mid_keeps P h p = pass_keeps ballots P m _ _ (λ s w a b q. let c = comes (rows_of votes) w a b in h _ commits w c (h s votes w c q)) p

  entered_keeps : (P : List ℕ → Type 0) → Stays old new P → P m → P (entered m old new)
  entered_keeps P h p = then_timeouts P (λ s. h s timeouts) (mid_keeps P h p)

  -- what clearing one row makes, where Q always stays, and clearing any other keeps
  module _ (Q P : List ℕ → Type 0) (stays : Stays old new Q) (u : ℕ) where
    mid_makes : Incoming (rows_of votes) old new u → ((s : List ℕ) → Q s → P (ballots s u))
        → ((s : List ℕ) (w : ℕ) → Incoming (rows_of votes) old new w → (w ≡ u → ⊥) → P s → P (ballots s w)) → Q m → P mid
    unfolding mid
    mid_makes i g h q =
        pass_makes ballots Q P m _ _ u i.first (omega arith)
        (λ s w a b p. let c = comes (rows_of votes) w a b in stays _ commits w c (stays s votes w c p)) g (λ s w a b. h s w (comes (rows_of votes) w a b)) q

    entered_makes : (t : Table) → Incoming (rows_of t) old new u → ((s : List ℕ) → Q s → P (clears s t u))
        → ((s : List ℕ) (t' : Table) (w : ℕ) → Incoming (rows_of t') old new w → (tag t ≡ tag t' → w ≡ u → ⊥) → P s → P (clears s t' w))
        → Q m → P (entered m old new)
    entered_makes votes i g h q =
        then_timeouts P (λ s w c. h s timeouts w c (λ e d. omega arith))
        (mid_makes i (λ s p. h _ commits u i (λ e d. omega arith) (g s p)) (λ s w c d p. h _ commits w c (λ e x. omega arith) (h s votes w c (λ e. d) p)) q)
    entered_makes commits i g h q =
        then_timeouts P (λ s w c. h s timeouts w c (λ e d. omega arith))
        (mid_makes i (λ s p. g _ (stays s votes u i p)) (λ s w c d p. h _ commits w c (λ e. d) (h s votes w c (λ e x. omega arith) p)) q)
    entered_makes timeouts i g h q =
        rw passes
        (pass_makes (λ s w. clears s timeouts w) Q P mid _ _ u i.first (omega arith) (λ s w a b. stays s timeouts w (comes (rows_of timeouts) w a b)) g
        (λ s w a b d. h s timeouts w (comes (rows_of timeouts) w a b) (λ e. d)) (mid_keeps Q stays q))

  -- ---- the laws
  pub length-entered : length (entered m old new) ≡ length m
  length-entered = entered_keeps (λ s. length s ≡ length m) (λ s t w i e. length-cleared s (row_of t w) (width_of t) ∙ e) refl

  pub bytes_entered : IsBytes m → IsBytes (entered m old new)
  bytes_entered = entered_keeps IsBytes (λ s t w i. bytes_cleared s (row_of t w) (width_of t))

  -- settings, own number, block count and entry certificate
  pub entered_head : SameBelow votes_place m (entered m old new)
  entered_head = entered_keeps (SameBelow votes_place m) (λ s t w i p a n h. cleared_head s t w a n h ∙ p a n h) (λ a n h. refl)

  -- a view of the new window that was in the old one: its whole row is as it was
  pub entered_kept : (t : Table) (u : ℕ) → Windowed t new u → u ≤ old + 3 → part (entered m old new) (row_of t u) (size_of t) ≡ part m (row_of t u) (size_of t)
  entered_kept t u h l =
      entered_keeps (λ s. part s (row_of t u) (size_of t) ≡ part m (row_of t u) (size_of t))
      (λ s t' w i p. cleared_apart s (row_of t' w) (width_of t') (row_of t u) (size_of t)
      (rows_apart t t' u w (λ e. old_new old new t u w h l (subst (λ (x : Table). Incoming (rows_of x) old new w) (sym e) i))) ∙ p)
      refl

  -- a view of the new window that comes in: its row has no entry
  pub entered_none : memory_length ≤ length m → (t : Table) (u : ℕ) → Windowed t new u → old + 3 < u → (i : ℕ) → has (entered m old new) (row_of t u) i ≡ false
  entered_none fits t u h l i =
      let c = comes_in old new t u h l in
      entered_makes (λ s. memory_length ≤ length s) (λ s. has s (row_of t u) i ≡ false) (λ s t' w d p. omega (arith, length-cleared s (row_of t' w) (width_of t'))) u t c
      (λ s p. has-cleared s (row_of t u) (width_of t) (omega (arith, row_fits t u)) i)
      (λ s t' w d x p. has_same s _ (row_of t u) (width_of t)
      (cleared_apart s (row_of t' w) (width_of t') (row_of t u) (size_of t)
      (rows_apart t t' u w (λ e. new-new old new t u w c (subst (λ (y : Table). Incoming (rows_of y) old new w) (sym e) d) (x (ap tag e))))) i ∙ p)
      fits

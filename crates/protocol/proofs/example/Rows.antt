-- The rows of a memory in which only votes and commits of view 1 are kept, the votes all for one name: what keeping one more and entering view 2 make of
-- them, and how many votes a name has. Assumes nothing.
use Prim.Native.Nat.{ℕ, ◌+◌, ◌%◌, ◌≤◌, ◌<◌}
use native.Mathlib.Omega.{arith}
use mathlib.Core.Path.{◌≡◌, refl, sym, ap, subst, ◌∙◌}
use mathlib.Core.Bool.{Bool, true, false, cond, ◌&&◌, false≢true}
use mathlib.Core.Logic.{◌⊎◌, inl, inr, ⊎_elim}
use mathlib.Core.List.{List}
use borrow.Author.Tests.{eqb-true, eqb-false, ne_eqb}
use lib.Dec.{eqb, lit≤}
use lib.ListN.{length}
use Rattle.settings.specs.Quorum.{largest}
use Rattle.codec.specs.Bytes.{IsBytes, part}
use Rattle.codec.specs.Names.{name_length}
use Rattle.codec.proofs.Order.{which}
use Rattle.memory.specs.Layout.{memory_length, vote_row, commit_row, timeout_row}
use Rattle.memory.specs.Kept.{has, kept, keep}
use Rattle.memory.specs.Window.{entered}
use Rattle.memory.proofs.Apart.{Table, votes, commits, timeouts, row_of, size_of, width_of, rows_of, row_fits, rows_apart}
use Rattle.memory.proofs.Clearing.{has_same, kept_same}
use Rattle.memory.proofs.Keeping.{keep_apart, has-keep, has-keep_other, kept-keep, kept-keep_other}
use Rattle.memory.proofs.Entering.{tag, first_of, entered_kept, entered_none}

-- nobody; one replica more
abbrev pub nobody : ℕ → Bool
nobody j = false

abbrev pub and_also : ℕ → (ℕ → Bool) → ℕ → Bool
and_also i A j = cond (eqb j i) true (A j)

-- A voted for x and C committed in view 1, and nothing else is kept of the views 1 to 5; of timeouts, of the views from `first` to 5
pub record Rows (x : List ℕ) (first : ℕ) (A C : ℕ → Bool) (m : List ℕ) : Type 0 where
  pub voted : (v j : ℕ) → 1 ≤ v → v ≤ 5 → has m (vote_row v) j ≡ (eqb v 1 && A j)
  pub named : (j : ℕ) → j < largest → A j ≡ true → kept m (vote_row 1) name_length j ≡ x
  pub committed : (v j : ℕ) → 1 ≤ v → v ≤ 5 → has m (commit_row v) j ≡ (eqb v 1 && C j)
  pub untimed : (v j : ℕ) → first ≤ v → v ≤ 5 → has m (timeout_row v) j ≡ false

pub and_false : (t : Bool) → (t && false) ≡ false
and_false true = refl
and_false false = refl

-- no entry in the rows of these views
pub rows_none : (x m : List ℕ) (first : ℕ) → first ≤ 2 → ((t : Table) (v j : ℕ) → first_of t first ≤ v → v ≤ 5 → has m (row_of t v) j ≡ false) → Rows x first nobody nobody m
rows_none x m first l h =
    record {
      voted = λ v j a b. h votes v j (omega arith) b ∙ sym (and_false (eqb v 1));
      named = λ j k e. absurd (false≢true e);
      committed = λ v j a b. h commits v j (omega arith) b ∙ sym (and_false (eqb v 1));
      untimed = λ v j a b. h timeouts v j a b;
    }

-- the same bytes in every row
pub rows_same : (x : List ℕ) (first : ℕ) (A C : ℕ → Bool) (m w : List ℕ) → ((t : Table) (v : ℕ) → part w (row_of t v) (size_of t) ≡ part m (row_of t v) (size_of t)) → Rows x first A C m → Rows x first A C w
rows_same x first A C m w e r =
    record {
      voted = λ v j a b. has_same m w (vote_row v) (width_of votes) (e votes v) j ∙ r.voted v j a b;
      named = λ j l k. kept_same m w (vote_row 1) (width_of votes) (e votes 1) j l ∙ r.named j l k;
      committed = λ v j a b. has_same m w (commit_row v) (width_of commits) (e commits v) j ∙ r.committed v j a b;
      untimed = λ v j a b. has_same m w (timeout_row v) (width_of timeouts) (e timeouts v) j ∙ r.untimed v j a b;
    }

-- ---- one entry more in view 1's row of a table
module _ (s : Table) (m : List ℕ) (i : ℕ) (e : List ℕ) (b : IsBytes m) (long : memory_length ≤ length m) (l : length e ≡ width_of s) (h : i < largest)
    (none : has m (row_of s 1) i ≡ false) where
  abbrev pub with_entry_of : List ℕ
  with_entry_of = keep m (row_of s 1) (width_of s) i e

  -- the other rows stay
  pub stays : (t : Table) (v : ℕ) → (t ≡ s → v % rows_of t ≡ 1 % rows_of t → ⊥) → part with_entry_of (row_of t v) (size_of t) ≡ part m (row_of t v) (size_of t)
  stays t v d = keep_apart m (row_of s 1) (width_of s) i e (row_of t v) (size_of t) l h (rows_apart t s v 1 d)

  -- in this one, replica i has an entry too
  pub joins : (A : ℕ → Bool) → ((j : ℕ) → has m (row_of s 1) j ≡ A j) → (j : ℕ) → has with_entry_of (row_of s 1) j ≡ and_also i A j
  joins A f j = go (eqb j i) refl
    where
      fits : row_of s 1 + size_of s ≤ length m
      fits = omega (arith, row_fits s 1)

      go : (t : Bool) → eqb j i ≡ t → has (keep m (row_of s 1) (width_of s) i e) (row_of s 1) j ≡ cond t true (A j)
      go true d = rw (eqb-true j i d) (has-keep m (row_of s 1) (width_of s) i e b fits l h none)
      go false d = has-keep_other m (row_of s 1) (width_of s) i e b fits l h none j (eqb-false j i d) ∙ f j

-- view 1's row, or another's
at_one : (P : ℕ → Bool → Type 0) (v : ℕ) → P 1 true → ((v ≡ 1 → ⊥) → P v false) → P v (eqb v 1)
at_one P v a b = go (eqb v 1) refl
  where
    go : (t : Bool) → eqb v 1 ≡ t → P v t
    go true e = subst (λ (k : ℕ). P k true) (sym (eqb-true v 1 e)) a
    go false e = b (eqb-false v 1 e)

module _ (x : List ℕ) (first : ℕ) (A C : ℕ → Bool) (m : List ℕ) (i : ℕ) (b : IsBytes m) (long : memory_length ≤ length m) (l : length x ≡ name_length) (h : i < largest) (r : Rows x first A C m) where
  -- replica i's vote
  pub rows_vote : A i ≡ false → Rows x first (and_also i A) C (keep m (vote_row 1) name_length i x)
  rows_vote none =
      let free : has m (vote_row 1) i ≡ false = r.voted 1 i (lit≤ tt) (lit≤ tt) ∙ none in
      let w = keep m (vote_row 1) name_length i x in
      let off : (t : Table) (v : ℕ) → (t ≡ votes → v % rows_of t ≡ 1 % rows_of t → ⊥) → part w (row_of t v) (size_of t) ≡ part m (row_of t v) (size_of t) = stays votes m i x b long l h free in
      record {
        voted = λ v j p q. at_one (λ k t. has w (vote_row k) j ≡ (t && and_also i A j)) v (joins votes m i x b long l h free A (λ k. r.voted 1 k (lit≤ tt) (lit≤ tt)) j)
            (λ d. has_same m w (vote_row v) (width_of votes) (off votes v (λ z y. omega arith)) j ∙ r.voted v j p q ∙ rw (ne_eqb v 1 d));
        named = λ j k e. new j k e (eqb j i) refl;
        committed = λ v j p q. has_same m w (commit_row v) (width_of commits) (off commits v (λ z y. omega (arith, ap tag z))) j ∙ r.committed v j p q;
        untimed = λ v j p q. has_same m w (timeout_row v) (width_of timeouts) (off timeouts v (λ z y. omega (arith, ap tag z))) j ∙ r.untimed v j p q;
      }
    where
      new : (j : ℕ) → j < largest → and_also i A j ≡ true → (t : Bool) → eqb j i ≡ t → kept (keep m (vote_row 1) name_length i x) (vote_row 1) name_length j ≡ x
      new j k e true d = rw (eqb-true j i d) (kept-keep m (vote_row 1) name_length i x b (omega (arith, row_fits votes 1)) l h (r.voted 1 i (lit≤ tt) (lit≤ tt) ∙ none))
      new j k e false d =
          kept-keep_other m (vote_row 1) name_length i x b (omega (arith, row_fits votes 1)) l h (r.voted 1 i (lit≤ tt) (lit≤ tt) ∙ none) j (eqb-false j i d) ∙ r.named j k (rw d at e)

  -- replica i's commit
  pub rows_commit : C i ≡ false → Rows x first A (and_also i C) (keep m (commit_row 1) name_length i x)
  rows_commit none =
      let free : has m (commit_row 1) i ≡ false = r.committed 1 i (lit≤ tt) (lit≤ tt) ∙ none in
      let w = keep m (commit_row 1) name_length i x in
      let off : (t : Table) (v : ℕ) → (t ≡ commits → v % rows_of t ≡ 1 % rows_of t → ⊥) → part w (row_of t v) (size_of t) ≡ part m (row_of t v) (size_of t) = stays commits m i x b long l h free in
      record {
        voted = λ v j p q. has_same m w (vote_row v) (width_of votes) (off votes v (λ z y. omega (arith, ap tag z))) j ∙ r.voted v j p q;
        named = λ j k e. kept_same m w (vote_row 1) (width_of votes) (off votes 1 (λ z y. omega (arith, ap tag z))) j k ∙ r.named j k e;
        committed = λ v j p q. at_one (λ k t. has w (commit_row k) j ≡ (t && and_also i C j)) v (joins commits m i x b long l h free C (λ k. r.committed 1 k (lit≤ tt) (lit≤ tt)) j)
            (λ d. has_same m w (commit_row v) (width_of commits) (off commits v (λ z y. omega arith)) j ∙ r.committed v j p q ∙ rw (ne_eqb v 1 d));
        untimed = λ v j p q. has_same m w (timeout_row v) (width_of timeouts) (off timeouts v (λ z y. omega (arith, ap tag z))) j ∙ r.untimed v j p q;
      }

-- ---- view 2 is entered: the rows of the views 1 to 4 stay, and view 5 comes in
pub rows_entered : (x : List ℕ) (A C : ℕ → Bool) (m : List ℕ) → memory_length ≤ length m → Rows x 1 A C m → Rows x 2 A C (entered m 1 2)
rows_entered x A C m long r =
    record {
      voted = λ v j a b. ⊎_elim (λ o. has_same m w (vote_row v) (width_of votes) (entered_kept m 1 2 votes v (record { first = a; last = omega arith }) (omega arith)) j ∙ r.voted v j a b)
          (λ e. entered_none m 1 2 long votes v (record { first = a; last = omega arith }) (omega arith) j ∙ rw e) (low v b);
      named = λ j k e. kept_same m w (vote_row 1) (width_of votes) (entered_kept m 1 2 votes 1 (record { first = omega arith; last = omega arith }) (omega arith)) j k ∙ r.named j k e;
      committed = λ v j a b. ⊎_elim (λ o. has_same m w (commit_row v) (width_of commits) (entered_kept m 1 2 commits v (record { first = a; last = omega arith }) (omega arith)) j ∙ r.committed v j a b)
          (λ e. entered_none m 1 2 long commits v (record { first = a; last = omega arith }) (omega arith) j ∙ rw e) (low v b);
      untimed = λ v j a b. ⊎_elim (λ o. has_same m w (timeout_row v) (width_of timeouts) (entered_kept m 1 2 timeouts v (record { first = a; last = omega arith }) (omega arith)) j ∙ r.untimed v j (omega arith) b)
          (λ e. entered_none m 1 2 long timeouts v (record { first = a; last = omega arith }) (omega arith) j) (low v b);
    }
  where
    w : List ℕ
    w = entered m 1 2

    low : (v : ℕ) → v ≤ 5 → (v ≤ 4) ⊎ (v ≡ 5)
    low v b = ⊎_elim (λ o. inl (omega arith)) (λ o. inr (⊎_elim (λ e. e) (λ k. absurd (omega arith)) o)) (which v 5)

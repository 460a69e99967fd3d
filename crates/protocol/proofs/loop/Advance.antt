-- What a certificate of the rules B and C leaves of what is kept: the view may have risen, and of the votes and timeouts of the new windows each row is as
-- it was or, where the view came in, empty (`Advanced`). So what is enough afterwards was enough before. Assumes nothing.
use mathlib.Core.Path.{◌≡◌, refl, ap, subst, ◌∙◌}
use mathlib.Core.Logic.{⊎_elim}
use mathlib.Core.Bool.{true, false}
use mathlib.Core.List.{List}
use Prim.Native.Nat.{ℕ, suc, ◌+◌, ◌≤◌, ◌<◌}
use native.Mathlib.Omega.{arith}
use borrow.Author.Tests.{leb-true, le-leb}
use lib.Dec.{leb}
use lib.ListN.{length}
use Rattle.settings.specs.declared.Settings.{Settings}
use Rattle.settings.specs.Quorum.{largest, last_view, replicas, timeout_quorum}
use Rattle.codec.specs.Bytes.{part}
use Rattle.codec.specs.Names.{name_length}
use Rattle.codec.proofs.Order.{and_true, which}
use Rattle.certificate.specs.declared.Certificate.{Certificate}
use Rattle.certificate.specs.declared.Tally.{Tally}
use Rattle.memory.specs.Layout.{entry_room, memory_length, row_size, votes_place, with_entry, vote_row, timeout_row}
use Rattle.memory.specs.Kept.{has, kept_count, backs, tally}
use Rattle.memory.specs.Window.{lowest, highest, in_ballot_window, in_timeout_window, entered}
use Rattle.memory.proofs.Apart.{Table, votes, commits, timeouts, row_of, size_of, width_of, row_head, rows_apart}
use Rattle.memory.proofs.Bits.{counted, counted_above}
use Rattle.memory.proofs.Clearing.{mask_same, has_same}
use Rattle.memory.proofs.Keeping.{keep_apart}
use Rattle.memory.proofs.Header.{settings_same, keep_head, entry_settings, entry_behind}
use Rattle.memory.proofs.Entering.{Windowed, entered_head, entered_kept, entered_none}
use Rattle.memory.proofs.Counting.{kept_counted, tally_none, tally_row}
use Rattle.counters.specs.Counters.{with_locks, adopting, entering}
use Rattle.protocol.specs.Work.{Work, settings, n, own, view_now, timed, send, adopt, enter_by, keep_commit, send_commit}
use Rattle.protocol.specs.Applies.{timeouts_kept, votes_for, AppliesA, AppliesB}

-- ---- the windows, by their ends
pub record InWindow (first view u : ℕ) : Type 0 where
  pub from : first ≤ u
  pub to : u ≤ view + 3
  pub below : u < last_view

pub timeout_window : (view u : ℕ) → in_timeout_window view u ≡ true → InWindow view view u
unfolding in_timeout_window
timeout_window view u e =
    let p = and_true (leb view u) (leb u (highest view)) e in
    let a = leb-true view u p.0 in
    let b = leb-true u (highest view) p.1 in
    record { from = a; to = omega arith; below = omega arith }

pub in_timeouts : (view u : ℕ) → InWindow view view u → in_timeout_window view u ≡ true
unfolding in_timeout_window
in_timeouts view u w = rw (le-leb view u w.from, le-leb u (highest view) (omega (arith, w.to, w.below)))

pub ballot_window : (view u : ℕ) → in_ballot_window view u ≡ true → InWindow (lowest view) view u
unfolding in_ballot_window
ballot_window view u e =
    let p = and_true (leb (lowest view) u) (leb u (highest view)) e in
    let a = leb-true (lowest view) u p.0 in
    let b = leb-true u (highest view) p.1 in
    record { from = a; to = omega arith; below = omega arith }

pub in_ballots : (view u : ℕ) → InWindow (lowest view) view u → in_ballot_window view u ≡ true
unfolding in_ballot_window
in_ballots view u w = rw (le-leb (lowest view) u w.from, le-leb u (highest view) (omega (arith, w.to, w.below)))

-- ---- the tables of which B and C add to none: votes and timeouts
abbrev pub NoCommits : Table → Type 0
NoCommits votes = Unit {0}
NoCommits commits = ⊥
NoCommits timeouts = Unit {0}

abbrev pub SameRow : Table → ℕ → Work → Work → Type 0
SameRow t u W W' = part W'.memory (row_of t u) (size_of t) ≡ part W.memory (row_of t u) (size_of t)

pub record Advanced (W W' : Work) : Type 0 where
  pub settings_stay : settings W' ≡ settings W
  pub timed_stays : timed W' ≡ timed W
  pub view_rises : view_now W ≤ view_now W'
  pub same : (t : Table) → NoCommits t → (u : ℕ) → Windowed t (view_now W') u → u ≤ view_now W + 3 → SameRow t u W W'
  pub none : (t : Table) → NoCommits t → (u : ℕ) → Windowed t (view_now W') u → view_now W + 3 < u → (i : ℕ) → has W'.memory (row_of t u) i ≡ false

-- ---- adopting alone
pub advanced_adopt : (W : Work) (k : Certificate) → Advanced W (adopt W k)
unfolding adopt adopting with_locks
advanced_adopt W k = record {
  settings_stay = refl;
  timed_stays = refl;
  view_rises = omega arith;
  same = λ t c u w l. refl;
  none = λ t c u w l i. absurd (omega (arith, w.last));
}

-- ---- adopting, sending and entering the next view
module _ (W : Work) (k : Certificate) (r : List ℕ) (v : ℕ) (up : view_now W ≤ v) (fits : length r ≤ entry_room) (long : memory_length ≤ length W.memory) where
  entered_rows : (t : Table) (u : ℕ) → part (with_entry (entered W.memory (view_now W) (suc v)) r) (row_of t u) (size_of t) ≡ part (entered W.memory (view_now W) (suc v)) (row_of t u) (size_of t)
  entered_rows t u = entry_behind (entered W.memory (view_now W) (suc v)) r fits (row_of t u) (size_of t) (row_head t u)

  pub advanced_enter : Advanced W (enter_by (send (adopt W k) r) (suc v) r)
  unfolding adopt adopting with_locks enter_by entering
  advanced_enter = record {
    settings_stay = entry_settings (entered W.memory (view_now W) (suc v)) r ∙ settings_same W.memory (entered W.memory (view_now W) (suc v)) votes_place (entered_head W.memory (view_now W) (suc v)) (omega arith);
    timed_stays = refl;
    view_rises = omega arith;
    same = λ t c u w l. entered_rows t u ∙ entered_kept W.memory (view_now W) (suc v) t u w l;
    none = λ t c u w l i. has_same (entered W.memory (view_now W) (suc v)) _ (row_of t u) (width_of t) (entered_rows t u) i ∙ entered_none W.memory (view_now W) (suc v) long t u w l i;
  }

-- ---- sending a commit
commit_rows : (W : Work) (w : ℕ) (x : List ℕ) → length x ≡ name_length → own W < largest → (t : Table) → NoCommits t → (u : ℕ) → SameRow t u W (send_commit w x W)
unfolding send_commit keep_commit
commit_rows W w x l h t c u =
    keep_apart W.memory (row_of commits w) name_length (own W) x (row_of t u) (size_of t) l h (rows_apart t commits u w (λ e. absurd (subst NoCommits e c)))

pub advanced_commit : (W W₁ : Work) (w : ℕ) (x : List ℕ) → length x ≡ name_length → own W₁ < largest → Advanced W W₁ → Advanced W (send_commit w x W₁)
unfolding send_commit keep_commit
advanced_commit W W₁ w x l h A = record {
  settings_stay = settings_same W₁.memory _ votes_place (keep_head W₁.memory commits w (own W₁) x l h) (omega arith) ∙ A.settings_stay;
  timed_stays = A.timed_stays;
  view_rises = A.view_rises;
  same = λ t c u i b. commit_rows W₁ w x l h t c u ∙ A.same t c u i b;
  none = λ t c u i b j. has_same W₁.memory _ (row_of t u) (width_of t) (commit_rows W₁ w x l h t c u) j ∙ A.none t c u i b j;
}

-- ---- a row with no entry counts nothing
pub none_kept : (m : List ℕ) (row n : ℕ) → n ≤ largest → ((i : ℕ) → has m row i ≡ false) → kept_count m row n ≡ 0
unfolding counted
none_kept m row n h e = let z : n ≡ 0 + n = omega arith in kept_counted m row n (omega arith) ∙ ap (counted (has m row)) z ∙ counted_above (has m row) 0 n (λ i l. e i)

none_tallied : (m : List ℕ) (row : ℕ) (x : List ℕ) (n : ℕ) → ((i : ℕ) → has m row i ≡ false) → (tally m row x n).count ≡ 0
unfolding backs
none_tallied m row x n e = ap (λ (c : Tally). c.count) (tally_none m row x n (λ i l. rw (e i)))

kept_row : (m w : List ℕ) (row width n : ℕ) → part w row (row_size width) ≡ part m row (row_size width) → kept_count w row n ≡ kept_count m row n
unfolding kept_count
kept_row m w row width n e = rw (mask_same m w row width e)

-- ---- what is kept afterwards was kept before
module _ (W W' : Work) (small : n W ≤ largest) (A : Advanced W W') where
  pub n_stays : n W' ≡ n W
  n_stays = ap replicas A.settings_stay

  pub timeouts_before : (u : ℕ) → in_timeout_window (view_now W') u ≡ true → 0 < timeouts_kept u W' → InWindow (view_now W) (view_now W) u × (timeouts_kept u W' ≡ timeouts_kept u W)
  timeouts_before u e some =
      let i = timeout_window (view_now W') u e in
      let w : Windowed timeouts (view_now W') u = record { first = i.from; last = i.to } in
      let le : u ≤ view_now W + 3 = ⊎_elim (λ h. omega arith) (⊎_elim (λ h. omega arith)
      (λ (h : view_now W + 3 < u). absurd (omega (arith, none_kept W'.memory (timeout_row u) (n W') (omega (arith, n_stays)) (A.none timeouts tt u w h))))) (which u (view_now W + 3)) in (
        record { from = omega (arith, i.from, A.view_rises); to = le; below = i.below },
        kept_row W.memory W'.memory (timeout_row u) (width_of timeouts) (n W') (A.same timeouts tt u w le) ∙ ap (kept_count W.memory (timeout_row u)) n_stays,
      )

  pub votes_before : (u : ℕ) (x : List ℕ) → in_ballot_window (view_now W') u ≡ true → 0 < votes_for u W' x
      → InWindow (lowest (view_now W)) (view_now W) u × (tally W'.memory (vote_row u) x (n W') ≡ tally W.memory (vote_row u) x (n W))
  votes_before u x e some =
      let i = ballot_window (view_now W') u e in
      let w : Windowed votes (view_now W') u = record { first = i.from; last = i.to } in
      let le : u ≤ view_now W + 3 = ⊎_elim (λ h. omega arith) (⊎_elim (λ h. omega arith)
      (λ (h : view_now W + 3 < u). absurd (omega (arith, none_tallied W'.memory (vote_row u) x (n W') (A.none votes tt u w h))))) (which u (view_now W + 3)) in (
        record { from = omega (arith, i.from, A.view_rises); to = le; below = i.below },
        tally_row W.memory W'.memory (vote_row u) x (n W') (omega (arith, n_stays)) (A.same votes tt u w le) ∙ ap (tally W.memory (vote_row u) x) n_stays,
      )

  -- A and B apply nowhere where they did not apply before
  pub a_before : (u : ℕ) → AppliesA u W' → AppliesA u W
  a_before u a =
      let b = timeouts_before u a.window (omega (arith, a.enough)) in
      record {
        window = in_timeouts (view_now W) u b.0;
        untimed = omega (arith, a.untimed, A.timed_stays);
        enough = omega (arith, a.enough, b.1, ap (λ (s : Settings). s.f) A.settings_stay);
      }

  pub b_before : (u : ℕ) → AppliesB u W' → AppliesB u W
  b_before u a =
      let b = timeouts_before u a.window (omega (arith, a.enough)) in
      record { window = in_timeouts (view_now W) u b.0; enough = omega (arith, a.enough, b.1, ap timeout_quorum A.settings_stay) }

-- Which rules apply where only votes and commits of view 1 are kept, the votes all for one name, in any cluster: none of A and B; C with enough votes and no
-- lock, D with enough votes for the one held block. Assumes nothing.
use Prim.Native.Nat.{ℕ, ◌≤◌, ◌<◌}
use native.Mathlib.Omega.{arith}
use mathlib.Core.Path.{◌≡◌, refl, sym, ap, ◌∙◌}
use mathlib.Core.Bool.{Bool, true, false, cond, ◌&&◌, true≢false, false≢true}
use mathlib.Core.Logic.{inl, ⊎_elim}
use mathlib.Core.List.{List, [], ◌∷◌}
use borrow.Author.Tests.{eqb-true}
use lib.Dec.{eqb, lit<, lit≤}
use Rattle.settings.specs.declared.Settings.{Settings}
use Rattle.settings.specs.Quorum.{largest, replicas, block_quorum, slow_quorum, fast_quorum}
use Rattle.codec.specs.Names.{name_length, same_bytes}
use Rattle.codec.proofs.Order.{and_true, same_refl, same_eq, less_irrefl, ne_same, eq?}
use Rattle.certificate.specs.Rank.{block_certificate, outranks}
use Rattle.blocks.specs.declared.Block.{Block}
use Rattle.blocks.specs.Store.{found, missing, find, held, descends}
use Rattle.certificate.specs.declared.Tally.{Tally}
use Rattle.memory.specs.Layout.{vote_row, commit_row, timeout_row, settings_of}
use Rattle.memory.specs.Kept.{has, kept, kept_count, backs, tally}
use Rattle.memory.specs.Window.{in_ballot_window, in_timeout_window}
use Rattle.memory.proofs.Bits.{counted, counted_same, counted_le}
use Rattle.memory.proofs.Counting.{kept_counted, tally-counted, tally_kept, tally_none}
use Rattle.counters.specs.Counters.{locks_of}
use Rattle.protocol.specs.Work.{Work, n, view_now, tip, blocks, held_block}
use Rattle.protocol.specs.Applies.{NoA, NoB, NoC, NoD, Turn, by_c, by_d, run_c, run_d, votes_for, signers_for}
use Rattle.protocol.proofs.loop.Advance.{timeout_window, ballot_window, in_ballots, none_kept}
use Rattle.protocol.proofs.example.Rows.{Rows}

-- ---- how many there are
module _ (x : List ℕ) (first : ℕ) (A C : ℕ → Bool) (m : List ℕ) (r : Rows x first A C m) (n : ℕ) (small : n ≤ largest) where
  no_timeouts : (v : ℕ) → first ≤ v → v ≤ 5 → kept_count m (timeout_row v) n ≡ 0
  no_timeouts v a b = none_kept m (timeout_row v) n small (λ j. r.untimed v j a b)

  under : (t : Bool) → (E : ℕ → Bool) (h : ℕ → Bool) → ((j : ℕ) → h j ≡ (t && E j)) → counted h n ≤ counted E n
  under t E h f = counted_le h E n (λ j l e. (and_true t (E j) (sym (f j) ∙ e)).1)

  votes_few : (v : ℕ) (y : List ℕ) → 1 ≤ v → v ≤ 5 → (tally m (vote_row v) y n).count ≤ counted A n
  votes_few v y a b =
      omega (arith, tally_kept m (vote_row v) y n (omega arith), kept_counted m (vote_row v) n (omega arith), under (eqb v 1) A (has m (vote_row v)) (λ j. r.voted v j a b))

  commits_few : (v : ℕ) (y : List ℕ) → 1 ≤ v → v ≤ 5 → (tally m (commit_row v) y n).count ≤ counted C n
  commits_few v y a b =
      omega (arith, tally_kept m (commit_row v) y n (omega arith), kept_counted m (commit_row v) n (omega arith), under (eqb v 1) C (has m (commit_row v)) (λ j. r.committed v j a b))

  -- who voted, backs the name
  votes_all : (tally m (vote_row 1) x n).count ≡ counted A n
  unfolding backs
  votes_all = tally-counted m (vote_row 1) x n ∙ counted_same (backs m (vote_row 1) x) A n (λ j l. rw (r.voted 1 j (lit≤ tt) (lit≤ tt)) (go j (omega arith) (A j) refl))
    where
      go : (j : ℕ) → j < largest → (t : Bool) → A j ≡ t → (A j && same_bytes (kept m (vote_row 1) name_length j) x) ≡ A j
      go j l true e = rw (e, r.named j l e) (same_refl x)
      go j l false e = rw e

  -- no other name has votes, and none in another view
  votes_name : (v : ℕ) (y : List ℕ) → 1 ≤ v → v ≤ 5 → 0 < (tally m (vote_row v) y n).count → (v ≡ 1) × (x ≡ y)
  unfolding backs
  votes_name v y a b p = by_view (eqb v 1) refl
    where
      none : ((j : ℕ) → j < n → backs m (vote_row v) y j ≡ false) → ⊥
      none f = omega (arith, p, ap (λ (t : Tally). t.count) (tally_none m (vote_row v) y n f))

      differs : (v ≡ 1) → (x ≡ y → ⊥) → (j : ℕ) → j < largest → (t : Bool) → A j ≡ t → (has m (vote_row v) j && same_bytes (kept m (vote_row v) name_length j) y) ≡ false
      differs e d j l true z = rw (e, r.voted 1 j (lit≤ tt) (lit≤ tt), z, r.named j l z) (ne_same x y d)
      differs e d j l false z = rw (e, r.voted 1 j (lit≤ tt) (lit≤ tt), z)

      by_name : (v ≡ 1) → Dec (x ≡ y) → (v ≡ 1) × (x ≡ y)
      by_name e (yes d) = (e, d)
      by_name e (no d) = absurd (none (λ j l. differs e d j (omega arith) (A j) refl))

      by_view : (t : Bool) → eqb v 1 ≡ t → (v ≡ 1) × (x ≡ y)
      by_view true e = by_name (eqb-true v 1 e) (eq? x y)
      by_view false e = absurd (none (λ j l. rw (r.voted v j a b, e)))

-- ---- what is held above the tip, where one block or none is held beside it
module _ (W : Work) where
  only_held : (b : Block) → blocks W ≡ b ∷ [] → (y : List ℕ) → (held_block W y).is ≡ true → (tip W).height.0 < (held_block W y).block.height.0 → b.name ≡ y
  unfolding held find
  only_held b one y is above = go (same_bytes (tip W).name y) (same_bytes b.name y) refl (rw one at is) (rw one at above)
    where
      go : (s t : Bool) → same_bytes b.name y ≡ t → (cond s (found (tip W)) (cond t (found b) missing)).is ≡ true
          → (tip W).height.0 < (cond s (found (tip W)) (cond t (found b) missing)).block.height.0 → b.name ≡ y
      go true t e i a = absurd (omega arith)
      go false true e i a = same_eq b.name y e
      go false false e i a = absurd (false≢true i)

  pub no_d_none : blocks W ≡ [] → NoD W
  unfolding held find
  no_d_none none w y a = go (same_bytes (tip W).name y) (rw none at a.is_held) (rw none at a.above_tip)
    where
      go : (s : Bool) → (cond s (found (tip W)) missing).is ≡ true → (tip W).height.0 < (cond s (found (tip W)) missing).block.height.0 → ⊥
      go true i a = omega arith
      go false i a = false≢true i

-- ---- a replica of a cluster, in view 1 or 2
pub record Facts (set : Settings) (x : List ℕ) (first : ℕ) (A C : ℕ → Bool) (W : Work) : Type 0 where
  pub settings : settings_of W.memory ≡ set
  pub small : replicas set ≤ largest
  pub view : view_now W ≡ first
  pub low : 1 ≤ first
  pub high : first ≤ 2
  pub rows : Rows x first A C W.memory

module _ {set : Settings} {x : List ℕ} {first : ℕ} {A C : ℕ → Bool} {W : Work} (F : Facts set x first A C W) where
  n_is : n W ≡ replicas set
  n_is = ap replicas F.settings

  n_small : n W ≤ largest
  n_small = omega (arith, n_is, F.small)

  timeouts_in_lem : (w : ℕ) → in_timeout_window (view_now W) w ≡ true → (first ≤ w) × (w ≤ 5)
  timeouts_in_lem w e = let i = timeout_window (view_now W) w e in (omega (arith, i.from, F.view), omega (arith, i.to, F.view, F.high))

  ballots_in : (w : ℕ) → in_ballot_window (view_now W) w ≡ true → (1 ≤ w) × (w ≤ 5)
  ballots_in w e = let i = ballot_window (view_now W) w e in (omega (arith, i.from), omega (arith, i.to, F.view, F.high))

  pub no_a_lem : NoA W
  no_a_lem w a = let l = timeouts_in_lem w a.window in omega (arith, a.enough, no_timeouts x first A C W.memory F.rows (n W) n_small w l.0 l.1)

  pub no_b_lem : NoB W
  no_b_lem w a = let l = timeouts_in_lem w a.window in omega (arith, a.enough, no_timeouts x first A C W.memory F.rows (n W) n_small w l.0 l.1)

  -- enough votes for a name are votes of view 1 for x
  enough_votes_lem : (w : ℕ) (y : List ℕ) → in_ballot_window (view_now W) w ≡ true → 0 < votes_for w W y → (w ≡ 1) × (x ≡ y)
  enough_votes_lem w y e p = let l = ballots_in w e in votes_name x first A C W.memory F.rows (n W) n_small w y l.0 l.1 p

  all_votes : votes_for 1 W x ≡ counted A (replicas set)
  all_votes = votes_all x first A C W.memory F.rows (n W) n_small ∙ ap (counted A) n_is

  in_window : in_ballot_window (view_now W) 1 ≡ true
  in_window = in_ballots (view_now W) 1 (record { from = omega (arith, F.view, F.high); to = omega (arith, F.view); below = lit< tt })

  -- too few votes
  pub no_c_few : counted A (replicas set) < block_quorum set → NoC W
  no_c_few h w y a =
      let l = ballots_in w a.window in
      let k = votes_few x first A C W.memory F.rows (n W) n_small w y l.0 l.1 in
      omega (arith, a.enough, ap block_quorum F.settings, k, ap (counted A) n_is)

  -- a lock on x in view 1
  pub no_c_locked : (g : ℕ) → (locks_of W.counters).lock ≡ block_certificate 1 x g → NoC W
  unfolding outranks
  no_c_locked g e w y a =
      let (v, z) = enough_votes_lem w y a.window (omega (arith, a.enough)) in
      true≢false (sym a.higher ∙ rw (e, v, ← z) (less_irrefl x))

  -- enough voted for x, above the lock
  pub turn_c : block_quorum set ≤ counted A (replicas set) → outranks (block_certificate 1 x (signers_for 1 W x)) (locks_of W.counters).lock ≡ true → Turn W (run_c 1 x W)
  turn_c h o =
      by_c 1 x no_a_lem no_b_lem
      (record {
        here = record { window = in_window; enough = omega (arith, h, ap block_quorum F.settings, all_votes); higher = o };
        no_lower = λ v y l a. omega (arith, ballots_in v a.window, l);
        no_smaller = λ y l a. true≢false (sym l ∙ rw (← (enough_votes_lem 1 y a.window (omega (arith, a.enough))).1) (less_irrefl x));
      })

  -- too few votes and commits
  pub no_d_few : counted A (replicas set) < fast_quorum set → counted C (replicas set) < slow_quorum set → NoD W
  no_d_few h hc w y a =
      let l = ballots_in w a.window in
      let v = votes_few x first A C W.memory F.rows (n W) n_small w y l.0 l.1 in
      let c = commits_few x first A C W.memory F.rows (n W) n_small w y l.0 l.1 in
      ⊎_elim (λ p. omega (arith, h, p, ap fast_quorum F.settings, v, ap (counted A) n_is)) (λ p. omega (arith, hc, p, ap slow_quorum F.settings, c, ap (counted C) n_is)) a.enough

  -- enough voted for x, the one block that is held beside the tip
  pub turn_d : NoC W → fast_quorum set ≤ counted A (replicas set) → (b : Block) → blocks W ≡ b ∷ [] → (held_block W x).is ≡ true → (tip W).height.0 < (held_block W x).block.height.0
      → descends (tip W) (blocks W) (held_block W x).block ≡ true → Turn W (run_d 1 x W)
  turn_d c h b one is above down =
      by_d 1 x no_a_lem no_b_lem c
      (record {
        here = record { window = in_window; enough = inl (omega (arith, h, ap fast_quorum F.settings, all_votes)); is_held = is; above_tip = above; leads_down = down };
        no_lower = λ v y l a. omega (arith, ballots_in v a.window, l);
        no_smaller = λ y l a. true≢false (sym l ∙ rw (← (only_held W b one y a.is_held a.above_tip), only_held W b one x is above) (less_irrefl x));
      })

-- Rule C at the views of the window, ascending: each run is a turn of the loop, and afterwards neither A nor B nor C applies anywhere. Assumes nothing.
use mathlib.Core.Path.{◌≡◌, refl, sym, ap, subst, ◌∙◌}
use mathlib.Core.Logic.{inl, ⊎_elim}
use mathlib.Core.Bool.{Bool, true, false, ◌&&◌, ◌||◌, true≢false}
use mathlib.Core.List.{List}
use Prim.Native.Nat.{ℕ, suc, ◌+◌, ◌≤◌, ◌<◌, max}
use native.Mathlib.Nat.{lt_of_lt_of_le}
use native.Mathlib.Omega.{arith}
use borrow.Author.Tests.{leb-true, le-leb, lt-leb, eq-eqb}
use lib.Dec.{leb}
use lib.Pow.{pow_mono}
use Rattle.settings.specs.Quorum.{block_quorum}
use Rattle.codec.specs.Names.{less_bytes}
use Rattle.codec.proofs.Order.{and_true, which, less_total}
use Rattle.certificate.specs.declared.Certificate.{Certificate}
use Rattle.certificate.specs.Rank.{block_certificate, outranks}
use Rattle.certificate.proofs.Order.{outranks_trans}
use Rattle.certificate.specs.declared.Tally.{Tally}
use Rattle.memory.specs.Layout.{vote_row, commit_row}
use Rattle.memory.specs.Kept.{tally}
use Rattle.memory.specs.Window.{lowest, highest}
use Rattle.memory.specs.Decided.{Choice, no_choice, decided, next_decided}
use Rattle.memory.specs.Decided
use Rattle.memory.proofs.Apart.{votes, row_fits}
use Rattle.memory.proofs.Rows.{tally-count, tally-signers}
use Rattle.memory.proofs.Choosing.{Candidate, next_least, next_candidate}
use Rattle.protocol.specs.Work.{Work, settings, n, view_now}
use Rattle.protocol.specs.Rules.{rule_c, enough_votes, each, ballot_views}
use Rattle.protocol.specs.Applies.{votes_for, signers_for, AppliesC, run_c, NoA, NoB, NoC, by_c, rest, turn}
use Rattle.protocol.proofs.call.Regular.{Regular}
use Rattle.protocol.proofs.call.Rules.{c_regular}
use Rattle.protocol.proofs.loop.Backed.{backed_entry, entry_name}
use Rattle.protocol.proofs.loop.Advance.{ballot_window, in_ballots, Advanced, votes_before, a_before, b_before}
use Rattle.protocol.proofs.loop.Lock.{lock_of, Locked, locked_block}
use Rattle.protocol.proofs.Branch.{by_cases}
use Rattle.protocol.proofs.loop.Turns.{Reaches, each_reaches}

-- ---- rank: it does not depend on the signers, the smaller name of a view ranks above, and what ranks above is of a view at least as high
signers_aside : (v : ℕ) (x : List ℕ) (g h : ℕ) (k : Certificate) → outranks (block_certificate v x g) k ≡ outranks (block_certificate v x h) k
unfolding outranks
signers_aside v x g h k = refl

smaller_outranks : (v : ℕ) (x y : List ℕ) (g h : ℕ) → outranks (block_certificate v x g) (block_certificate v y h) ≡ less_bytes x y
unfolding outranks
smaller_outranks v x y g h = rw (eq-eqb v v refl)

-- x is not above y: then its certificate ranks above whatever y's does
no_larger_outranks : (v : ℕ) (x y : List ℕ) (g h : ℕ) (k : Certificate) → less_bytes y x ≡ false → outranks (block_certificate v y h) k ≡ true → outranks (block_certificate v x g) k ≡ true
no_larger_outranks v x y g h k l o =
    ⊎_elim
    (λ a. outranks_trans true (block_certificate v x g) (block_certificate v y h) k (smaller_outranks v x y g h ∙ a) o)
    (⊎_elim (λ e. rw e (signers_aside v y g h k ∙ o)) (λ a. absurd (true≢false (sym a ∙ l))))
    (less_total x y)

-- ---- the name that rule C looks at: the least with enough votes
module _ (w : ℕ) (W : Work) where
  abbrev the_name : Choice
  the_name = next_decided W.memory (enough_votes w W) no_choice

  -- no name has more commits than there are replicas, so that votes alone decide
  by_votes : (x : List ℕ) → decided W.memory (enough_votes w W) x ≡ true → block_quorum (settings W) ≤ votes_for w W x
  unfolding decided
  by_votes x e =
      leb-true _ _ (go (leb (block_quorum (settings W)) (votes_for w W x)) (leb (suc (n W)) (tally W.memory (commit_row w) x (n W)).count)
      (lt-leb (suc (n W)) (tally W.memory (commit_row w) x (n W)).count (omega (arith, tally-count W.memory (commit_row w) x (n W)))) e)
    where
      go : (p q : Bool) → q ≡ false → (p || q) ≡ true → p ≡ true
      go true q f e = refl
      go false q f e = absurd (true≢false (sym e ∙ f))

  candidate : (x : List ℕ) → block_quorum (settings W) ≤ votes_for w W x → Candidate W.memory (enough_votes w W) no_choice x
  unfolding decided Decided.above
  candidate x h = record {
    entry = inl (backed_entry W.memory (vote_row w) x (n W) (omega arith));
    fit = record { enough = rw (le-leb (block_quorum (settings W)) (votes_for w W x) h); higher = refl };
  }

  abbrev test_c : Bool
  test_c = the_name.some && outranks (block_certificate w the_name.name 0) (lock_of W)

  -- if C applies at w at all, the test passes
  passes_c : (y : List ℕ) → AppliesC w y W → test_c ≡ true
  passes_c y a =
      let r = next_least W.memory (enough_votes w W) no_choice y (candidate y a.enough) in
      rw (r.some, no_larger_outranks w the_name.name y 0 (signers_for w W y) (lock_of W) r.least a.higher)

  -- if it passes C applies, and with no smaller name
  applies_c : lowest (view_now W) ≤ w → w ≤ highest (view_now W) → test_c ≡ true → AppliesC w the_name.name W
  applies_c lo hi e =
      let p = and_true the_name.some (outranks (block_certificate w the_name.name 0) (lock_of W)) e in
      let c = next_candidate W.memory (enough_votes w W) no_choice p.0 in
      record {
        window = in_ballots (view_now W) w (record { from = lo; to = omega arith; below = omega arith });
        enough = by_votes the_name.name c.fit.enough;
        higher = signers_aside w the_name.name (signers_for w W the_name.name) 0 (lock_of W) ∙ p.1;
      }

  none_smaller : (y : List ℕ) → less_bytes y the_name.name ≡ true → block_quorum (settings W) ≤ votes_for w W y → ⊥
  none_smaller y l h = true≢false (sym l ∙ (next_least W.memory (enough_votes w W) no_choice y (candidate y h)).least)

  runs_c : test_c ≡ true → rule_c w W ≡ run_c w the_name.name W
  unfolding rule_c
  runs_c e = rw e

-- ---- what running C leaves
locked_c : (w : ℕ) (x : List ℕ) (W : Work) → Regular W → AppliesC w x W → Locked W (run_c w x W) w (block_certificate w x (signers_for w W x))
locked_c w x W R a =
    let i = ballot_window (view_now W) w a.window in
    let e = backed_entry W.memory (vote_row w) x (n W) (omega (arith, a.enough)) in
    let name = entry_name W.memory (vote_row w) (n W) x R.few R.typed.memory (omega (arith, row_fits votes w, R.memory_long)) e in
    let word = lt_of_lt_of_le (tally-signers W.memory (vote_row w) x (n W)) (pow_mono {i = n W} {j = 64} (omega (arith, R.few))) in
    locked_block W R w x (signers_for w W x) i.below name word a.higher

-- C applies afterwards only where it applied before, if the lock has not sunk
pub c_before : (W W' : Work) → Regular W → Advanced W W' → ((c : Certificate) → outranks c (lock_of W') ≡ true → outranks c (lock_of W) ≡ true)
    → (u : ℕ) (y : List ℕ) → AppliesC u y W' → AppliesC u y W
c_before W W' R S risen u y a =
    let b = votes_before W W' R.few S u y a.window (omega (arith, a.enough)) in
    record {
      window = in_ballots (view_now W) u b.0;
      enough = omega (arith, a.enough, ap (λ (t : Tally). t.count) b.1, ap block_quorum S.settings_stay);
      higher = signers_aside u y (signers_for u W y) (signers_for u W' y) (lock_of W) ∙ risen (block_certificate u y (signers_for u W' y)) a.higher;
    }

-- before C runs at view w, if it has run at the views below, from the window of v on
record BelowC (v w : ℕ) (W : Work) : Type 0 where
  regular : Regular W
  no_a : NoA W
  no_b : NoB W
  from : v ≤ view_now W
  view_to : view_now W ≤ max v w
  up_to : (u : ℕ) (y : List ℕ) → AppliesC u y W → u ≤ v + 3
  none_below : (u : ℕ) (y : List ℕ) → u < w → AppliesC u y W → ⊥

-- forming the certificate of w and x: the lock is of w and x, and C applies no more at w or below
step_c : (v w : ℕ) (W : Work) → lowest v ≤ w → w ≤ highest v → BelowC v w W → Reaches (BelowC v (suc w)) W (rule_c w W)
unfolding rule_c
step_c v w W lo hi D = by_cases (Reaches (BelowC v (suc w)) W) (test_c w W) (run_c w x W) W runs stays
  where
    x : List ℕ
    x = (the_name w W).name

    runs : test_c w W ≡ true → Reaches (BelowC v (suc w)) W (run_c w x W)
    runs t =
        let R = D.regular in
        let a = applies_c w W (omega (arith, lo, D.view_to)) (omega (arith, hi, D.from)) t in
        let i = ballot_window (view_now W) w a.window in
        let k = block_certificate w x (signers_for w W x) in
        let W' = run_c w x W in
        let L = locked_c w x W R a in
        let S = L.advanced in
        let before : (u : ℕ) (y : List ℕ) → AppliesC u y W' → AppliesC u y W =
        c_before W W' R S (λ c e. outranks_trans true c k (lock_of W) (ap (outranks c) (sym L.lock) ∙ e) a.higher) in
        record {
          by = turn (by_c w x D.no_a D.no_b (record { here = a; no_lower = D.none_below; no_smaller = λ y l b. none_smaller w W y l b.enough })) rest;
          so = record {
            regular = subst Regular (runs_c w W t) (c_regular W w i.below R).0;
            no_a = λ u b. D.no_a u (a_before W W' R.few S u b);
            no_b = λ u b. D.no_b u (b_before W W' R.few S u b);
            from = omega (arith, D.from, S.view_rises);
            view_to = omega (arith, L.view, D.view_to);
            up_to = λ u y b. D.up_to u y (before u y b);
            none_below = λ u y m b. ⊎_elim (λ l. D.none_below u y l (before u y b))
                (⊎_elim
                (λ e.
                let c : AppliesC w y W = subst (λ (z : ℕ). AppliesC z y W) e (before u y b) in
                let d : outranks (block_certificate u y (signers_for u W' y)) k ≡ true = ap (outranks (block_certificate u y (signers_for u W' y))) (sym L.lock) ∙ b.higher in
                let l : less_bytes y x ≡ true =
                sym (smaller_outranks w y x (signers_for u W' y) (signers_for w W x))
                ∙ subst (λ (z : ℕ). outranks (block_certificate z y (signers_for u W' y)) k ≡ true) e d in
                none_smaller w W y l c.enough)
                (λ l. omega arith)) (which u w);
          };
        }

    stays : test_c w W ≡ false → Reaches (BelowC v (suc w)) W W
    stays t = record {
      by = rest;
      so = record {
        regular = D.regular;
        no_a = D.no_a;
        no_b = D.no_b;
        from = D.from;
        view_to = omega (arith, D.view_to);
        up_to = D.up_to;
        none_below = λ u y m a. ⊎_elim (λ l. D.none_below u y l a)
            (⊎_elim (λ e. true≢false (sym (passes_c w W y (subst (λ (z : ℕ). AppliesC z y W) e a)) ∙ t)) (λ l. omega arith)) (which u w);
      };
    }

pub record AfterC (W : Work) : Type 0 where
  pub regular : Regular W
  pub no_a : NoA W
  pub no_b : NoB W
  pub no_c : NoC W

pub phase_c_lem : (W : Work) → Regular W → NoA W → NoB W → Reaches AfterC W (each rule_c (lowest (view_now W)) (ballot_views W) W)
phase_c_lem W R N M =
    let v = view_now W in
    let k = ballot_views W in
    let r = each_reaches (BelowC v) rule_c (lowest v) (lowest v + k) (λ w X lo hi D. step_c v w X lo (omega arith) D) k (lowest v) W (omega arith) refl
    (record {
      regular = R;
      no_a = N;
      no_b = M;
      from = omega arith;
      view_to = omega arith;
      up_to = λ u y a. (ballot_window v u a.window).to;
      none_below = λ u y l a. omega (arith, (ballot_window v u a.window).from);
    }) in
    let D = r.so in
    record {
      by = r.by;
      so = record {
        regular = D.regular;
        no_a = D.no_a;
        no_b = D.no_b;
        no_c = λ u y a. let i = ballot_window _ u a.window in let b = D.up_to u y a in D.none_below u y (omega (arith, i.from, i.below, D.from)) a;
      };
    }

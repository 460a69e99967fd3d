-- Rule D, as often as there are held blocks: each run is a turn of the loop, and afterwards no rule applies. Assumes nothing.
use mathlib.Core.Path.{◌≡◌, refl, sym, ap, subst, ◌∙◌}
use mathlib.Core.Logic.{◌⊎◌, inl, inr, ⊎_elim}
use mathlib.Core.Bool.{Bool, true, false, cond, true≢false, false≢true}
use mathlib.Core.List.{List}
use Prim.Native.Nat.{ℕ, zero, suc, ◌+◌, ◌≤◌, ◌<◌}
use native.Mathlib.Omega.{arith}
use lib.ListN.{length, take, length-take}
use Rattle.codec.specs.Names.{less_bytes}
use Rattle.codec.proofs.Order.{which}
use Rattle.certificate.specs.Rank.{outranks}
use Rattle.blocks.specs.declared.Block.{Block}
use Rattle.blocks.specs.Store.{kept, dropped}
use Rattle.blocks.proofs.Kept.{dropped_held}
use Rattle.blocks.proofs.Linked.{In}
use Rattle.blocks.proofs.Fewer.{descends_higher, held_entry, kept_fewer}
use Rattle.memory.specs.Layout.{block_count_of}
use Rattle.memory.specs.Decided.{Choice}
use Rattle.memory.specs.Window.{lowest, highest}
use Rattle.memory.proofs.Apart.{row_of, size_of, row_head}
use Rattle.memory.proofs.Header.{count_behind, count_put, count_settings}
use Rattle.counters.specs.Counters.{locks_of, releasing}
use Rattle.protocol.specs.Work.{Work, view_now, tip, blocks, held_block, release}
use Rattle.protocol.specs.Rules.{Pair, lowest_pair, ballot_views, rule_d, again}
use Rattle.protocol.specs.Applies.{AppliesD, run_d, NoD, Done, First, by_d, rest, turn}
use Rattle.protocol.proofs.call.Regular.{Regular}
use Rattle.protocol.proofs.call.Rules.{d_regular}
use Rattle.protocol.proofs.loop.Advance.{ballot_window, in_ballots, Advanced, a_before, b_before}
use Rattle.protocol.proofs.loop.Lock.{lock_of}
use Rattle.protocol.proofs.loop.Turns.{Reaches}
use Rattle.protocol.proofs.loop.RuleC.{c_before, AfterC}
use Rattle.protocol.proofs.loop.Releasable.{Good, the_release, release_good, release_least, release_none}

-- ---- the lowest view, of k views from v on, with a name that can be released, and there the least name
record Finds (v k : ℕ) (W : Work) (p : Pair) : Type 0 where
  from : p.name.some ≡ true → v ≤ p.at
  to : p.name.some ≡ true → p.at < v + k
  good : p.name.some ≡ true → Good p.at W p.name.name
  least : p.name.some ≡ true → (y : List ℕ) → less_bytes y p.name.name ≡ true → Good p.at W y → ⊥
  lower : p.name.some ≡ true → (u : ℕ) (y : List ℕ) → v ≤ u → u < p.at → Good u W y → ⊥
  none : p.name.some ≡ false → (u : ℕ) (y : List ℕ) → v ≤ u → u < v + k → Good u W y → ⊥

pair_finds : (v k : ℕ) (W : Work) → Finds v k W (lowest_pair v k W)
unfolding lowest_pair
pair_finds v zero W = record {
  from = λ e. absurd (false≢true e);
  to = λ e. absurd (false≢true e);
  good = λ e. absurd (false≢true e);
  least = λ e. absurd (false≢true e);
  lower = λ e. absurd (false≢true e);
  none = λ e u y a b g. omega arith;
}
pair_finds v (suc k) W = go (the_release v W).some refl (pair_finds (suc v) k W)
  where
    x : Choice
    x = the_release v W

    -- view v itself, and the views behind it
    first : (u : ℕ) → v ≤ u → (v ≡ u) ⊎ (suc v ≤ u)
    first u h = ⊎_elim (λ l. inr l) (⊎_elim (λ e. inl e) (λ l. absurd (omega arith))) (which v u)

    go : (t : Bool) → x.some ≡ t → Finds (suc v) k W (lowest_pair (suc v) k W) → Finds v (suc k) W (cond t (record { at = v; name = x }) (lowest_pair (suc v) k W))
    go true e F = record {
      from = λ _. omega arith;
      to = λ _. omega arith;
      good = λ _. release_good v W e;
      least = λ _. release_least v W e;
      lower = λ _ u y a b g. omega arith;
      none = λ f. absurd (true≢false (sym e ∙ f));
    }
    go false e F = record {
      from = λ f. omega (arith, F.from f);
      to = λ f. omega (arith, F.to f);
      good = F.good;
      least = F.least;
      lower = λ f u y a b g. ⊎_elim (λ d. release_none v W e y (subst (λ (z : ℕ). Good z W y) (sym d) g)) (λ m. F.lower f u y m b g) (first u a);
      none = λ f u y a b g. ⊎_elim (λ d. release_none v W e y (subst (λ (z : ℕ). Good z W y) (sym d) g)) (λ m. F.none f u y m (omega arith) g) (first u a);
    }

-- ---- D applies at the views of the window to the names that can be released
applies_good : (w : ℕ) (x : List ℕ) (W : Work) → AppliesD w x W → Good w W x
applies_good w x W a = record { enough = a.enough; is = a.is_held; down = a.leads_down }

good_applies : (w : ℕ) (x : List ℕ) (W : Work) → lowest (view_now W) ≤ w → w ≤ highest (view_now W) → Good w W x → AppliesD w x W
good_applies w x W lo hi g = record {
  window = in_ballots (view_now W) w (record { from = lo; to = omega arith; below = omega arith });
  enough = g.enough;
  is_held = g.is;
  above_tip = descends_higher (tip W) (blocks W) (held_block W x).block g.down;
  leads_down = g.down;
}

-- rule D runs at the first place at which it applies, or it applies nowhere
module _ (W : Work) where
  abbrev the_pair : Pair
  the_pair = lowest_pair (lowest (view_now W)) (ballot_views W) W

  first_d : the_pair.name.some ≡ true → First (λ v y. AppliesD v y W) the_pair.at the_pair.name.name
  first_d e =
      let F = pair_finds (lowest (view_now W)) (ballot_views W) W in
      record {
        here = good_applies the_pair.at the_pair.name.name W (F.from e) (omega (arith, F.from e, F.to e)) (F.good e);
        no_lower = λ v y l a. F.lower e v y (ballot_window (view_now W) v a.window).from l (applies_good v y W a);
        no_smaller = λ y l a. F.least e y l (applies_good the_pair.at y W a);
      }

  none_d : the_pair.name.some ≡ false → NoD W
  none_d e v y a =
      let F = pair_finds (lowest (view_now W)) (ballot_views W) W in
      let i = ballot_window (view_now W) v a.window in
      F.none e v y i.from (omega (arith, i.from, i.to, i.below)) (applies_good v y W a)

  runs_d : the_pair.name.some ≡ true → rule_d W ≡ run_d the_pair.at the_pair.name.name W
  unfolding rule_d
  runs_d e = rw e

-- ---- what a release leaves
module _ (w : ℕ) (b : Block) (W : Work) where
  advanced_d : Advanced W (release w b W)
  unfolding release releasing
  advanced_d = record {
    settings_stay = count_settings W.memory _;
    timed_stays = refl;
    view_rises = omega arith;
    same = λ t c u i l. count_behind W.memory _ (row_of t u) (size_of t) (omega (arith, row_head t u));
    none = λ t c u i l. absurd (omega (arith, i.last));
  }

  lock_d : lock_of (release w b W) ≡ lock_of W
  unfolding release releasing locks_of
  lock_d = refl

  -- the blocks that are held are those that descend from it
  blocks_d : Regular W → In b (blocks W) → blocks (release w b W) ≡ kept b (blocks W)
  unfolding release
  blocks_d R i =
      let k = block_count_of W.memory in
      let less = kept_fewer b (blocks W) i in
      let size = length-take k W.store in
      let put = count_put W.memory (length (kept b (blocks W))) (omega (arith, R.room)) (omega (arith, R.memory_long)) in
      ap (λ (c : ℕ). take c (dropped b k W.store)) put ∙ dropped_held b k W.store

  fewer_d : Regular W → In b (blocks W) → length (blocks (release w b W)) < length (blocks W)
  fewer_d R i = omega (arith, kept_fewer b (blocks W) i, ap length (blocks_d R i))

pub applied_in : (w : ℕ) (x : List ℕ) (W : Work) → AppliesD w x W → In (held_block W x).block (blocks W)
applied_in w x W a = held_entry (tip W) (blocks W) x a.is_held a.leads_down

-- where no block is held, D applies nowhere
empty_d : (W : Work) → length (blocks W) ≤ 0 → NoD W
empty_d W h w x a = omega (arith, kept_fewer (held_block W x).block (blocks W) (applied_in w x W a))

-- ---- again and again, as often as there are held blocks
pub record AfterD (W : Work) : Type 0 where
  pub regular : Regular W
  pub done : Done W

finished : (W : Work) → AfterC W → NoD W → AfterD W
finished W C N = record { regular = C.regular; done = record { no_a = C.no_a; no_b = C.no_b; no_c = C.no_c; no_d = N } }

released : (W : Work) → AfterC W → (e : (the_pair W).name.some ≡ true) → AfterC (run_d (the_pair W).at (the_pair W).name.name W)
released W C e =
    let w = (the_pair W).at in
    let b = (held_block W (the_pair W).name.name).block in
    let W' = release w b W in
    let R = C.regular in
    let S = advanced_d w b W in
    record {
      regular = subst Regular (runs_d W e) (d_regular W R).0;
      no_a = λ u a. C.no_a u (a_before W W' R.few S u a);
      no_b = λ u a. C.no_b u (b_before W W' R.few S u a);
      no_c = λ u y a. C.no_c u y (c_before W W' R S (λ c o. ap (outranks c) (sym (lock_d w b W)) ∙ o) u y a);
    }

again_d : (k : ℕ) (W : Work) → AfterC W → (length (blocks W) ≤ k) ⊎ NoD W → Reaches AfterD W (again k W)
unfolding again rule_d
again_d zero W C m = record { by = rest; so = finished W C (⊎_elim (empty_d W) (λ N. N) m) }
again_d (suc k) W C m = go (the_pair W).name.some refl (λ X. again_d k X)
  where
    go : (t : Bool) → (the_pair W).name.some ≡ t → ((X : Work) → AfterC X → (length (blocks X) ≤ k) ⊎ NoD X → Reaches AfterD X (again k X))
        → Reaches AfterD W (again k (cond t (run_d (the_pair W).at (the_pair W).name.name W) W))
    go false e f = f W C (inr (none_d W e))
    go true e f =
        let w = (the_pair W).at in
        let x = (the_pair W).name.name in
        let F = first_d W e in
        let less = fewer_d w (held_block W x).block W C.regular (applied_in w x W F.here) in
        let r = f (run_d w x W) (released W C e) (inl (⊎_elim (λ l. omega arith) (λ N. absurd (N w x F.here)) m)) in
        record { by = turn (by_d w x C.no_a C.no_b C.no_c F) r.by; so = r.so }

pub phase_d : (k : ℕ) (W : Work) → AfterC W → length (blocks W) ≤ k → Reaches AfterD W (again k W)
phase_d k W C h = again_d k W C (inl h)

-- The search goes on as `releasable` and `lowest_pair` do: one step of it, where it begins, and that it reads nothing that was written. Assumes nothing.
use Prim.Native.Nat.{ℕ, zero, suc, ◌+◌, ◌-◌, ◌^◌, ◌≤◌, ◌<◌}
use native.Mathlib.Omega.{arith}
use mathlib.Core.Path.{◌≡◌, refl, sym, ap, ◌∙◌}
use mathlib.Core.Bool.{Bool, true, false, cond, ◌&&◌, true≢false}
use mathlib.Core.List.{List}
use borrow.Author.Tests.{lt-ltb, ltb-true, ltb-false}
use lib.Dec.{ltb}
use Rattle.std.specs.Prelude.{Option, Some, None}
use Rattle.settings.specs.declared.Settings.{Settings}
use Rattle.settings.specs.Quorum.{largest, last_view, replicas, fast_quorum, slow_quorum}
use Rattle.blocks.specs.declared.Block.{Block}
use Rattle.codec.proofs.Order.{and_true}
use Rattle.blocks.specs.Store.{Found, found, missing, held, descends}
use Rattle.memory.specs.declared.decided.Quorums.{Quorums}
use Rattle.memory.specs.Layout.{settings_of}
use Rattle.memory.specs.Window.{lowest, highest}
use Rattle.memory.specs.Decided.{Choice, Decision, no_choice, chosen, choice_of, decision, next_decided, too_few, alone, likely, find_decided}
use Rattle.memory.proofs.Passing.{few_none}
use Rattle.memory.proofs.Sole.{sole_last}
use Rattle.counters.specs.declared.Counters.{Counters}
use Rattle.protocol.specs.Work.{Work, n, view_now, tip, blocks, held_block}
use Rattle.protocol.specs.Rules.{tries, enough_to_release, releasable, Pair, lowest_pair, ballot_views}
use Rattle.release.specs.Search.{standing, known_by, seen, target, after_of, pair_from, target_of, target_from, lowest_target, first_place, views_after, quorums_of, leading, next_view, at_next_view, passing, passed, steps_left, Follows}
use Rattle.release.specs.declared.Place.{Place}
use Rattle.release.specs.declared.Step.{Step}
use Rattle.release.specs.declared.Step.TheVariants.{On, Ends}
use Rattle.release.specs.declared.Target.{Target}

-- ---- no quorum is empty
pub some_fast : (s : Settings) {z : ℕ} → z ≡ fast_quorum s → 1 ≤ z
some_fast s e = omega (arith, e)

pub some_slow : (s : Settings) {z : ℕ} → z ≡ slow_quorum s → 1 ≤ z
some_slow s e = omega (arith, e)

-- ---- a view's names above a, of which j are tried at most, and the k views after it
abbrev pair_at : ℕ → Choice → ℕ → ℕ → Work → Pair
pair_at v a k j W = let x = releasable v W j a in cond x.some (record { at = v; name = x }) (lowest_pair (suc v) k W)

next_pair : (v k : ℕ) (W : Work) → 0 < k → lowest_pair (suc v) k W ≡ pair_at (v + 1) no_choice (k - 1) (tries W) W
unfolding lowest_pair
next_pair v zero W h = absurd (omega (arith, h))
next_pair v (suc k) W h = let e : v + 1 ≡ suc v = omega arith in let f : suc k - 1 ≡ k = omega arith in rw (e, f) refl

-- no name of the view is left
view_ends : (p : Place) (W : Work) → n W ≤ largest → pair_from p W ≡ lowest_pair (suc p.view.0) p.views W → Follows p W (next_view W.memory p)
unfolding pair_from target_of lowest_pair target_from next_view steps_left
view_ends p W small e = go (ltb 0 p.views) refl
  where
    go : (t : Bool) → ltb 0 p.views ≡ t → Follows p W (cond t (On (at_next_view W.memory p)) (Ends None))
    go true h =
        let more : 0 < p.views = ltb-true 0 p.views h in
        (ap (λ (z : Pair). target_of z W) (sym (e ∙ next_pair p.view.0 p.views W more)), (omega (arith, small, more), omega (arith, more)))
    go false h = let none : p.views ≡ 0 = omega (arith, ltb-false 0 p.views h) in rw (e, none) refl

none_tried : (v : ℕ) (a : Choice) (k j : ℕ) (W : Work) → j < 1 → pair_at v a k j W ≡ lowest_pair (suc v) k W
unfolding releasable
none_tried v a k zero W h = refl
none_tried v a k (suc j) W h = absurd (omega (arith, h))

module _ (v : ℕ) (a : Choice) (W : Work) where
  abbrev x : Choice
  x = next_decided W.memory (enough_to_release v W) a

  abbrev releases : Bool
  releases = (held_block W x.name).is && descends (tip W) (blocks W) (held_block W x.name).block

  none_found : (k j : ℕ) → x.some ≡ false → pair_at v a k j W ≡ lowest_pair (suc v) k W
  unfolding releasable
  none_found k zero e = refl
  none_found k (suc j) e = rw e refl

  it_is : (k j : ℕ) → 1 ≤ j → x.some ≡ true → releases ≡ true → target_of (pair_at v a k j W) W ≡ Some (target v (held_block W x.name).block)
  unfolding releasable target_of
  it_is k zero h e f = absurd (omega (arith, h))
  it_is k (suc j) h e f = rw (e, f) refl

  it_is_not : (k j : ℕ) → 1 ≤ j → x.some ≡ true → releases ≡ false → pair_at v a k j W ≡ pair_at v x k (j - 1) W
  unfolding releasable
  it_is_not k zero h e f = absurd (omega (arith, h))
  it_is_not k (suc j) h e f = let g : suc j - 1 ≡ j = omega arith in rw (e, f, g) refl

-- the one name that a view decides is not to be released
names_done : (v : ℕ) (a : Choice) (W : Work) → n W ≤ largest → alone W.memory (enough_to_release v W) (likely W.memory (enough_to_release v W)) ≡ true
    → (k j : ℕ) → 1 ≤ j → (x v a W).some ≡ true → releases v a W ≡ false → pair_at v a k j W ≡ lowest_pair (suc v) k W
names_done v a W small only k j h e f =
    let q = enough_to_release v W in
    let here : Choice = x v a W in
    let last : next_decided W.memory q here ≡ no_choice = sole_last W.memory q small (likely W.memory q) only (some_fast (settings_of W.memory) refl) (some_slow (settings_of W.memory) refl) a e in
    it_is_not v a W k j h e f ∙ none_found v here W k (j - 1) (ap (λ (z : Choice). z.some) last)

-- ---- what is held of a name, if it leads to the tip
module _ (tip : Block) (store : List Block) (x : List ℕ) where
  abbrev of_name : Found
  of_name = held tip store x

  leading_some : (b : Block) → found b ≡ leading tip store x → ((of_name.is && descends tip store of_name.block) ≡ true) × (of_name.block ≡ b)
  unfolding leading
  leading_some b e = go (of_name.is && descends tip store of_name.block) refl e
    where
      go : (t : Bool) → (of_name.is && descends tip store of_name.block) ≡ t → found b ≡ cond t of_name missing → ((of_name.is && descends tip store of_name.block) ≡ true) × (of_name.block ≡ b)
      go true f e = (f, sym (ap (λ (z : Found). z.block) e))
      go false f e = absurd (true≢false (ap (λ (z : Found). z.is) e))

  leading_none : missing ≡ leading tip store x → (of_name.is && descends tip store of_name.block) ≡ false
  unfolding leading
  leading_none e = go (of_name.is && descends tip store of_name.block) refl e
    where
      go : (t : Bool) → (of_name.is && descends tip store of_name.block) ≡ t → missing ≡ cond t of_name missing → (of_name.is && descends tip store of_name.block) ≡ false
      go true f e = absurd (true≢false (sym (and_true _ _ f).0 ∙ sym (ap (λ (z : Found). z.is) e)))
      go false f e = f

-- ---- VIEWS THAT ARE PASSED OVER
-- the search from q is the search from p, and no longer
pub record Passes (p : Place) (W : Work) (q : Place) : Type 0 where
  pub same : target_from q W ≡ target_from p W
  pub steps : steps_left q ≤ steps_left p
  pub within : q.view.0 + q.views ≡ p.view.0 + p.views

module _ (W : Work) (small : n W ≤ largest) where
  one_passed : (p : Place) → too_few W.memory (quorums_of W.memory p.view.0) ≡ true → 1 ≤ p.views → Passes p W (at_next_view W.memory p)
  unfolding pair_from next_view
  one_passed p few more =
      let none : next_decided W.memory (enough_to_release p.view.0 W) (after_of p) ≡ no_choice = few_none W.memory (quorums_of W.memory p.view.0) small few (after_of p) in
      let f = rw (lt-ltb 0 p.views more) at (view_ends p W small (none_found p.view.0 (after_of p) W p.views p.tries (ap (λ (z : Choice). z.some) none))) in
      record {
        same = f.0;
        steps = omega (arith, f.1.0);
        within = omega (arith, more);
      }

  pub views_passed : (k : ℕ) (p : Place) → k ≤ p.views → Passes p W (passing k W.memory p)
  unfolding passing
  views_passed zero p h = record { same = refl; steps = omega arith; within = refl }
  views_passed (suc k) p h = go (too_few W.memory (quorums_of W.memory p.view.0)) refl (views_passed k (at_next_view W.memory p) (omega (arith, h)))
    where
      go : (t : Bool) → too_few W.memory (quorums_of W.memory p.view.0) ≡ t → Passes (at_next_view W.memory p) W (passing k W.memory (at_next_view W.memory p))
          → Passes p W (cond t (passing k W.memory (at_next_view W.memory p)) p)
      go false e r = record { same = refl; steps = omega arith; within = refl }
      go true e r =
          let o = one_passed p e (omega (arith, h)) in
          record { same = r.same ∙ o.same; steps = omega (arith, r.steps, o.steps); within = r.within ∙ o.within }

-- the place where they end, as the code takes it
pub passes : (tip : Block) (m : List ℕ) (entries : List Block) (p q : Place) → replicas (settings_of m) ≤ largest → q ≡ passed m p → Passes p (seen tip m entries) q
unfolding passed
passes tip m entries p q small e = rw e (views_passed (seen tip m entries) small p.views p (omega arith))

-- the loop: what is left to pass stays the same
pub pass_on : (m : List ℕ) (p : Place) → 1 ≤ p.views → too_few m (quorums_of m p.view.0) ≡ true → passed m (at_next_view m p) ≡ passed m p
unfolding passed passing
pass_on m p h few = go p.views refl h
  where
    go : (k : ℕ) → p.views ≡ k → 1 ≤ k → passing (p.views - 1) m (at_next_view m p) ≡ passing p.views m p
    go zero e l = absurd (omega (arith, l))
    go (suc k) e l = let f : suc k - 1 ≡ k = omega arith in rw (e, f, few) refl

pub pass_stop : (m : List ℕ) (p : Place) → too_few m (quorums_of m p.view.0) ≡ false → p ≡ passed m p
unfolding passed passing
pass_stop m p few = go p.views
  where
    go : (k : ℕ) → p ≡ passing k m p
    go zero = refl
    go (suc k) = rw few refl

pub pass_end : (m : List ℕ) (p : Place) → p.views ≤ 0 → p ≡ passed m p
unfolding passed passing
pass_end m p h = let e : p.views ≡ 0 = omega (arith, h) in rw e refl

-- ---- ONE STEP from a place: p is where the views that are passed over end, and what was found there is a name, if there is one, and whether the view decides no other
module _ (tip : Block) (m : List ℕ) (entries : List Block) (first p : Place) (small : replicas (settings_of m) ≤ largest) (p_is : p ≡ passed m first) (q : Quorums) (q_is : q ≡ quorums_of m p.view.0)
    (o : Option (List ℕ)) (only : Bool) (is : decision (choice_of o) only ≡ find_decided m q (after_of p)) where
  abbrev W : Work
  W = seen tip m entries

  from_first : (s : Step) → Follows p W s → Follows first W s
  from_first (On r) h = let over = passes tip m entries first p small p_is in (h.0 ∙ over.same, (omega (arith, over.steps, h.1.0), omega (arith, over.within, h.1.1)))
  from_first (Ends t) h = h ∙ (passes tip m entries first p small p_is).same

  abbrev here : Choice
  here = x p.view.0 (after_of p) W

  found_is : decision (choice_of o) only ≡ decision here (alone m (enough_to_release p.view.0 W) (likely m (enough_to_release p.view.0 W)))
  unfolding find_decided
  found_is = is ∙ ap (λ (z : Quorums). find_decided m z (after_of p)) q_is

  name_is : choice_of o ≡ here
  name_is = ap (λ (z : Decision). let y : Choice = record { some = z.some; name = z.name } in y) found_is

  -- no name of the view is left
  next : pair_from p W ≡ lowest_pair (suc p.view.0) p.views W → Follows first W (next_view m p)
  next e = from_first (next_view m p) (view_ends p W small e)

  pub untried : p.tries < 1 → Follows first W (next_view m p)
  unfolding pair_from
  untried h = next (none_tried p.view.0 (after_of p) p.views p.tries W h)

  pub nothing : o ≡ None → Follows first W (next_view m p)
  unfolding pair_from
  nothing e = next (none_found p.view.0 (after_of p) W p.views p.tries (ap (λ (z : Choice). z.some) (sym name_is ∙ ap choice_of e)))

  module _ (name : List ℕ) (e : o ≡ Some name) (some : 1 ≤ p.tries) where
    here_is : here ≡ chosen name
    here_is = sym name_is ∙ ap choice_of e

    there : here.some ≡ true
    there = ap (λ (z : Choice). z.some) here_is

    pub ends : (b : Block) → found b ≡ leading tip (blocks W) name → Follows first W (Ends (Some (record { view = p.view; block = b })))
    unfolding target_from pair_from
    ends b f =
        let l = leading_some tip (blocks W) name b f in
        from_first (Ends (Some (record { view = p.view; block = b })))
        (sym (it_is p.view.0 (after_of p) W p.views p.tries some there (rw here_is l.0) ∙ ap (λ (z : Choice). Some (target p.view.0 (held_block W z.name).block)) here_is ∙ ap (λ (z : Block). Some (target p.view.0 z)) l.1))

    module _ (f : missing ≡ leading tip (blocks W) name) where
      no : releases p.view.0 (after_of p) W ≡ false
      no = rw here_is (leading_none tip (blocks W) name f)

      pub done : only ≡ true → Follows first W (next_view m p)
      unfolding pair_from
      done g = next (names_done p.view.0 (after_of p) W small (sym (ap (λ (z : Decision). z.only) found_is) ∙ g) p.views p.tries some there no)

      pub another : Follows first W (On (record { view = p.view; after = Some name; views = p.views; tries = p.tries - 1 }))
      unfolding target_from pair_from steps_left
      another =
          from_first (On (record { view = p.view; after = Some name; views = p.views; tries = p.tries - 1 })) (
            ap (λ (z : Pair). target_of z W) (rw (← here_is) (sym (it_is_not p.view.0 (after_of p) W p.views p.tries some there no))),
            (omega (arith, some), omega arith),
          )

-- ---- WHERE IT BEGINS
module _ (m : List ℕ) (first : ℕ) where
  pub after_most : (k : ℕ) → views_after m first k ≤ k
  unfolding views_after
  after_most zero = omega arith
  after_most (suc k) = go (too_few m (quorums_of m (first + suc k))) (after_most k)
    where
      go : (t : Bool) → views_after m first k ≤ k → cond t (views_after m first k) (suc k) ≤ suc k
      go true h = omega (arith, h)
      go false h = omega arith

  -- the loop: what is left to leave out stays the same
  pub after_on : (k : ℕ) → 1 ≤ k → too_few m (quorums_of m (first + k)) ≡ true → views_after m first k ≡ views_after m first (k - 1)
  unfolding views_after
  after_on zero h few = absurd (omega (arith, h))
  after_on (suc k) h few = let e : suc k - 1 ≡ k = omega arith in rw (few, e) refl

  pub after_stop : (k : ℕ) → 1 ≤ k → too_few m (quorums_of m (first + k)) ≡ false → k ≡ views_after m first k
  unfolding views_after
  after_stop zero h some = absurd (omega (arith, h))
  after_stop (suc k) h some = rw some refl

  pub after_end : (k : ℕ) → k ≤ 0 → 0 ≡ views_after m first k
  unfolding views_after
  after_end zero h = refl
  after_end (suc k) h = absurd (omega (arith, h))

pub first_within : (v : ℕ) (m : List ℕ) → v ≤ last_view → (first_place v m).view.0 + (first_place v m).views < 2 ^ 63
unfolding first_place
first_within v m h = omega (arith, after_most m (lowest v) (highest v - lowest v))

module _ (W : Work) (small : n W ≤ largest) where
  abbrev lowest_of : ℕ → ℕ → Option Target
  lowest_of v k = target_of (lowest_pair v k W) W

  none_in : (v : ℕ) → too_few W.memory (quorums_of W.memory v) ≡ true → (k : ℕ) → lowest_pair v (suc k) W ≡ lowest_pair (suc v) k W
  unfolding pair_from lowest_pair
  none_in v few k =
      let none : next_decided W.memory (enough_to_release v W) no_choice ≡ no_choice = few_none W.memory (quorums_of W.memory v) small few no_choice in
      none_found v no_choice W k (tries W) (ap (λ (z : Choice). z.some) none)

  -- a last view that decides nothing is left out
  last_left : (k v : ℕ) → too_few W.memory (quorums_of W.memory (v + k)) ≡ true → lowest_of v (suc k) ≡ lowest_of v k
  unfolding target_of lowest_pair
  last_left zero v few = ap (λ (z : Pair). target_of z W) (none_in v (let e : v + 0 ≡ v = omega arith in rw e at few) 0)
  last_left (suc k) v few = go (releasable v W (tries W) no_choice).some (last_left k (suc v) (let e : v + suc k ≡ suc v + k = omega arith in rw e at few))
    where
      x : Choice
      x = releasable v W (tries W) no_choice

      go : (t : Bool) → lowest_of (suc v) (suc k) ≡ lowest_of (suc v) k
          → target_of (cond t (record { at = v; name = x }) (lowest_pair (suc v) (suc k) W)) W ≡ target_of (cond t (record { at = v; name = x }) (lowest_pair (suc v) k W)) W
      go true e = refl
      go false e = e

  trimmed : (v k : ℕ) → lowest_of v (suc (views_after W.memory v k)) ≡ lowest_of v (suc k)
  unfolding views_after
  trimmed v zero = refl
  trimmed v (suc k) = go (too_few W.memory (quorums_of W.memory (v + suc k))) refl (trimmed v k)
    where
      go : (t : Bool) → too_few W.memory (quorums_of W.memory (v + suc k)) ≡ t → lowest_of v (suc (views_after W.memory v k)) ≡ lowest_of v (suc k)
          → lowest_of v (suc (cond t (views_after W.memory v k) (suc k))) ≡ lowest_of v (suc (suc k))
      go true few e = e ∙ sym (last_left (suc k) v few)
      go false some e = refl

  pub begins : 1 ≤ view_now W → view_now W ≤ last_view → target_from (first_place (view_now W) W.memory) W ≡ lowest_target W
  unfolding pair_from lowest_pair target_from lowest_target first_place
  begins a b =
      let k = highest (view_now W) - lowest (view_now W) in
      let more : ballot_views W ≡ suc k = omega arith in
      trimmed (lowest (view_now W)) k ∙ ap (lowest_of (lowest (view_now W))) (sym more)

-- ---- IT READS TIP, MEMORY AND STORE
abbrev pub bare : Work → Work
bare W = seen (tip W) W.memory W.store

releasable-bare : (v : ℕ) (W : Work) (k : ℕ) (after : Choice) → releasable v W k after ≡ releasable v (bare W) k after
unfolding releasable
releasable-bare v W zero after = refl
releasable-bare v W (suc k) after = rw (releasable-bare v W k (next_decided W.memory (enough_to_release v W) after)) refl

pub pair_bare : (v k : ℕ) (W : Work) → lowest_pair v k W ≡ lowest_pair v k (bare W)
unfolding lowest_pair
pair_bare v zero W = refl
pair_bare v (suc k) W = rw (releasable-bare v W (tries W) no_choice, pair_bare (suc v) k W) refl

-- so does the search from a place on
pub from_seen : (p : Place) (c : Counters) (m : List ℕ) (entries : List Block) → target_from p (standing c m entries) ≡ target_from p (seen c.tip m entries)
unfolding target_from pair_from target_of
from_seen p c m entries =
    let W = standing c m entries in
    rw (releasable-bare p.view.0 W p.tries (after_of p), pair_bare (suc p.view.0) p.views W) refl

-- and so other counters and what was written are no matter
pub target_known : (W : Work) → lowest_target W ≡ lowest_target (standing (known_by W.counters.view W.counters.tip) W.memory W.store)
unfolding target_of lowest_target
target_known W =
    rw (
      pair_bare (lowest (view_now W)) (ballot_views W) W,
      pair_bare (lowest (view_now W)) (ballot_views W) (standing (known_by W.counters.view W.counters.tip) W.memory W.store),
    ) refl

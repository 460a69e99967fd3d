-- A name that a quorum backs in a row stands among the first entries of it, however many are left over; so each row is searched for its own quorum, and not to
-- its end. Assumes nothing.
use mathlib.Core.Path.{◌≡◌, refl, sym, ap, ◌∙◌}
use mathlib.Core.Logic.{◌⊎◌, inl, inr, ⊎_elim}
use mathlib.Core.Bool.{Bool, true, false, cond, ◌&&◌, ◌||◌, true≢false, false≢true}
use mathlib.Core.List.{List}
use Prim.Native.Nat.{ℕ, zero, suc, ◌+◌, ◌-◌, ◌≤◌, ◌<◌}
use native.Mathlib.Omega.{arith}
use borrow.Author.Tests.{lt-leb, leb-true, ltb-true}
use lib.Dec.{ltb}
use Rattle.settings.specs.Quorum.{largest}
use Rattle.codec.specs.Names.{name_length, less_bytes}
use Rattle.codec.proofs.Order.{and_true, same_eq, less_total}
use Rattle.memory.specs.declared.decided.Quorums.{Quorums}
use Rattle.memory.specs.Layout.{vote_row, commit_row}
use Rattle.memory.specs.Kept.{has, kept, kept_count, backs, tally}
use Rattle.memory.specs.Decided.{Choice, no_choice, improves, backed, decided, too_few, consider, choose, next_decided}
use Rattle.memory.proofs.Bits.{counted}
use Rattle.memory.proofs.Counting.{kept_counted, tally-counted, tally_kept, backs-has, backs_same}
use Rattle.memory.proofs.Choosing.{Entry, Candidate, Reached, Takes, considered, choose_from, choose_still, choose_reach, next_least, next_candidate, next_none}

-- ---- counting: what a longer count adds is no more than the entries that come in
module _ (t u : ℕ → Bool) (h : (i : ℕ) → t i ≡ true → u i ≡ true) where
  grows : (i k : ℕ) → counted t (i + k) + counted u i ≤ counted t i + counted u (i + k)
  unfolding counted
  grows i zero = let e : i + 0 ≡ i = omega arith in rw e (omega arith)
  grows i (suc k) = let e : i + suc k ≡ suc (i + k) = omega arith in rw e (go (t (i + k)) refl (u (i + k)) refl (grows i k))
    where
      go : (p : Bool) → t (i + k) ≡ p → (q : Bool) → u (i + k) ≡ q → counted t (i + k) + counted u i ≤ counted t i + counted u (i + k)
          → cond p (suc (counted t (i + k))) (counted t (i + k)) + counted u i ≤ counted t i + cond q (suc (counted u (i + k))) (counted u (i + k))
      go true e true f l = omega arith
      go true e false f l = absurd (true≢false (sym (h (i + k) e) ∙ f))
      go false e true f l = omega arith
      go false e false f l = l

module _ (m : List ℕ) (row : ℕ) (x : List ℕ) where
  -- a name that is backed at all has an entry
  entry_of : (i : ℕ) → 1 ≤ counted (backs m row x) i → Entry m row i x
  unfolding counted
  entry_of zero h = absurd (omega (arith, h))
  entry_of (suc i) h = go (backs m row x i) refl h (entry_of i)
    where
      go : (b : Bool) → backs m row x i ≡ b → 1 ≤ cond b (suc (counted (backs m row x) i)) (counted (backs m row x) i) → (1 ≤ counted (backs m row x) i → Entry m row i x) → Entry m row (suc i) x
      go true e l below = record { by = i; low = omega arith; there = backs-has m row x i e; name = same_eq (kept m row name_length i) x (backs_same m row x i e) }
      go false e l below = let r = below l in record { by = r.by; low = omega (arith, r.low); there = r.there; name = r.name }

  pub tally_entry : (n : ℕ) → 1 ≤ (tally m row x n).count → Entry m row n x
  tally_entry n h = entry_of n (rw (← tally-counted m row x n) h)

  -- what is left over is too little
  pub among_first : (i k quorum : ℕ) → i + k ≤ 64 → kept_count m row (i + k) < quorum + kept_count m row i → quorum ≤ (tally m row x (i + k)).count → Entry m row i x
  among_first i k quorum w few enough =
      entry_of i
      (omega (
        arith,
        grows (backs m row x) (has m row) (backs-has m row x) i k,
        enough,
        few,
        tally-counted m row x (i + k),
        kept_counted m row (i + k) w,
        kept_counted m row i (omega (arith, w)),
      ))

-- ---- ONE ROW, for its own quorum
module _ (m : List ℕ) (row n quorum : ℕ) (after best : Choice) (w : n ≤ 64) where
  abbrev test : List ℕ → Bool
  test = backed m row n quorum

  abbrev up_to : ℕ → Choice
  up_to = choose m row test after best

  -- behind the first i entries nothing better comes
  module _ (i : ℕ) (few : kept_count m row n < quorum + kept_count m row i) where
    stays : (k : ℕ) → i + k ≤ n → up_to (i + k) ≡ up_to i
    unfolding choose
    stays zero h = let e : i + 0 ≡ i = omega arith in rw e refl
    stays (suc k) h =
        let e : i + suc k ≡ suc (i + k) = omega arith in
        let same = stays k (omega (arith, h)) in
        rw e (⊎_elim (λ t. absurd (never same t)) (λ t. t.now ∙ same) (considered m row test after (i + k) (up_to (i + k))))
      where
        x : List ℕ
        x = kept m row name_length (i + k)

        never : up_to (i + k) ≡ up_to i → Takes m row test after (i + k) (up_to (i + k)) → ⊥
        never same t =
            let d : i + (n - i) ≡ n = omega (arith, h) in
            let first : Entry m row i x = among_first m row x i (n - i) quorum (omega (arith, w, h)) (rw d few) (rw d (leb-true quorum (tally m row x n).count t.fit.enough)) in
            let r : Reached (up_to (i + k)) x = rw same (choose_reach m row test after best i x first t.fit) in
            ⊎_elim (λ f. true≢false (sym r.some ∙ f)) (λ f. true≢false (sym f ∙ r.least)) t.less

    pub choose_enough : i ≤ n → up_to i ≡ up_to n
    choose_enough h = let d : i + (n - i) ≡ n = omega (arith, h) in sym (stays (n - i) (omega (arith, h))) ∙ ap up_to d

-- nothing found: the best so far was none, and stays
choose_none : (m : List ℕ) (row : ℕ) (test : List ℕ → Bool) (after best : Choice) (n : ℕ) → (choose m row test after best n).some ≡ false → choose m row test after best n ≡ best
unfolding choose
choose_none m row test after best zero h = refl
choose_none m row test after best (suc n) h =
    ⊎_elim
    (λ t. absurd (true≢false (sym (ap (λ (z : Choice). z.some) t.now) ∙ h)))
    (λ t. t.now ∙ choose_none m row test after best n (sym (ap (λ (z : Choice). z.some) t.now) ∙ h))
    (considered m row test after n (choose m row test after best n))

-- ---- BOTH ROWS
module _ (m : List ℕ) (q : Quorums) (after : Choice) (some-votes : 1 ≤ q.votes) (some-commits : 1 ≤ q.commits) where
  abbrev votes : ℕ
  votes = vote_row q.view.0

  abbrev commits : ℕ
  commits = commit_row q.view.0

  abbrev voted : Choice
  voted = choose m votes (backed m votes q.n q.votes) after no_choice q.n

  abbrev found : Choice
  found = choose m commits (backed m commits q.n q.commits) after voted q.n

  or_left : (a b : Bool) → a ≡ true → (a || b) ≡ true
  or_left true b e = refl
  or_left false b e = absurd (false≢true e)

  or_right : (a b : Bool) → b ≡ true → (a || b) ≡ true
  or_right true b e = refl
  or_right false b e = e

  or_either : (a b : Bool) → (a || b) ≡ true → (a ≡ true) ⊎ (b ≡ true)
  or_either true b e = inl refl
  or_either false b e = inr e

  found_candidate : found.some ≡ true → Candidate m q after found.name
  unfolding decided
  found_candidate =
      choose_from m commits (backed m commits q.n q.commits) after (Candidate m q after) voted q.n
      (λ x e f. record { entry = inr e; fit = record { enough = or_right (backed m votes q.n q.votes x) _ f.enough; higher = f.higher } })
      (choose_from m votes (backed m votes q.n q.votes) after (Candidate m q after) no_choice q.n
      (λ x e f. record { entry = inl e; fit = record { enough = or_left _ (backed m commits q.n q.commits x) f.enough; higher = f.higher } }) (λ e. absurd (false≢true e)))

  found_least : (y : List ℕ) → Candidate m q after y → Reached found y
  unfolding decided
  found_least y c =
      ⊎_elim
      (λ e.
      choose_still m commits (backed m commits q.n q.commits) after voted q.n y
      (choose_reach m votes (backed m votes q.n q.votes) after no_choice q.n y (tally_entry m votes y q.n (omega (arith, some-votes, leb-true q.votes (tally m votes y q.n).count e))) (record { enough = e; higher = c.fit.higher })))
      (λ e. choose_reach m commits (backed m commits q.n q.commits) after voted q.n y (tally_entry m commits y q.n (omega (arith, some-commits, leb-true q.commits (tally m commits y q.n).count e))) (record { enough = e; higher = c.fit.higher }))
      (or_either (backed m votes q.n q.votes y) (backed m commits q.n q.commits y) c.fit.enough)

  -- of two that are both the least there is, each is the other
  same_name : (x y : List ℕ) → less_bytes x y ≡ false → less_bytes y x ≡ false → x ≡ y
  same_name x y a b = ⊎_elim (λ e. absurd (true≢false (sym e ∙ a))) (λ r. ⊎_elim (λ e. e) (λ e. absurd (true≢false (sym e ∙ b))) r) (less_total x y)

  both : (c d : Choice) → c.some ≡ true → d.some ≡ true → c.name ≡ d.name → c ≡ d
  both c d a b e = ap (λ (t : Bool). record { some = t; name = c.name }) a ∙ ap (λ (x : List ℕ). record { some = true; name = x }) e ∙ ap (λ (t : Bool). record { some = t; name = d.name }) (sym b)

  nothing_found : found.some ≡ false → found ≡ no_choice
  nothing_found h =
      let e = choose_none m commits (backed m commits q.n q.commits) after voted q.n h in
      e ∙ choose_none m votes (backed m votes q.n q.votes) after no_choice q.n (sym (ap (λ (z : Choice). z.some) e) ∙ h)

  pub nothing_next : (next_decided m q after).some ≡ false → next_decided m q after ≡ no_choice
  unfolding next_decided
  nothing_next h =
      let e = choose_none m commits (decided m q) after _ q.n h in
      e ∙ choose_none m votes (decided m q) after no_choice q.n (sym (ap (λ (z : Choice). z.some) e) ∙ h)

  pub found_is_next : found ≡ next_decided m q after
  found_is_next = go found.some refl (next_decided m q after).some refl
    where
      go : (a : Bool) → found.some ≡ a → (b : Bool) → (next_decided m q after).some ≡ b → found ≡ next_decided m q after
      go true e true f =
          let r = next_least m q after found.name (found_candidate e) in
          let s = found_least (next_decided m q after).name (next_candidate m q after f) in
          both found (next_decided m q after) e f (same_name found.name (next_decided m q after).name r.least s.least)
      go true e false f = absurd (next_none m q after f found.name (found_candidate e))
      go false e true f = absurd (true≢false (sym (found_least (next_decided m q after).name (next_candidate m q after f)).some ∙ e))
      go false e false f = nothing_found e ∙ sym (nothing_next f)

-- ---- a view with too few entries has no decided name
module _ (m : List ℕ) (q : Quorums) (small : q.n ≤ largest) (few : too_few m q ≡ true) where
  none_decided : (x : List ℕ) → decided m q x ≡ false
  unfolding decided too_few
  none_decided x =
      let p = and_true (ltb (kept_count m (vote_row q.view.0) q.n) q.votes) (ltb (kept_count m (commit_row q.view.0) q.n) q.commits) few in
      let v : kept_count m (vote_row q.view.0) q.n < q.votes = ltb-true _ _ p.0 in
      let c : kept_count m (commit_row q.view.0) q.n < q.commits = ltb-true _ _ p.1 in
      let w : q.n ≤ 64 = omega arith in
      let a : (tally m (vote_row q.view.0) x q.n).count < q.votes = omega (arith, tally_kept m (vote_row q.view.0) x q.n w) in
      let b : (tally m (commit_row q.view.0) x q.n).count < q.commits = omega (arith, tally_kept m (commit_row q.view.0) x q.n w) in
      rw (lt-leb _ _ a, lt-leb _ _ b)

  none_chosen : (row : ℕ) (after best : Choice) (k : ℕ) → choose m row (decided m q) after best k ≡ best
  unfolding choose consider
  none_chosen row after best zero = refl
  none_chosen row after best (suc k) =
      rw (none_chosen row after best k, none_decided (kept m row name_length k)) (never (has m row k) (improves after best (kept m row name_length k)))
    where
      never : (s t : Bool) → cond (s && (t && false)) (record { some = true; name = kept m row name_length k }) best ≡ best
      never true true = refl
      never true false = refl
      never false t = refl

  pub few_none : (after : Choice) → next_decided m q after ≡ no_choice
  unfolding next_decided
  few_none after = rw (none_chosen (vote_row q.view.0) after no_choice q.n, none_chosen (commit_row q.view.0) after no_choice q.n)

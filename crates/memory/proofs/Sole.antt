-- Where fewer than a quorum have an entry for another name, no other name is backed; so a view in which that holds of a name decides that name or none.
-- Assumes nothing.
use mathlib.Core.Path.{◌≡◌, refl, sym, ap, ◌∙◌}
use mathlib.Core.Logic.{inl, inr}
use mathlib.Core.Bool.{Bool, true, false, cond, ◌&&◌, ◌||◌, true≢false, false≢true}
use mathlib.Core.List.{List}
use Rattle.std.proofs.Common.{Option}
use Rattle.std.specs.Bool.{then_some}
use Prim.Native.Nat.{ℕ, zero, suc, ◌+◌, ◌-◌, ◌≤◌, ◌<◌}
use native.Mathlib.Omega.{arith}
use borrow.Author.Tests.{leb-true, lt-leb, ltb-true}
use Rattle.settings.specs.Quorum.{largest}
use Rattle.codec.specs.Names.{name_length, zero_name, same_bytes}
use Rattle.codec.proofs.Order.{and_true, same_eq, same_refl, less_irrefl}
use Rattle.memory.specs.declared.decided.Quorums.{Quorums}
use Rattle.memory.specs.declared.decided.Standing.{Standing}
use Rattle.memory.specs.Layout.{vote_row, commit_row}
use Rattle.memory.specs.Kept.{has, kept, kept_count, backs, tally}
use Rattle.memory.specs.Decided.{Choice, no_choice, chosen, decision, choice_of, above, backed, alone_in, standing, alone, decided, next_decided, first_of, likely, find_decided}
use Rattle.memory.proofs.Bits.{counted}
use Rattle.memory.proofs.Counting.{kept_counted, tally-counted, backs-has, backs_same}
use Rattle.memory.proofs.Choosing.{Candidate, next_candidate, next_none}
use Rattle.memory.proofs.Passing.{tally_entry, nothing_next}

pub never : (t : Bool) → (t && false) ≡ false
never true = refl
never false = refl

-- ---- counting: two tests of which no number passes both
module _ (t u w : ℕ → Bool) (ht : (i : ℕ) → t i ≡ true → w i ≡ true) (hu : (i : ℕ) → u i ≡ true → w i ≡ true) (apart : (i : ℕ) → t i ≡ true → u i ≡ true → ⊥) where
  counted_apart : (n : ℕ) → counted t n + counted u n ≤ counted w n
  unfolding counted
  counted_apart zero = omega arith
  counted_apart (suc n) = go (t n) refl (u n) refl (w n) refl (counted_apart n)
    where
      go : (p : Bool) → t n ≡ p → (q : Bool) → u n ≡ q → (r : Bool) → w n ≡ r → counted t n + counted u n ≤ counted w n
          → cond p (suc (counted t n)) (counted t n) + cond q (suc (counted u n)) (counted u n) ≤ cond r (suc (counted w n)) (counted w n)
      go true e true f r g l = absurd (apart n e f)
      go true e false f true g l = omega (arith, l)
      go true e false f false g l = absurd (true≢false (sym (ht n e) ∙ g))
      go false e true f true g l = omega (arith, l)
      go false e true f false g l = absurd (true≢false (sym (hu n f) ∙ g))
      go false e false f true g l = omega (arith, l)
      go false e false f false g l = l

-- ---- ONE ROW
module _ (m : List ℕ) (row n quorum : ℕ) (w : n ≤ 64) (x y : List ℕ) (d : x ≡ y → ⊥) where
  -- nobody backs two names
  tally_apart : (tally m row x n).count + (tally m row y n).count ≤ kept_count m row n
  tally_apart =
      rw (tally-counted m row x n, tally-counted m row y n, kept_counted m row n w)
      (counted_apart (backs m row x) (backs m row y) (has m row) (backs-has m row x) (backs-has m row y)
      (λ i e f. d (sym (same_eq (kept m row name_length i) x (backs_same m row x i e)) ∙ same_eq (kept m row name_length i) y (backs_same m row y i f))) n)

  pub other_unbacked : alone_in m row n quorum x ≡ true → backed m row n quorum y ≡ false
  other_unbacked a = lt-leb quorum (tally m row y n).count (omega (arith, tally_apart, ltb-true (kept_count m row n - (tally m row x n).count) quorum a))

-- ---- BOTH ROWS
module _ (m : List ℕ) (q : Quorums) (small : q.n ≤ largest) (x : List ℕ) (sole : alone m q x ≡ true) where
  sole_decided : (y : List ℕ) → decided m q y ≡ true → x ≡ y
  unfolding decided alone
  sole_decided y e = go (same_bytes x y) refl
    where
      both : (alone_in m (vote_row q.view.0) q.n q.votes x ≡ true) × (alone_in m (commit_row q.view.0) q.n q.commits x ≡ true)
      both = and_true (alone_in m (vote_row q.view.0) q.n q.votes x) (alone_in m (commit_row q.view.0) q.n q.commits x) sole

      go : (t : Bool) → same_bytes x y ≡ t → x ≡ y
      go true f = same_eq x y f
      go false f =
          let d : x ≡ y → ⊥ = λ s. true≢false (sym (rw s (same_refl y)) ∙ f) in
          let v = other_unbacked m (vote_row q.view.0) q.n q.votes (omega arith) x y d both.0 in
          let c = other_unbacked m (commit_row q.view.0) q.n q.commits (omega arith) x y d both.1 in
          absurd (true≢false (sym e ∙ rw (v, c) refl))

  module _ (some-votes : 1 ≤ q.votes) (some-commits : 1 ≤ q.commits) where
    -- a decided name has an entry
    candidate : (after : Choice) → decided m q x ≡ true → above after x ≡ true → Candidate m q after x
    unfolding decided
    candidate after e a = go (backed m (vote_row q.view.0) q.n q.votes x) refl (backed m (commit_row q.view.0) q.n q.commits x) refl e
      where
        go : (s : Bool) → backed m (vote_row q.view.0) q.n q.votes x ≡ s → (t : Bool) → backed m (commit_row q.view.0) q.n q.commits x ≡ t → (s || t) ≡ true → Candidate m q after x
        go true f t g h = record { entry = inl (tally_entry m (vote_row q.view.0) x q.n (omega (arith, some-votes, leb-true q.votes _ f))); fit = record { enough = e; higher = a } }
        go false f true g h = record { entry = inr (tally_entry m (commit_row q.view.0) x q.n (omega (arith, some-commits, leb-true q.commits _ g))); fit = record { enough = e; higher = a } }
        go false f false g h = absurd (false≢true h)

    -- THE NEXT DECIDED NAME is x or none
    pub sole_next : (after : Choice) → next_decided m q after ≡ cond (decided m q x && above after x) (chosen x) no_choice
    sole_next after = go (next_decided m q after).some refl (decided m q x) refl (above after x) refl
      where
        next : Choice
        next = next_decided m q after

        is : next.some ≡ true → x ≡ next.name
        is e = sole_decided next.name (next_candidate m q after e).fit.enough

        go : (s : Bool) → next.some ≡ s → (t : Bool) → decided m q x ≡ t → (u : Bool) → above after x ≡ u → next ≡ cond (t && u) (chosen x) no_choice
        go true e true f true g = ap (λ (b : Bool). record { some = b; name = next.name }) e ∙ ap (λ (z : List ℕ). record { some = true; name = z }) (sym (is e))
        go true e true f false g = absurd (true≢false (sym (next_candidate m q after e).fit.higher ∙ ap (above after) (sym (is e)) ∙ g))
        go true e false f u g = absurd (true≢false (sym (next_candidate m q after e).fit.enough ∙ ap (decided m q) (sym (is e)) ∙ f))
        go false e true f true g = absurd (next_none m q after e x (candidate after f g))
        go false e true f false g = nothing_next m q after some-votes some-commits e
        go false e false f u g = nothing_next m q after some-votes some-commits e

    -- no name comes after one that was found
    pub sole_last : (after : Choice) → (next_decided m q after).some ≡ true → next_decided m q (next_decided m q after) ≡ no_choice
    unfolding above
    sole_last after e =
        let next = next_decided m q after in
        let is : next.name ≡ x = sym (sole_decided next.name (next_candidate m q after e).fit.enough) in
        let below : above next x ≡ false = rw (e, is) (less_irrefl x) in
        sole_next next ∙ rw (below, never (decided m q x)) refl

-- ---- the first entry of a row, as the code goes
module _ (m : List ℕ) (row : ℕ) where
  pub first_there : (i n : ℕ) → i < n → has m row i ≡ true → kept m row name_length i ≡ first_of m row i (n - i)
  unfolding first_of
  first_there i n h e = let f : n - i ≡ suc (n - suc i) = omega (arith, h) in rw (f, e) refl

  pub first_none : (i n : ℕ) → n ≤ i → first_of m row i (n - i) ≡ zero_name
  unfolding first_of
  first_none i n h = let f : n - i ≡ 0 = omega (arith, h) in rw f refl

  pub first_on : (i n : ℕ) → i < n → has m row i ≡ false → first_of m row i (n - i) ≡ first_of m row (i + 1) (n - (i + 1))
  unfolding first_of
  first_on i n h e =
      let f : n - i ≡ suc (n - suc i) = omega (arith, h) in
      let g : i + 1 ≡ suc i = omega arith in
      rw (f, g, e) refl

choice_then : (t : Bool) (x : List ℕ) → choice_of (then_some t x) ≡ cond t (chosen x) no_choice
choice_then true x = refl
choice_then false x = refl

-- ---- THE SURVEY, as the code takes it
module _ (m : List ℕ) (q : Quorums) (after : Choice) {x : List ℕ} {votes commits : ℕ} {v c : Standing} (is_x : x ≡ likely m q) (is-votes : votes ≡ vote_row q.view.0) (is-commits : commits ≡ commit_row q.view.0)
    (is-v : v ≡ standing m votes q.n q.votes x) (is_c : c ≡ standing m commits q.n q.commits x)
  where
    only_is : (v.alone && c.alone) ≡ alone m q (likely m q)
    unfolding standing alone
    only_is = rw (is-v, is_c, is-votes, is-commits, is_x) refl

    decided_is : (v.backed || c.backed) ≡ decided m q (likely m q)
    unfolding standing decided
    decided_is = rw (is-v, is_c, is-votes, is-commits, is_x) refl

    pub found_sole : q.n ≤ largest → 1 ≤ q.votes → 1 ≤ q.commits → (v.alone && c.alone) ≡ true → {t : Bool} {o : Option (List ℕ)} → t ≡ ((v.backed || c.backed) && above after x) → o ≡ then_some t x → decision (choice_of o) true ≡ find_decided m q after
    unfolding find_decided
    found_sole small some-votes some-commits a {t} e f =
        let only : alone m q (likely m q) ≡ true = sym only_is ∙ a in
        rw (f, choice_then t x, e, decided_is, is_x, sole_next m q small (likely m q) only some-votes some-commits after, only) refl

    pub found_by_search : (v.alone && c.alone) ≡ false → {y : Choice} → y ≡ next_decided m q after → decision y false ≡ find_decided m q after
    unfolding find_decided
    found_by_search a e = rw (e, sym only_is ∙ a) refl

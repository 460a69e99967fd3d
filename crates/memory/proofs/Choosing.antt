-- Choosing: the name that is found is the least of those that are decided and above the bound, and if none is found there is none. Assumes nothing.
use mathlib.Core.Path.{◌≡◌, refl, sym, ap, ◌∙◌}
use mathlib.Core.Logic.{◌⊎◌, inl, inr, ⊎_elim}
use mathlib.Core.Bool.{Bool, true, false, not, ◌&&◌, ◌||◌, true≢false, false≢true}
use mathlib.Core.List.{List}
use Prim.Native.Nat.{ℕ, zero, suc, ◌<◌}
use native.Mathlib.Omega.{arith}
use borrow.Author.Tests.{eqb-true, eqb-false}
use lib.Dec.{eqb}
use Rattle.codec.specs.Names.{name_length, less_bytes}
use Rattle.codec.proofs.Order.{less_irrefl, less_trans}
use Rattle.memory.specs.declared.decided.Quorums.{Quorums}
use Rattle.memory.specs.Layout.{vote_row, commit_row}
use Rattle.memory.specs.Kept.{has, kept}
use Rattle.memory.specs.Decided.{Choice, no_choice, chosen, above, improves, decided, consider, choose, next_decided}

-- x is an entry of one of the first n replicas in a row
pub record Entry (m : List ℕ) (row n : ℕ) (x : List ℕ) : Type 0 where
  pub by : ℕ
  pub low : by < n
  pub there : has m row by ≡ true
  pub name : kept m row name_length by ≡ x

-- x passes the test and is above the bound
pub record Fit (test : List ℕ → Bool) (after : Choice) (x : List ℕ) : Type 0 where
  pub enough : test x ≡ true
  pub higher : above after x ≡ true

-- a name that may be found: kept for the view as a vote or as a commit, and fit
pub record Candidate (m : List ℕ) (q : Quorums) (after : Choice) (x : List ℕ) : Type 0 where
  pub entry : Entry m (vote_row q.view.0) q.n x ⊎ Entry m (commit_row q.view.0) q.n x
  pub fit : Fit (decided m q) after x

-- the best so far is there, and x is not less
pub record Reached (best : Choice) (x : List ℕ) : Type 0 where
  pub some : best.some ≡ true
  pub least : less_bytes x best.name ≡ false

-- ---- replica i's entry is considered: it is taken, or the best so far stays
pub record Takes (m : List ℕ) (row : ℕ) (test : List ℕ → Bool) (after : Choice) (i : ℕ) (best : Choice) : Type 0 where
  pub there : has m row i ≡ true
  pub fit : Fit test after (kept m row name_length i)
  pub less : (best.some ≡ false) ⊎ (less_bytes (kept m row name_length i) best.name ≡ true)
  pub now : consider m row test after i best ≡ chosen (kept m row name_length i)

pub record Leaves (m : List ℕ) (row : ℕ) (test : List ℕ → Bool) (after : Choice) (i : ℕ) (best : Choice) : Type 0 where
  pub reached : has m row i ≡ true → Fit test after (kept m row name_length i) → Reached best (kept m row name_length i)
  pub now : consider m row test after i best ≡ best

module _ (m : List ℕ) (row : ℕ) (test : List ℕ → Bool) (after : Choice) where
  pub considered : (i : ℕ) (best : Choice) → Takes m row test after i best ⊎ Leaves m row test after i best
  unfolding consider improves
  considered i best = go (has m row i) refl (above after x) refl (test x) refl best.some refl (less_bytes x best.name) refl
    where
      x : List ℕ
      x = kept m row name_length i

      neither : (p : Bool) → (p && false) ≡ false
      neither true = refl
      neither false = refl

      go : (h : Bool) → has m row i ≡ h → (a : Bool) → above after x ≡ a → (d : Bool) → test x ≡ d → (s : Bool) → best.some ≡ s → (l : Bool) → less_bytes x best.name ≡ l
          → Takes m row test after i best ⊎ Leaves m row test after i best
      go false e a f d g s k l r = inr (record { reached = λ t o. absurd (true≢false (sym t ∙ e)); now = rw e })
      go true e false f d g s k l r = inr (record { reached = λ t o. absurd (true≢false (sym o.higher ∙ f)); now = rw (e, f) })
      go true e true f false g s k l r = inr (record { reached = λ t o. absurd (true≢false (sym o.enough ∙ g)); now = rw (e, f, g, neither (not best.some || less_bytes x best.name)) })
      go true e true f true g false k l r = inl (record { there = e; fit = record { enough = g; higher = f }; less = inl k; now = rw (e, f, g, k) })
      go true e true f true g true k true r = inl (record { there = e; fit = record { enough = g; higher = f }; less = inr r; now = rw (e, f, g, k, r) })
      go true e true f true g true k false r = inr (record { reached = λ t o. record { some = k; least = r }; now = rw (e, f, g, k, r) })

  -- the name that is found is one of those considered
  pub choose_from : (P : List ℕ → Type 0) (best : Choice) (n : ℕ) → ((x : List ℕ) → Entry m row n x → Fit test after x → P x) → (best.some ≡ true → P best.name)
      → (choose m row test after best n).some ≡ true → P (choose m row test after best n).name
  unfolding choose
  choose_from P best zero h b = b
  choose_from P best (suc n) h b =
      let c = choose m row test after best n in
      let ih = choose_from P best n (λ x e. h x (record { by = e.by; low = omega arith; there = e.there; name = e.name })) b in
      ⊎_elim
      (λ t. rw t.now (λ _. h (kept m row name_length n) (record { by = n; low = omega arith; there = t.there; name = refl }) t.fit))
      (λ t. rw t.now ih)
      (considered n c)

  -- what the best so far reaches stays reached
  consider_still : (i : ℕ) (best : Choice) (y : List ℕ) → Reached best y → Reached (consider m row test after i best) y
  consider_still i best y r =
      ⊎_elim
      (λ t. rw t.now (record {
        some = refl;
        least = ⊎_elim (λ e. absurd (true≢false (sym r.some ∙ e))) (λ e. go (less_bytes y (kept m row name_length i)) refl e) t.less;
      }))
      (λ t. rw t.now r)
      (considered i best)
    where
      go : (l : Bool) → less_bytes y (kept m row name_length i) ≡ l → less_bytes (kept m row name_length i) best.name ≡ true → l ≡ false
      go true f e = absurd (true≢false (sym (less_trans y (kept m row name_length i) best.name f e) ∙ r.least))
      go false f e = refl

  pub choose_still : (best : Choice) (n : ℕ) (y : List ℕ) → Reached best y → Reached (choose m row test after best n) y
  unfolding choose
  choose_still best zero y r = r
  choose_still best (suc n) y r = consider_still n (choose m row test after best n) y (choose_still best n y r)

  -- an entry that is fit is reached
  consider_reach : (i : ℕ) (best : Choice) → has m row i ≡ true → Fit test after (kept m row name_length i) → Reached (consider m row test after i best) (kept m row name_length i)
  consider_reach i best h f =
      ⊎_elim (λ t. rw t.now (record { some = refl; least = less_irrefl (kept m row name_length i) })) (λ t. rw t.now (t.reached h f)) (considered i best)

  pub choose_reach : (best : Choice) (n : ℕ) (y : List ℕ) → Entry m row n y → Fit test after y → Reached (choose m row test after best n) y
  unfolding choose
  choose_reach best zero y e f = absurd (omega arith)
  choose_reach best (suc n) y e f =
      go (eqb e.by n) refl (λ d. choose_reach best n y (record { by = e.by; low = omega arith; there = e.there; name = e.name }) f)
    where
      go : (t : Bool) → eqb e.by n ≡ t → ((e.by ≡ n → ⊥) → Reached (choose m row test after best n) y) → Reached (consider m row test after n (choose m row test after best n)) y
      go true p rest =
          let d = eqb-true e.by n p in
          let k : kept m row name_length n ≡ y = ap (kept m row name_length) (sym d) ∙ e.name in
          rw (← k) (consider_reach n (choose m row test after best n) (ap (has m row) (sym d) ∙ e.there) (rw k f))
      go false p rest = consider_still n (choose m row test after best n) y (rest (eqb-false e.by n p))

-- ---- the next decided name
module _ (m : List ℕ) (q : Quorums) (after : Choice) where
  -- no candidate is less than it: if there is a candidate, one is found
  pub next_least : (y : List ℕ) → Candidate m q after y → Reached (next_decided m q after) y
  unfolding next_decided
  next_least y c =
      ⊎_elim
      (λ e. choose_still m (commit_row q.view.0) (decided m q) after _ q.n y (choose_reach m (vote_row q.view.0) (decided m q) after no_choice q.n y e c.fit))
      (λ e. choose_reach m (commit_row q.view.0) (decided m q) after _ q.n y e c.fit)
      c.entry

  -- what is found is a candidate
  pub next_candidate : (next_decided m q after).some ≡ true → Candidate m q after (next_decided m q after).name
  unfolding next_decided
  next_candidate =
      choose_from m (commit_row q.view.0) (decided m q) after (Candidate m q after) _ q.n (λ x e f. record { entry = inr e; fit = f })
      (choose_from m (vote_row q.view.0) (decided m q) after (Candidate m q after) no_choice q.n (λ x e f. record { entry = inl e; fit = f }) (λ e. absurd (false≢true e)))

  -- if none is found there is none
  pub next_none : (next_decided m q after).some ≡ false → (y : List ℕ) → Candidate m q after y → ⊥
  next_none e y c = true≢false (sym (next_least y c).some ∙ e)

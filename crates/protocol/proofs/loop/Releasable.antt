-- Trying one decided name after another (`releasable`) finds the least name of a view that can be released, or there is none: each name that is tried leaves
-- fewer entries above it. Assumes nothing.
use mathlib.Core.Path.{◌≡◌, refl, sym, ap, subst, ◌∙◌}
use mathlib.Core.Logic.{◌⊎◌, inl, inr, ⊎_elim}
use mathlib.Core.Bool.{Bool, true, false, cond, not, ◌&&◌, ◌||◌, true≢false, false≢true}
use mathlib.Core.List.{List}
use Prim.Native.Nat.{ℕ, zero, suc, ◌+◌, ◌≤◌, ◌<◌}
use native.Mathlib.Omega.{arith}
use borrow.Author.Tests.{leb-true, le-leb}
use lib.Dec.{leb}
use Rattle.settings.specs.Quorum.{fast_quorum, slow_quorum}
use Rattle.codec.specs.Names.{name_length, less_bytes}
use Rattle.codec.proofs.Order.{and_true, less_irrefl, less_trans, less_total}
use Rattle.blocks.specs.Store.{descends}
use Rattle.memory.specs.declared.decided.Quorums.{Quorums}
use Rattle.memory.specs.Layout.{vote_row, commit_row}
use Rattle.memory.specs.Kept.{has, kept}
use Rattle.memory.specs.Decided.{Choice, no_choice, above, decided, next_decided}
use Rattle.memory.proofs.Bits.{counted, counted_le}
use Rattle.memory.proofs.Choosing.{Entry, Candidate, next_least, next_candidate, next_none}
use Rattle.protocol.specs.Work.{Work, settings, n, tip, blocks, held_block}
use Rattle.protocol.specs.Rules.{tries, enough_to_release, releasable}
use Rattle.protocol.specs.Applies.{votes_for, commits_for}
use Rattle.protocol.proofs.loop.Backed.{backed_entry}

-- ---- counting: at most all pass, and a test that lets one fewer through counts less
counted_most : (t : ℕ → Bool) (n : ℕ) → counted t n ≤ n
unfolding counted
counted_most t zero = omega arith
counted_most t (suc n) = go (t n) (counted_most t n)
  where
    go : (p : Bool) → counted t n ≤ n → cond p (suc (counted t n)) (counted t n) ≤ suc n
    go true h = omega arith
    go false h = omega arith

counted_less : (t u : ℕ → Bool) (i n : ℕ) → i < n → t i ≡ false → u i ≡ true → ((j : ℕ) → t j ≡ true → u j ≡ true) → counted t n < counted u n
unfolding counted
counted_less t u i zero l e f h = absurd (omega arith)
counted_less t u i (suc n) l e f h = go (t n) refl (u n) refl (λ m. counted_less t u i n m e f h) (counted_le t u n (λ j _. h j))
  where
    here : (p q : Bool) → t n ≡ p → u n ≡ q → i ≡ n → (p ≡ false) × (q ≡ true)
    here p q a b d = (sym a ∙ ap t (sym d) ∙ e, sym b ∙ ap u (sym d) ∙ f)

    go : (p : Bool) → t n ≡ p → (q : Bool) → u n ≡ q → (i < n → counted t n < counted u n) → counted t n ≤ counted u n
        → cond p (suc (counted t n)) (counted t n) < cond q (suc (counted u n)) (counted u n)
    go true a true b r m = let d : i ≡ n → ⊥ = λ d. true≢false (here true true a b d).0 in omega (arith, r (omega arith))
    go true a false b r m = absurd (true≢false (sym (h n a) ∙ b))
    go false a true b r m = omega arith
    go false a false b r m = let d : i ≡ n → ⊥ = λ d. false≢true (here false false a b d).1 in r (omega arith)

module _ (w : ℕ) (W : Work) where
  abbrev quorums : Quorums
  quorums = enough_to_release w W

  -- a name that can be released: enough votes or commits, and its block is held and leads down to the tip
  pub record Good (y : List ℕ) : Type 0 where
    pub enough : (fast_quorum (settings W) ≤ votes_for w W y) ⊎ (slow_quorum (settings W) ≤ commits_for w W y)
    pub is : (held_block W y).is ≡ true
    pub down : descends (tip W) (blocks W) (held_block W y).block ≡ true

  -- ---- enough, as the search tests it
  decided_enough : (y : List ℕ) → decided W.memory quorums y ≡ true → (fast_quorum (settings W) ≤ votes_for w W y) ⊎ (slow_quorum (settings W) ≤ commits_for w W y)
  unfolding decided
  decided_enough y e = go (leb (fast_quorum (settings W)) (votes_for w W y)) refl e
    where
      go : (p : Bool) → leb (fast_quorum (settings W)) (votes_for w W y) ≡ p → (p || leb (slow_quorum (settings W)) (commits_for w W y)) ≡ true
          → (fast_quorum (settings W) ≤ votes_for w W y) ⊎ (slow_quorum (settings W) ≤ commits_for w W y)
      go true a b = inl (leb-true _ _ a)
      go false a b = inr (leb-true _ _ b)

  enough_decided : (y : List ℕ) → (fast_quorum (settings W) ≤ votes_for w W y) ⊎ (slow_quorum (settings W) ≤ commits_for w W y) → decided W.memory quorums y ≡ true
  unfolding decided
  enough_decided y (inl h) = rw (le-leb _ _ h)
  enough_decided y (inr h) = rw (le-leb (slow_quorum (settings W)) (commits_for w W y) h) (go (leb (fast_quorum (settings W)) (votes_for w W y)))
    where
      go : (p : Bool) → (p || true) ≡ true
      go true = refl
      go false = refl

  -- whoever has enough has an entry
  enough_entry : (y : List ℕ) → (fast_quorum (settings W) ≤ votes_for w W y) ⊎ (slow_quorum (settings W) ≤ commits_for w W y)
      → Entry W.memory (vote_row w) (n W) y ⊎ Entry W.memory (commit_row w) (n W) y
  enough_entry y (inl h) = inl (backed_entry W.memory (vote_row w) y (n W) (omega arith))
  enough_entry y (inr h) = inr (backed_entry W.memory (commit_row w) y (n W) (omega arith))

  good_candidate : (after : Choice) (y : List ℕ) → Good y → above after y ≡ true → Candidate W.memory quorums after y
  good_candidate after y g a = record { entry = enough_entry y g.enough; fit = record { enough = enough_decided y g.enough; higher = a } }

  -- ---- how many entries are above a bound
  higher_in : ℕ → Choice → ℕ → Bool
  higher_in row after i = has W.memory row i && above after (kept W.memory row name_length i)

  left : Choice → ℕ
  left after = counted (higher_in (vote_row w) after) (n W) + counted (higher_in (commit_row w) after) (n W)

  left_most : left no_choice ≤ n W + n W
  unfolding left
  left_most = omega (arith, counted_most (higher_in (vote_row w) no_choice) (n W), counted_most (higher_in (commit_row w) no_choice) (n W))

  -- x is there and above the bound: what is above x is above the bound, and x itself is not above x
  module _ (after x : Choice) (some : x.some ≡ true) (higher : above after x.name ≡ true) where
    less_above : (y : List ℕ) → above x y ≡ less_bytes x.name y
    unfolding above
    less_above y = rw some

    above_more : (y : List ℕ) → above x y ≡ true → above after y ≡ true
    unfolding above
    above_more y a = go after.some refl higher
      where
        go : (p : Bool) → after.some ≡ p → (not p || less_bytes after.name x.name) ≡ true → (not p || less_bytes after.name y) ≡ true
        go true e h = less_trans after.name x.name y h (sym (less_above y) ∙ a)
        go false e h = refl

    higher_more : (row j : ℕ) → higher_in row x j ≡ true → higher_in row after j ≡ true
    unfolding higher_in
    higher_more row j e =
        let p = and_true (has W.memory row j) (above x (kept W.memory row name_length j)) e in
        rw p.0 (above_more (kept W.memory row name_length j) p.1)

    row_less : (row : ℕ) → Entry W.memory row (n W) x.name → counted (higher_in row x) (n W) < counted (higher_in row after) (n W)
    unfolding higher_in
    row_less row e =
        counted_less (higher_in row x) (higher_in row after) e.by (n W) e.low
        (rw (e.there, e.name) (less_above x.name ∙ less_irrefl x.name))
        (rw (e.there, e.name) higher) (higher_more row)

    left_less : Entry W.memory (vote_row w) (n W) x.name ⊎ Entry W.memory (commit_row w) (n W) x.name → left x < left after
    unfolding left
    left_less (inl e) = omega (arith, row_less (vote_row w) e, counted_le (higher_in (commit_row w) x) (higher_in (commit_row w) after) (n W) (λ j _. higher_more (commit_row w) j))
    left_less (inr e) = omega (arith, row_less (commit_row w) e, counted_le (higher_in (vote_row w) x) (higher_in (vote_row w) after) (n W) (λ j _. higher_more (vote_row w) j))

  -- ---- the search from a bound on
  record Finds (after found : Choice) : Type 0 where
    good : found.some ≡ true → Good found.name
    least : found.some ≡ true → (y : List ℕ) → less_bytes y found.name ≡ true → above after y ≡ true → Good y → ⊥
    none : found.some ≡ false → (y : List ℕ) → above after y ≡ true → Good y → ⊥

  test : Choice → Bool
  test x = (held_block W x.name).is && descends (tip W) (blocks W) (held_block W x.name).block

  passes_good : (y : List ℕ) → Good y → ((held_block W y).is && descends (tip W) (blocks W) (held_block W y).block) ≡ true
  passes_good y g = rw (g.is, g.down)

  -- nothing is decided above the bound
  finds_none : (after : Choice) → (next_decided W.memory quorums after).some ≡ false → Finds after no_choice
  finds_none after e = record {
    good = λ f. absurd (false≢true f);
    least = λ f. absurd (false≢true f);
    none = λ f y a g. next_none W.memory quorums after e y (good_candidate after y g a);
  }

  -- the next decided name can be released
  finds_this : (after : Choice) → (next_decided W.memory quorums after).some ≡ true → test (next_decided W.memory quorums after) ≡ true → Finds after (next_decided W.memory quorums after)
  unfolding test
  finds_this after e t =
      let x = next_decided W.memory quorums after in
      let c = next_candidate W.memory quorums after e in
      let p = and_true (held_block W x.name).is (descends (tip W) (blocks W) (held_block W x.name).block) t in
      record {
        good = λ _. record { enough = decided_enough x.name c.fit.enough; is = p.0; down = p.1 };
        least = λ _ y l a g. true≢false (sym l ∙ (next_least W.memory quorums after y (good_candidate after y g a)).least);
        none = λ f. absurd (true≢false (sym e ∙ f));
      }

  -- it cannot: go on from it
  finds_later : (after found : Choice) → (next_decided W.memory quorums after).some ≡ true → test (next_decided W.memory quorums after) ≡ false
      → Finds (next_decided W.memory quorums after) found → Finds after found
  unfolding test
  finds_later after found e t F = record { good = F.good; least = λ f y l a g. F.least f y l (on y a g) g; none = λ f y a g. F.none f y (on y a g) g }
    where
      x : Choice
      x = next_decided W.memory quorums after

      on : (y : List ℕ) → above after y ≡ true → Good y → above x y ≡ true
      on y a g =
          ⊎_elim (λ l. less_above after x e (next_candidate W.memory quorums after e).fit.higher y ∙ l)
          (⊎_elim
          (λ q. absurd (true≢false (sym (passes_good x.name (subst Good (sym q) g)) ∙ t)))
          (λ l. absurd (true≢false (sym l ∙ (next_least W.memory quorums after y (good_candidate after y g a)).least))))
          (less_total x.name y)

  search_finds : (k : ℕ) (after : Choice) → left after < k → Finds after (releasable w W k after)
  unfolding releasable test
  search_finds zero after h = absurd (omega arith)
  search_finds (suc k) after h = go x.some refl (test x) refl (search_finds k x)
    where
      x : Choice
      x = next_decided W.memory quorums after

      go : (p : Bool) → x.some ≡ p → (t : Bool) → test x ≡ t → (left x < k → Finds x (releasable w W k x)) → Finds after (cond p (cond t x (releasable w W k x)) no_choice)
      go false e t d r = finds_none after e
      go true e true d r = finds_this after e d
      go true e false d r =
          let c = next_candidate W.memory quorums after e in
          finds_later after (releasable w W k x) e d (r (omega (arith, left_less after x e c.fit.higher c.entry)))

  -- THE NAME TO RELEASE at view w
  abbrev pub the_release : Choice
  the_release = releasable w W (tries W) no_choice

  finds : Finds no_choice the_release
  finds = search_finds (tries W) no_choice (omega (arith, left_most))

  no_bound : (y : List ℕ) → above no_choice y ≡ true
  unfolding above
  no_bound y = refl

  pub release_good : the_release.some ≡ true → Good the_release.name
  release_good = finds.good

  pub release_least : the_release.some ≡ true → (y : List ℕ) → less_bytes y the_release.name ≡ true → Good y → ⊥
  release_least e y l = finds.least e y l (no_bound y)

  pub release_none : the_release.some ≡ false → (y : List ℕ) → Good y → ⊥
  release_none e y = finds.none e y (no_bound y)

-- The laws of the search for the lowest decisive sender. Assumes nothing.
use mathlib.Core.Path.{◌≡◌, refl, sym, ap, ◌∙◌}
use mathlib.Core.Bool.{Bool, true, false, cond, not, ◌&&◌, ◌||◌, false≢true}
use mathlib.Core.List.{List, [], ◌∷◌}
use Prim.Native.Nat.{ℕ, suc, ◌≤◌, ◌<◌}
use native.Mathlib.Omega.{arith}
use borrow.Author.Tests.{lt-leb, le-leb, leb-true, eqb-true, eq-eqb, not-true, not-false}
use lib.Dec.{eqb, leb}
use lib.ListN.{length}
use Rattle.settings.specs.declared.Settings.{Settings}
use Rattle.settings.specs.Quorum.{timeout_quorum}
use Rattle.codec.specs.Names.{same_bytes}
use Rattle.codec.proofs.Order.{and_true, same_eq, same_ne}
use Rattle.wire.specs.declared.Timeout.{Timeout}
use Rattle.wire.specs.Shape.{any}
use Rattle.certificate.specs.Order.{Ascending}
use Rattle.refusals.proofs.Numbers.{and_not}
use Rattle.decisive.specs.Decisive.{sent_by, without, safe_block, is_decisive, Whose, none, named, lowest_of}
use Rattle.decisive.proofs.Taking.{without_fewer}

-- ---- none and a sender are two answers, and a sender is one
none_named : {i : ℕ} → none ≡ named i → ⊥
none_named e = let z : ◌≡◌ {A = ℕ} 0 1 = cc in omega arith

named_same : {i j : ℕ} → named i ≡ named j → i ≡ j
named_same e = cc

or_right : (p : Bool) {q : Bool} → q ≡ true → (p || q) ≡ true
or_right true e = refl
or_right false e = e

-- senders that ascend from low on are not below it
sender_least : (n low j : ℕ) (ts : List Timeout) → Ascending n low ts → any (sent_by j) ts ≡ true → low ≤ j
unfolding Ascending any
sender_least n low j [] a e = absurd (false≢true e)
sender_least n low j (t ∷ ts) a e = go (eqb t.sender j) refl e (sender_least n (suc t.sender) j ts a.2) a.0
  where
    go : (p : Bool) → eqb t.sender j ≡ p → (p || any (sent_by j) ts) ≡ true → (any (sent_by j) ts ≡ true → suc t.sender ≤ j) → low ≤ t.sender → low ≤ j
    go true q h r l = let at : t.sender ≡ j = eqb-true t.sender j q in omega (arith, at, l)
    go false q h r l = let m = r h in omega (arith, m, l)

-- ---- one sender
module _ (s : Settings) (ts : List Timeout) (i : ℕ) where
  abbrev changes : Bool
  changes = not (same_bytes (safe_block s (without i ts)) (safe_block s ts))

  pub too_few_lem : length (without i ts) < timeout_quorum s → is_decisive s ts i ≡ false
  unfolding is_decisive
  too_few_lem h = and_not _ _ (lt-leb (timeout_quorum s) (length (without i ts)) h)

  pub by_name : timeout_quorum s ≤ length (without i ts) → is_decisive s ts i ≡ changes
  unfolding is_decisive
  by_name h = ap (λ (p : Bool). p && changes) (le-leb (timeout_quorum s) (length (without i ts)) h)

  pub decisive_enough : is_decisive s ts i ≡ true → timeout_quorum s ≤ length (without i ts)
  unfolding is_decisive
  decisive_enough e = leb-true _ _ (and_true _ _ e).0

  pub decisive_changes : is_decisive s ts i ≡ true → safe_block s (without i ts) ≡ safe_block s ts → ⊥
  unfolding is_decisive
  decisive_changes e =
      let same = same_bytes (safe_block s (without i ts)) (safe_block s ts) in
      same_ne _ _ (not-true same (and_true (leb (timeout_quorum s) (length (without i ts))) (not same) e).1)

  pub not_decisive : is_decisive s ts i ≡ false → timeout_quorum s ≤ length (without i ts) → safe_block s (without i ts) ≡ safe_block s ts
  not_decisive e h = same_eq _ _ (not-false _ (sym (by_name h) ∙ e))

-- ---- the search
module _ (s : Settings) (ts : List Timeout) where
  pub lowest_here : (t : Timeout) (later : List Timeout) → is_decisive s ts t.sender ≡ true → lowest_of s ts (t ∷ later) ≡ named t.sender
  unfolding lowest_of
  lowest_here t later e = rw e

  pub lowest_on : (t : Timeout) (later : List Timeout) → is_decisive s ts t.sender ≡ false → lowest_of s ts (t ∷ later) ≡ lowest_of s ts later
  unfolding lowest_of
  lowest_on t later e = rw e

  pub lowest_end : lowest_of s ts [] ≡ none
  unfolding lowest_of
  lowest_end = refl

  -- no sender that is left out leaves enough
  pub none_of_few : length ts ≤ timeout_quorum s → (later : List Timeout) → ((i : ℕ) → any (sent_by i) later ≡ true → any (sent_by i) ts ≡ true)
      → lowest_of s ts later ≡ none
  unfolding any
  none_of_few h [] among = lowest_end
  none_of_few h (t ∷ later) among =
      let fewer = without_fewer t.sender ts (among t.sender (rw (eq-eqb t.sender t.sender refl))) in
      lowest_on t later (too_few_lem s ts t.sender (omega (arith, fewer)))
      ∙ none_of_few h later (λ i e. among i (or_right (eqb t.sender i) e))

  -- by whether the first one has the property
  abbrev found : Timeout → List Timeout → Bool → Whose
  found t later p = cond p (named t.sender) (lowest_of s ts later)

  -- the one that is named is among the senders and has the property
  pub named_has : (i : ℕ) (later : List Timeout) → lowest_of s ts later ≡ named i → (any (sent_by i) later ≡ true) × (is_decisive s ts i ≡ true)
  unfolding lowest_of any
  named_has i [] e = absurd (none_named e)
  named_has i (t ∷ later) e = go (is_decisive s ts t.sender) refl e (named_has i later)
    where
      go : (p : Bool) → is_decisive s ts t.sender ≡ p → found t later p ≡ named i → (lowest_of s ts later ≡ named i → (any (sent_by i) later ≡ true) × (is_decisive s ts i ≡ true))
          → ((eqb t.sender i || any (sent_by i) later) ≡ true) × (is_decisive s ts i ≡ true)
      go true q h rest = let same : t.sender ≡ i = named_same h in (rw (eq-eqb t.sender i same), rw same at q)
      go false q h rest = let r = rest h in (or_right (eqb t.sender i) r.0, r.1)

  -- no lower sender has it
  pub lower_not : (n low i j : ℕ) (later : List Timeout) → Ascending n low later → lowest_of s ts later ≡ named i → j < i → any (sent_by j) later ≡ true
      → is_decisive s ts j ≡ false
  unfolding lowest_of any Ascending
  lower_not n low i j [] a e h m = absurd (false≢true m)
  lower_not n low i j (t ∷ later) a e h m =
      go (is_decisive s ts t.sender) refl e (eqb t.sender j) refl m (λ f k. lower_not n (suc t.sender) i j later a.2 f h k) (sender_least n (suc t.sender) j later a.2)
    where
      go : (p : Bool) → is_decisive s ts t.sender ≡ p → found t later p ≡ named i
          → (q : Bool) → eqb t.sender j ≡ q → (q || any (sent_by j) later) ≡ true
          → (lowest_of s ts later ≡ named i → any (sent_by j) later ≡ true → is_decisive s ts j ≡ false) → (any (sent_by j) later ≡ true → suc t.sender ≤ j)
          → is_decisive s ts j ≡ false
      go true d f true g k rest above = let same : t.sender ≡ i = named_same f in let at : t.sender ≡ j = eqb-true t.sender j g in absurd (omega (arith, same, at))
      go true d f false g k rest above = let same : t.sender ≡ i = named_same f in let b = above k in absurd (omega (arith, same, b))
      go false d f true g k rest above = rw (eqb-true t.sender j g) at d
      go false d f false g k rest above = rest f k

  -- where none is named, no sender has it
  pub none_not : (j : ℕ) (later : List Timeout) → lowest_of s ts later ≡ none → any (sent_by j) later ≡ true → is_decisive s ts j ≡ false
  unfolding lowest_of any
  none_not j [] e m = absurd (false≢true m)
  none_not j (t ∷ later) e m = go (is_decisive s ts t.sender) refl e (eqb t.sender j) refl m (none_not j later)
    where
      go : (p : Bool) → is_decisive s ts t.sender ≡ p → found t later p ≡ none
          → (q : Bool) → eqb t.sender j ≡ q → (q || any (sent_by j) later) ≡ true
          → (lowest_of s ts later ≡ none → any (sent_by j) later ≡ true → is_decisive s ts j ≡ false) → is_decisive s ts j ≡ false
      go true d f q g k rest = absurd (none_named (sym f))
      go false d f true g k rest = rw (eqb-true t.sender j g) at d
      go false d f false g k rest = rest f k

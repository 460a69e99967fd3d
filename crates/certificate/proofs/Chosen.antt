-- The safe certificate is the highest candidate, and one of them (01: Rank and safe block). Assumes nothing.
use mathlib.Core.Path.{◌≡◌, refl, ap, ap₂, ◌∙◌}
use mathlib.Core.Logic.{◌⊎◌, inl, inr}
use mathlib.Core.Bool.{Bool, true, false, cond, ◌&&◌, false≢true}
use mathlib.Core.List.{List, [], ◌∷◌, ◌++◌}
use Prim.Native.Nat.{ℕ, ◌≤◌, ◌<◌}
use native.Mathlib.Omega.{arith}
use borrow.Author.Tests.{lt-ltb, le-leb, ltb-true, leb-true}
use lib.Dec.{ltb, leb}
use Rattle.settings.specs.declared.Settings.{Settings}
use Rattle.settings.specs.Quorum.{replicas, weak_quorum}
use Rattle.wire.specs.declared.Timeout.{Timeout}
use Rattle.wire.specs.Fit.{All}
use Rattle.wire.proofs.Slots.{all_impl}
use Rattle.certificate.specs.declared.Certificate.{Certificate}
use Rattle.certificate.specs.Rank.{outranks, genesis_certificate, weak_certificate}
use Rattle.certificate.specs.Safe.{backing, each, better, carried_by, built_by, safe_of_timeouts}
use Rattle.certificate.specs.Order.{◌≼◌, Decided, carried_in, backers, Backed, built_of}
use Rattle.certificate.proofs.Admissible.{better_goes, better_stays, better_has, better_kept, better_new}
use Rattle.certificate.proofs.Backing.{some_gives, gives_is}
use Rattle.codec.proofs.Order.{and_true}
use Rattle.certificate.proofs.Order.{outranks_irrefl, outranks_total}

-- b outranks a, or is a
abbrev pub Under : Certificate → Certificate → Type 0
Under b a = (outranks b a ≡ true) ⊎ (a ≡ b)

-- ---- timeouts that give a certificate each, if they pass a test: the better of it and what was there
module _ (test : Timeout → Bool) (make : Timeout → Certificate) where
  abbrev offers : Timeout → Certificate → Certificate
  offers t k = cond (test t) (better (make t) k) k

  offers_has : (P : Certificate → Type 0) (k : Certificate) (l : List Timeout) → P k → All (λ t. test t ≡ true → P (make t)) l → P (each offers k l)
  unfolding each All
  offers_has P k [] p q = p
  offers_has P k (t ∷ l) p q = offers_has P (offers t k) l (go (test t) q.0) q.1
    where
      go : (b : Bool) → (b ≡ true → P (make t)) → P (cond b (better (make t) k) k)
      go true f = better_has (make t) k P (f refl) p
      go false f = p

  module _ {R : Certificate → Certificate → Type 0} (d : Decided R) where
    offers_kept : (k : Certificate) (l : List Timeout) → R k (each offers k l)
    unfolding each
    offers_kept k [] = d.same k
    offers_kept k (t ∷ l) = d.trans (go (test t)) (offers_kept (offers t k) l)
      where
        go : (b : Bool) → R k (cond b (better (make t) k) k)
        go true = better_kept (make t) k d
        go false = d.same k

    offers_over : (k : Certificate) (l : List Timeout) → All (λ t. test t ≡ true → R (make t) (each offers k l)) l
    unfolding each All
    offers_over k [] = tt
    offers_over k (t ∷ l) = (λ e. d.trans (go (test t) e) (offers_kept (offers t k) l), offers_over (offers t k) l)
      where
        go : (b : Bool) → b ≡ true → R (make t) (cond b (better (make t) k) k)
        go true e = better_new (make t) k d
        go false e = absurd (false≢true e)

  -- of those that none outranks it is the first
  offers_stay : (k : Certificate) (l : List Timeout) → All (λ t. test t ≡ true → make t ≼ k) l → each offers k l ≡ k
  unfolding each All
  offers_stay k [] h = refl
  offers_stay k (t ∷ l) h = ap (λ x. each offers x l) (go (test t) h.0) ∙ offers_stay k l h.1
    where
      go : (b : Bool) → (b ≡ true → make t ≼ k) → cond b (better (make t) k) k ≡ k
      go true f = better_stays (make t) k (f refl)
      go false f = refl

  offers_first : (a : List Timeout) (t : Timeout) (l : List Timeout) → test t ≡ true
      → (k : Certificate) → Under (make t) k → All (λ u. test u ≡ true → Under (make t) (make u)) a → All (λ u. test u ≡ true → make u ≼ make t) l
      → each offers k (a ++ (t ∷ l)) ≡ make t
  unfolding each All
  offers_first [] t l e k p q r = ap (λ x. each offers x l) (go p) ∙ offers_stay (make t) l r
    where
      go : Under (make t) k → offers t k ≡ make t
      go (inl h) = rw e (better_goes (make t) k h)
      go (inr h) = rw (e, h) (better_stays (make t) (make t) (outranks_irrefl (make t)))
  offers_first (u ∷ a) t l e k p q r = offers_first a t l e (offers u k) (go (test u) q.0) q.1 r
    where
      go : (b : Bool) → (b ≡ true → Under (make t) (make u)) → Under (make t) (cond b (better (make u) k) k)
      go true f = better_has (make u) k (Under (make t)) (f refl) p
      go false f = p

-- ---- first those carried, all of them, then those built
module _ (s : Settings) (l : List Timeout) where
  abbrev enough : Timeout → Bool
  enough t = ltb 0 t.high.view.0 && leb (weak_quorum s) (backers s l t).count

  backed : (t : Timeout) → enough t ≡ true → Backed s l t
  backed t e = let r = and_true (ltb 0 t.high.view.0) (leb (weak_quorum s) (backers s l t).count) e in record { voted = ltb-true _ _ r.0; enough = leb-true _ _ r.1 }

  is_backed : (t : Timeout) → Backed s l t → enough t ≡ true
  is_backed t b = rw (lt-ltb _ _ b.voted, le-leb _ _ b.enough)

-- the best of those carried, and what the built ones make of it
unfoldable best_carried : List Timeout → Certificate
best_carried [] = genesis_certificate
best_carried (t ∷ l) = each carried_by (carried_in t) l

built_on : (s : Settings) (l : List Timeout) → safe_of_timeouts s l ≡ each (offers (enough s l) (built_of s l)) (best_carried l) l
unfolding best_carried safe_of_timeouts built_by each
built_on s [] = refl
built_on s (t ∷ l) = refl

best_has : (P : Certificate → Type 0) (t : Timeout) (l : List Timeout) → All (λ u. P (carried_in u)) (t ∷ l) → P (best_carried (t ∷ l))
unfolding best_carried carried_by All
best_has P t l p = offers_has (λ u. true) carried_in P (carried_in t) l p.0 (all_impl _ _ l (λ u h e. h) p.1)

-- ---- what holds of all that are carried, and of each that is built, holds of the safe certificate
pub chosen_has : (P : Certificate → Type 0) (s : Settings) (t : Timeout) (l : List Timeout)
    → All (λ u. P (carried_in u)) (t ∷ l) → All (λ u. Backed s (t ∷ l) u → P (built_of s (t ∷ l) u)) (t ∷ l) → P (safe_of_timeouts s (t ∷ l))
chosen_has P s t l p q =
    rw (built_on s (t ∷ l)) (offers_has (enough s (t ∷ l)) (built_of s (t ∷ l)) P (best_carried (t ∷ l)) (t ∷ l)
    (best_has P t l p) (all_impl _ _ (t ∷ l) (λ u h e. h (backed s (t ∷ l) u e)) q))

-- ---- it is the highest
module _ {R : Certificate → Certificate → Type 0} (d : Decided R) (s : Settings) where
  best_over : (l : List Timeout) → All (λ u. R (carried_in u) (best_carried l)) l
  unfolding best_carried carried_by All
  best_over [] = tt
  best_over (t ∷ l) = (offers_kept (λ u. true) carried_in d (carried_in t) l, all_impl _ _ l (λ u h. h refl) (offers_over (λ u. true) carried_in d (carried_in t) l))

  pub carried_over : (l : List Timeout) → All (λ u. R (carried_in u) (safe_of_timeouts s l)) l
  carried_over l = rw (built_on s l) (all_impl _ _ l (λ u h. d.trans h (offers_kept (enough s l) (built_of s l) d (best_carried l) l)) (best_over l))

  pub built_over : (l : List Timeout) → All (λ u. Backed s l u → R (built_of s l u) (safe_of_timeouts s l)) l
  built_over l = rw (built_on s l) (all_impl _ _ l (λ u h b. h (is_backed s l u b)) (offers_over (enough s l) (built_of s l) d (best_carried l) l))

  -- the same of any high vote that enough give, whoever they are
  pub high_over : (l : List Timeout) (v : ℕ) (x : List ℕ) → 0 < v → weak_quorum s ≤ (backing (replicas s) v x l).count
      → R (weak_certificate v x (backing (replicas s) v x l).signers) (safe_of_timeouts s l)
  high_over l v x h m =
      some_gives (replicas s) v x _ l (all_impl _ _ l (λ u o e. let g = gives_is (replicas s) v x u e in (rw (g.0, g.1) at o) (record { voted = h; enough = m })) (built_over l)) (omega (arith, m))

-- ---- "for equal kind, view and name, carried before built, lowest sender first"
all_parts : {A : Type 0} (P : A → Type 0) (a b : List A) → All P (a ++ b) → All P a × All P b
unfolding All
all_parts P [] b p = (tt, p)
all_parts P (x ∷ a) b p = let r = all_parts P a b p.1 in ((p.0, r.0), r.1)

best_first : (a : List Timeout) (t : Timeout) (l : List Timeout) → All (λ u. Under (carried_in t) (carried_in u)) a → All (λ u. carried_in u ≼ carried_in t) l
    → best_carried (a ++ (t ∷ l)) ≡ carried_in t
unfolding best_carried carried_by All
best_first [] t l p q = offers_stay (λ u. true) carried_in (carried_in t) l (all_impl _ _ l (λ u h e. h) q)
best_first (u ∷ a) t l p q = offers_first (λ u. true) carried_in a t l refl (carried_in u) p.0 (all_impl _ _ a (λ u h e. h) p.1) (all_impl _ _ l (λ u h e. h) q)

best_under : (P : Certificate → Type 0) (a : List Timeout) (t : Timeout) (l : List Timeout) → All (λ u. P (carried_in u)) (a ++ (t ∷ l)) → P (best_carried (a ++ (t ∷ l)))
best_under P [] t l p = best_has P t l p
best_under P (u ∷ a) t l p = best_has P u (a ++ (t ∷ l)) p

module _ (s : Settings) (a : List Timeout) (t : Timeout) (l : List Timeout) where
  abbrev ts : List Timeout
  ts = a ++ (t ∷ l)

  -- the carried one that is first among those that none outranks
  pub carried_first : All (λ u. Under (carried_in t) (carried_in u)) a → All (λ u. carried_in u ≼ carried_in t) l
      → All (λ u. Backed s ts u → built_of s ts u ≼ carried_in t) ts → safe_of_timeouts s ts ≡ carried_in t
  carried_first p q r =
      rw (built_on s ts, best_first a t l p q) (offers_stay (enough s ts) (built_of s ts) (carried_in t) ts (all_impl _ _ ts (λ u h e. h (backed s ts u e)) r))

  -- high votes that build equal certificates build one
  same_built : (u : Timeout) → built_of s ts u ≼ built_of s ts t → Under (built_of s ts t) (built_of s ts u)
  same_built u h = go (outranks (built_of s ts t) (built_of s ts u)) refl
    where
      go : (b : Bool) → outranks (built_of s ts t) (built_of s ts u) ≡ b → Under (built_of s ts t) (built_of s ts u)
      go true e = inl e
      go false e =
          let q = outranks_total (built_of s ts u) (built_of s ts t) h e in
          inr (ap₂ (λ (v : ℕ) (x : List ℕ). weak_certificate v x (backing (replicas s) v x ts).signers) q.1 q.2)

  -- a built one that none outranks, where it outranks all that are carried
  pub built_first : Backed s ts t → All (λ u. outranks (built_of s ts t) (carried_in u) ≡ true) ts
      → All (λ u. Backed s ts u → built_of s ts u ≼ built_of s ts t) ts → safe_of_timeouts s ts ≡ built_of s ts t
  unfolding All
  built_first b p q =
      let parts = all_parts _ a (t ∷ l) q in
      rw (built_on s ts) (offers_first (enough s ts) (built_of s ts) a t l (is_backed s ts t b) (best_carried ts)
      (inl (best_under (λ x. outranks (built_of s ts t) x ≡ true) a t l p))
      (all_impl _ _ a (λ u h e. same_built u (h (backed s ts u e))) parts.0)
      (all_impl _ _ l (λ u h e. h (backed s ts u e)) parts.1.1))

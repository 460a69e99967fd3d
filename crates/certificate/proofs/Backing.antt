-- How many timeouts give a high vote, and that its signers are their senders (01: Rank and safe block). Assumes nothing.
use mathlib.Core.Path.{◌≡◌, refl, sym, ◌∙◌}
use mathlib.Core.Bool.{Bool, true, false, cond, ◌&&◌, ◌||◌, or-true, or-false, and-false, false≢true}
use mathlib.Core.List.{List, [], ◌∷◌}
use Prim.Native.Nat.{ℕ, suc, ◌+◌, ◌^◌, ◌≤◌, ◌<◌}
use native.Mathlib.Omega.{arith}
use lib.Count.{ones_in}
use lib.Pow.{pow_pos, pow_mono}
use lib.Dec.{eqb, ltb}
use borrow.Author.Tests.{eqb-true, eq-eqb, ltb-true, lt-ltb}
use lib.ListN.{length}
use Rattle.codec.specs.Names.{same_bytes}
use Rattle.codec.proofs.Order.{same_eq, and_true}
use Rattle.wire.specs.declared.Timeout.{Timeout}
use Rattle.wire.specs.Shape.{any}
use Rattle.wire.specs.Fit.{All, TimeoutsProper}
use Rattle.wire.proofs.Slots.{all_impl}
use Rattle.certificate.specs.declared.Tally.{Tally}
use Rattle.certificate.specs.Good.{signer_count}
use Rattle.certificate.specs.Safe.{each, signs, joins, gives, backed_by, no_backing, backing}
use Rattle.certificate.specs.Order.{only, Ascending}
use Rattle.certificate.proofs.Sets.{joined_count, signs_beyond, joins-signs, joins_lt, joins_new}
use Rattle.certificate.proofs.Signers.{joined_lt}

pub proper_ascending : (n v low : ℕ) (ts : List Timeout) → TimeoutsProper n v low ts → Ascending n low ts
unfolding TimeoutsProper Ascending
proper_ascending n v low [] p = tt
proper_ascending n v low (t ∷ ts) p = (p.1, p.2, proper_ascending n v (suc t.sender) ts p.4)

-- a test that an element passes by itself is passed by some element
any_self : {A : Type 0} (f : A → A → Bool) (l : List A) → All (λ a. f a a ≡ true → any (f a) l ≡ true) l
unfolding any All
any_self f [] = tt
any_self f (a ∷ l) = (λ e. rw e, all_impl _ _ l (λ b h e. rw (h e) (or-true (f b a))) (any_self f l))

module _ (n v : ℕ) (x : List ℕ) where
  -- a timeout more, by whether it gives that high vote
  abbrev more : Bool → Timeout → Tally → Tally
  more p t b = cond p (record { count = b.count + 1; signers = joins n t.sender b.signers }) b

  abbrev all_of : Tally → List Timeout → Tally
  all_of b ts = each (backed_by n v x) b ts

  count_from : (b : Tally) (ts : List Timeout) → (all_of b ts).count ≡ b.count + length (only (gives v x) ts)
  unfolding each backed_by only
  count_from b [] = omega arith
  count_from b (t ∷ ts) = go (gives v x t) (λ p. count_from (more p t b) ts)
    where
      go : (p : Bool) → ((q : Bool) → (all_of (more q t b) ts).count ≡ (more q t b).count + length (only (gives v x) ts))
          → (all_of (more p t b) ts).count ≡ b.count + length (cond p (t ∷ only (gives v x) ts) (only (gives v x) ts))
      go true h = let e = h true in omega arith
      go false h = h false

  pub backing-count : (ts : List Timeout) → (backing n v x ts).count ≡ length (only (gives v x) ts)
  backing-count ts = count_from no_backing ts ∙ (let e : 0 + length (only (gives v x) ts) ≡ length (only (gives v x) ts) = omega arith in e)

  -- i is the sender of a timeout that gives it
  abbrev pub sends : ℕ → Timeout → Bool
  sends i t = gives v x t && eqb t.sender i

  signs_from : (i : ℕ) (b : Tally) (ts : List Timeout) → signs (all_of b ts).signers i ≡ (ltb i n && any (sends i) ts || signs b.signers i)
  unfolding each backed_by any
  signs_from i b [] = rw (and-false (ltb i n))
  signs_from i b (t ∷ ts) = go (gives v x t) (λ p. signs_from i (more p t b) ts)
    where
      gather : (l e s a : Bool) → (l && a || (l && e || s)) ≡ (l && (e || a) || s)
      gather true true s a = or-true a
      gather true false s a = refl
      gather false e s a = refl

      go : (p : Bool) → ((q : Bool) → signs (all_of (more q t b) ts).signers i ≡ (ltb i n && any (sends i) ts || signs (more q t b).signers i))
          → signs (all_of (more p t b) ts).signers i ≡ (ltb i n && (p && eqb t.sender i || any (sends i) ts) || signs b.signers i)
      go true h = h true ∙ rw (joins-signs n t.sender b.signers i) (gather (ltb i n) (eqb t.sender i) (signs b.signers i) (any (sends i) ts))
      go false h = h false

  -- the signers are the senders among the n replicas
  pub backing-signs : (i : ℕ) (ts : List Timeout) → signs (backing n v x ts).signers i ≡ (ltb i n && any (sends i) ts)
  backing-signs i ts = signs_from i no_backing ts ∙ rw (signs_beyond 0 i (pow_pos i)) (or-false (ltb i n && any (sends i) ts))

  lt_from : (b : Tally) (ts : List Timeout) → b.signers < 2 ^ n → (all_of b ts).signers < 2 ^ n
  unfolding each backed_by
  lt_from b [] h = h
  lt_from b (t ∷ ts) h = lt_from (more (gives v x t) t b) ts (go (gives v x t))
    where
      go : (p : Bool) → (more p t b).signers < 2 ^ n
      go true = joins_lt n t.sender b.signers h
      go false = h

  pub backing_lt : (ts : List Timeout) → (backing n v x ts).signers < 2 ^ n
  backing_lt ts = lt_from no_backing ts (pow_pos n)

  -- senders that ascend are counted once each
  signers_from : n ≤ 64 → (low : ℕ) (b : Tally) (ts : List Timeout) → b.signers < 2 ^ low → signer_count b.signers ≡ b.count → Ascending n low ts
      → signer_count (all_of b ts).signers ≡ (all_of b ts).count
  unfolding each backed_by Ascending
  signers_from w low b [] l e p = e
  signers_from w low b (t ∷ ts) l e p = let r = go (gives v x t) in signers_from w (suc t.sender) (more (gives v x t) t b) ts r.0 r.1 p.2
    where
      small : b.signers < 2 ^ suc t.sender
      small = omega (arith, pow_mono (let h : low ≤ suc t.sender = omega arith in h))

      free : signs b.signers t.sender ≡ false
      free = signs_beyond b.signers t.sender (omega (arith, pow_mono p.0))

      go : (q : Bool) → ((more q t b).signers < 2 ^ suc t.sender) × (signer_count (more q t b).signers ≡ (more q t b).count)
      go true =
          let c = joined_count b.signers t.sender free (omega arith) in
          rw (joins_new n t.sender b.signers p.1 free) (joined_lt (suc t.sender) b.signers t.sender small (omega arith) free, omega arith)
      go false = (small, e)

  pub backing-signers : (ts : List Timeout) → n ≤ 64 → Ascending n 0 ts → signer_count (backing n v x ts).signers ≡ (backing n v x ts).count
  unfolding signer_count ones_in
  backing-signers ts w p = signers_from w 0 no_backing ts (pow_pos 0) refl p

  -- ---- the same, as facts of each signer
  -- what holds of the sender of each timeout that gives it holds of each signer
  pub signer_has : (P : ℕ → Type 0) (ts : List Timeout) → All (λ t. gives v x t ≡ true → P t.sender) ts → (i : ℕ) → signs (backing n v x ts).signers i ≡ true → (i < n) × P i
  unfolding any All
  signer_has P ts h i e = go (ltb i n) refl (sym (backing-signs i ts) ∙ e)
    where
      found : (ts : List Timeout) → All (λ t. gives v x t ≡ true → P t.sender) ts → any (sends i) ts ≡ true → P i
      found [] h e = absurd (false≢true e)
      found (t ∷ ts) h e = one (gives v x t) (eqb t.sender i) refl h.0 e (found ts h.1)
        where
          one : (p q : Bool) → eqb t.sender i ≡ q → (p ≡ true → P t.sender) → (p && q || any (sends i) ts) ≡ true → (any (sends i) ts ≡ true → P i) → P i
          one true true f k e r = rw (eqb-true t.sender i f) at (k refl)
          one true false f k e r = r e
          one false q f k e r = r e

      go : (p : Bool) → ltb i n ≡ p → (p && any (sends i) ts) ≡ true → (i < n) × P i
      go true f e = (ltb-true i n f, found ts h e)
      go false f e = absurd (false≢true e)

  -- and each such sender, if it is a replica, signs
  pub sender-signs : (ts : List Timeout) → All (λ t. gives v x t ≡ true → t.sender < n → signs (backing n v x ts).signers t.sender ≡ true) ts
  sender-signs ts = all_impl _ _ ts (λ t h e l. rw (backing-signs t.sender ts, lt-ltb t.sender n l) (h (rw (e, eq-eqb t.sender t.sender refl)))) (any_self (λ t. sends t.sender) ts)

  -- where there is a backer, what follows from each follows
  pub some_gives : (P : Type 0) (ts : List Timeout) → All (λ t. gives v x t ≡ true → P) ts → 0 < (backing n v x ts).count → P
  unfolding only All
  some_gives P ts h l = found ts h (rw (backing-count ts) at l)
    where
      found : (ts : List Timeout) → All (λ t. gives v x t ≡ true → P) ts → 0 < length (only (gives v x) ts) → P
      found [] h l = absurd (omega arith)
      found (t ∷ ts) h l = one (gives v x t) h.0 l (found ts h.1)
        where
          one : (p : Bool) → (p ≡ true → P) → 0 < length (cond p (t ∷ only (gives v x) ts) (only (gives v x) ts)) → (0 < length (only (gives v x) ts) → P) → P
          one true f l r = f refl
          one false f l r = r l

  pub gives_is : (t : Timeout) → gives v x t ≡ true → (t.high.view.0 ≡ v) × (t.high.name ≡ x)
  unfolding gives
  gives_is t e = let r = and_true (eqb t.high.view.0 v) (same_bytes t.high.name x) e in (eqb-true _ _ r.0, same_eq _ _ r.1)

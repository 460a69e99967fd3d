-- Taking a sender's timeout out of a list of timeouts. Assumes nothing.
use mathlib.Core.Path.{◌≡◌, refl, ap}
use mathlib.Core.Bool.{Bool, true, false, cond, not, ◌||◌, true≢false, false≢true}
use mathlib.Core.List.{List, [], ◌∷◌, ◌++◌}
use Prim.Native.Nat.{ℕ, suc, ◌≤◌, ◌<◌}
use native.Mathlib.Omega.{arith}
use borrow.Author.Tests.{eq-eqb, ne_eqb, eqb-true}
use lib.Dec.{eqb}
use lib.ListN.{length}
use Rattle.codec.proofs.Order.{and_true}
use Rattle.wire.specs.declared.Timeout.{Timeout}
use Rattle.wire.specs.Shape.{any}
use Rattle.certificate.specs.Good.{all}
use Rattle.certificate.specs.Order.{only, Ascending}
use Rattle.decisive.specs.Decisive.{sent_by, without}

-- a number below every sender takes nothing out
pub without_below : (n low i : ℕ) (ts : List Timeout) → Ascending n low ts → i < low → without i ts ≡ ts
unfolding Ascending only
without_below n low i [] a h = refl
without_below n low i (t ∷ ts) a h =
    let l : low ≤ t.sender = a.0 in
    rw (ne_eqb t.sender i (λ e. omega (arith, l)), without_below n (suc t.sender) i ts a.2 (omega (arith, l)))

-- senders ascend up to each timeout
reached : (n low : ℕ) (before : List Timeout) (t : Timeout) (later : List Timeout) → Ascending n low (before ++ t ∷ later) → low ≤ t.sender
unfolding Ascending
reached n low [] t later a = a.0
reached n low (u ∷ before) t later a =
    let l : low ≤ u.sender = a.0 in
    let h = reached n (suc u.sender) before t later a.2 in
    omega (arith, l, h)

-- a timeout's sender takes out that timeout and no other
pub without_one : (n low : ℕ) (before : List Timeout) (t : Timeout) (later : List Timeout) → Ascending n low (before ++ t ∷ later)
    → without t.sender (before ++ t ∷ later) ≡ before ++ later
unfolding Ascending only
without_one n low [] t later a = rw (eq-eqb t.sender t.sender refl) (without_below n (suc t.sender) t.sender later a.2 (omega arith))
without_one n low (u ∷ before) t later a =
    let h = reached n (suc u.sender) before t later a.2 in
    rw (ne_eqb u.sender t.sender (λ e. omega (arith, h)), without_one n (suc u.sender) before t later a.2)

-- one that isn't among the senders takes nothing out; one that is takes out at least one
module _ (i : ℕ) where
  pub without_absent : (ts : List Timeout) → any (sent_by i) ts ≡ false → without i ts ≡ ts
  unfolding any only
  without_absent [] e = refl
  without_absent (t ∷ ts) e = go (eqb t.sender i) e (without_absent ts)
    where
      go : (p : Bool) → (p || any (sent_by i) ts) ≡ false → (any (sent_by i) ts ≡ false → without i ts ≡ ts) → cond (not p) (t ∷ without i ts) (without i ts) ≡ t ∷ ts
      go true h r = absurd (true≢false h)
      go false h r = ap (λ (l : List Timeout). t ∷ l) (r h)

  pub without_most : (ts : List Timeout) → length (without i ts) ≤ length ts
  unfolding only
  without_most [] = omega arith
  without_most (t ∷ ts) = go (eqb t.sender i) (without_most ts)
    where
      go : (p : Bool) → length (without i ts) ≤ length ts → length (cond (not p) (t ∷ without i ts) (without i ts)) ≤ suc (length ts)
      go true h = omega (arith, h)
      go false h = omega (arith, h)

  pub without_fewer : (ts : List Timeout) → any (sent_by i) ts ≡ true → length (without i ts) < length ts
  unfolding any only
  without_fewer [] e = absurd (false≢true e)
  without_fewer (t ∷ ts) e = go (eqb t.sender i) e (without_most ts) (without_fewer ts)
    where
      go : (p : Bool) → (p || any (sent_by i) ts) ≡ true → length (without i ts) ≤ length ts → (any (sent_by i) ts ≡ true → length (without i ts) < length ts)
          → length (cond (not p) (t ∷ without i ts) (without i ts)) < suc (length ts)
      go true h m r = omega (arith, m)
      go false h m r = let k = r h in omega (arith, k)

  -- and where senders ascend, no more than one
  pub without_least : (n low : ℕ) (ts : List Timeout) → Ascending n low ts → length ts ≤ suc (length (without i ts))
  unfolding Ascending only
  without_least n low [] a = omega arith
  without_least n low (t ∷ ts) a = go (eqb t.sender i) refl (without_least n (suc t.sender) ts a.2)
    where
      go : (p : Bool) → eqb t.sender i ≡ p → length ts ≤ suc (length (without i ts)) → suc (length ts) ≤ suc (length (cond (not p) (t ∷ without i ts) (without i ts)))
      go true e r =
          let h : t.sender ≡ i = eqb-true t.sender i e in
          let k : length (without i ts) ≡ length ts = ap length (without_below n (suc t.sender) i ts a.2 (omega (arith, h))) in
          omega (arith, k)
      go false e r = omega (arith, r)

  -- what holds of all holds of those that are left
  pub all_without : (test : Timeout → Bool) (ts : List Timeout) → all test ts ≡ true → all test (without i ts) ≡ true
  unfolding all only
  all_without test [] e = refl
  all_without test (t ∷ ts) e = let h = and_true (test t) (all test ts) e in go (eqb t.sender i) h.0 (all_without test ts h.1)
    where
      go : (p : Bool) → test t ≡ true → all test (without i ts) ≡ true → all test (cond (not p) (t ∷ without i ts) (without i ts)) ≡ true
      go true h k = k
      go false h k = rw (h, k)

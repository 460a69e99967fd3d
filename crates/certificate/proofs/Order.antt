-- The order of certificates is strict and total, up to signers (01: Rank and safe block). Assumes nothing.
use mathlib.Core.Path.{◌≡◌, refl, sym, ◌∙◌}
use mathlib.Core.Logic.{◌↔◌, ◌⊎◌, inl, inr, ⊎_elim}
use mathlib.Core.Bool.{Bool, true, false, cond, true≢false, false≢true}
use Prim.Native.Nat.{ℕ, ◌+◌, ◌*◌, ◌≤◌, ◌<◌}
use native.Mathlib.Omega.{arith}
use borrow.Author.Tests.{lt-ltb, le-ltb, eq-eqb, ne_eqb}
use lib.Dec.{eqb, ltb}
use Rattle.codec.proofs.Order.{which, less_irrefl, less_trans, less_total}
use Rattle.certificate.specs.declared.Certificate.{Certificate}
use Rattle.certificate.specs.Rank.{outranks, tie_break}

-- ---- the order by one number: view first, then block over weak; equal numbers go to the tie-break, whatever that is
abbrev bit : Bool → ℕ
bit p = cond p 1 0

bit_le : (p : Bool) → bit p ≤ 1
bit_le true = omega arith
bit_le false = omega arith

unfoldable pub level : Certificate → ℕ
level k = 2 * k.view.0 + bit k.block

-- m over n, then a tie-break
abbrev pub over : ℕ → ℕ → Bool → Bool
over m n tie = cond (eqb m n) tie (ltb n m)

abbrev ByLevel : ℕ → ℕ → Bool → Bool → Bool → Type 0
ByLevel v w p q tie = cond (eqb v w) (cond p (cond q tie true) (cond q false tie)) (ltb w v) ≡ over (2 * v + bit p) (2 * w + bit q) tie

over_level : (v w : ℕ) (p q tie : Bool) → ByLevel v w p q tie
over_level v w p q tie = ⊎_elim less (⊎_elim (equal p q) more) (which v w)
  where
    less : v < w → ByLevel v w p q tie
    less h = let b = bit_le p in
        rw (ne_eqb v w (omega arith), le-ltb w v (omega arith), ne_eqb (2 * v + bit p) (2 * w + bit q) (omega arith), le-ltb (2 * w + bit q) (2 * v + bit p) (omega arith))

    more : w < v → ByLevel v w p q tie
    more h = let b = bit_le q in
        rw (ne_eqb v w (omega arith), lt-ltb w v h, ne_eqb (2 * v + bit p) (2 * w + bit q) (omega arith), lt-ltb (2 * w + bit q) (2 * v + bit p) (omega arith))

    equal : (p q : Bool) → v ≡ w → ByLevel v w p q tie
    equal true true e = rw (eq-eqb v w e, eq-eqb (2 * v + 1) (2 * w + 1) (omega arith))
    equal true false e = rw (eq-eqb v w e, ne_eqb (2 * v + 1) (2 * w + 0) (omega arith), lt-ltb (2 * w + 0) (2 * v + 1) (omega arith))
    equal false true e = rw (eq-eqb v w e, ne_eqb (2 * v + 0) (2 * w + 1) (omega arith), le-ltb (2 * w + 1) (2 * v + 0) (omega arith))
    equal false false e = rw (eq-eqb v w e, eq-eqb (2 * v + 0) (2 * w + 0) (omega arith))

pub by_level : (a b : Certificate) → outranks a b ≡ over (level a) (level b) (tie_break a b)
unfolding outranks level
by_level a b = over_level a.view.0 b.view.0 a.block b.block (tie_break a b)

-- what the number says of two certificates
pub level_le : (a b : Certificate) → level a ≤ level b → (a.view.0 ≤ b.view.0) × (a.view.0 ≡ b.view.0 → a.block ≡ true → b.block ≡ true)
unfolding level
level_le a b = go a.block b.block
  where
    go : (p q : Bool) → 2 * a.view.0 + bit p ≤ 2 * b.view.0 + bit q → (a.view.0 ≤ b.view.0) × (a.view.0 ≡ b.view.0 → p ≡ true → q ≡ true)
    go true true h = (omega arith, λ e t. refl)
    go true false h = (omega arith, λ e t. absurd (omega arith))
    go false q h = (omega (arith, bit_le q), λ e t. absurd (false≢true t))

pub le_level : (a b : Certificate) → a.view.0 ≤ b.view.0 → (a.view.0 ≡ b.view.0 → a.block ≡ true → b.block ≡ true) → level a ≤ level b
unfolding level
le_level a b h = go a.block b.block
  where
    go : (p q : Bool) → (a.view.0 ≡ b.view.0 → p ≡ true → q ≡ true) → 2 * a.view.0 + bit p ≤ 2 * b.view.0 + bit q
    go true true f = omega arith
    go true false f = ⊎_elim (λ l. omega arith) (⊎_elim (λ e. absurd (false≢true (f e refl))) (λ l. omega arith)) (which a.view.0 b.view.0)
    go false q f = omega arith

level_eq : (a b : Certificate) → level a ≡ level b → (a.block ≡ b.block) × (a.view.0 ≡ b.view.0)
unfolding level
level_eq a b = go a.block b.block
  where
    go : (p q : Bool) → 2 * a.view.0 + bit p ≡ 2 * b.view.0 + bit q → (p ≡ q) × (a.view.0 ≡ b.view.0)
    go true true e = (refl, omega arith)
    go true false e = absurd (omega arith)
    go false true e = absurd (omega arith)
    go false false e = (refl, omega arith)

-- ---- outranks, and outranks not, as a fact: on t's side by the number, or by a tie that the tie-break puts there
abbrev pub Side : Bool → ℕ → ℕ → Type 0
Side true m n = n < m
Side false m n = m < n

abbrev pub Stands : Bool → Certificate → Certificate → Type 0
Stands t a b = Side t (level a) (level b) ⊎ ((level a ≡ level b) × (tie_break a b ≡ t))

pub over_is : (m n : ℕ) (tie t : Bool) → (over m n tie ≡ t) ↔ (Side t m n ⊎ ((m ≡ n) × (tie ≡ t)))
over_is m n tie t = ⊎_elim (less t) (⊎_elim equal (more t)) (which m n)
  where
    less : (t : Bool) → m < n → (over m n tie ≡ t) ↔ (Side t m n ⊎ ((m ≡ n) × (tie ≡ t)))
    less true h = rw (ne_eqb m n (omega arith), le-ltb n m (omega arith)) (λ e. absurd (false≢true e), ⊎_elim (λ l. absurd (omega arith)) (λ l. absurd (omega arith)))
    less false h = (λ e. inl h, λ s. rw (ne_eqb m n (omega arith), le-ltb n m (omega arith)))

    equal : m ≡ n → (over m n tie ≡ t) ↔ (Side t m n ⊎ ((m ≡ n) × (tie ≡ t)))
    equal e = rw (eq-eqb m n e) (λ h. inr (e, h), ⊎_elim (λ l. absurd (side t l)) (λ h. h.1))
      where
        side : (t : Bool) → Side t m n → ⊥
        side true l = omega arith
        side false l = omega arith

    more : (t : Bool) → n < m → (over m n tie ≡ t) ↔ (Side t m n ⊎ ((m ≡ n) × (tie ≡ t)))
    more true h = (λ e. inl h, λ s. rw (ne_eqb m n (omega arith), lt-ltb n m h))
    more false h = rw (ne_eqb m n (omega arith), lt-ltb n m h) (λ e. absurd (true≢false e), ⊎_elim (λ l. absurd (omega arith)) (λ l. absurd (omega arith)))

pub stands : (t : Bool) (a b : Certificate) → (outranks a b ≡ t) ↔ Stands t a b
stands t a b = rw by_level (over_is (level a) (level b) (tie_break a b) t)

-- ---- all that the laws below ask of the tie-break
tie_irrefl : (a : Certificate) → tie_break a a ≡ false
tie_irrefl a = less_irrefl a.name

-- for t = false by totality
tie_trans : (t : Bool) (a b c : Certificate) → tie_break a b ≡ t → tie_break b c ≡ t → tie_break a c ≡ t
tie_trans true a b c p q = less_trans a.name b.name c.name p q
tie_trans false a b c p q = go (tie_break a c) refl
  where
    go : (t : Bool) → tie_break a c ≡ t → t ≡ false
    go false e = refl
    go true e =
        ⊎_elim (λ h. sym h ∙ p) (⊎_elim (λ h. sym (rw h at e) ∙ q) (λ h. sym (less_trans b.name a.name c.name h e) ∙ q))
        (less_total a.name b.name)

tie_same : (a b : Certificate) → tie_break a b ≡ false → tie_break b a ≡ false → a.name ≡ b.name
tie_same a b p q =
    ⊎_elim (λ l. absurd (true≢false (sym l ∙ p))) (⊎_elim (λ e. e) (λ l. absurd (true≢false (sym l ∙ q))))
    (less_total a.name b.name)

-- ---- the laws
pub outranks_irrefl : (a : Certificate) → outranks a a ≡ false
outranks_irrefl a = (stands false a a).1 (inr (refl, tie_irrefl a))

-- for t = true transitive; for t = false so is "doesn't outrank"
pub outranks_trans : (t : Bool) (a b c : Certificate) → outranks a b ≡ t → outranks b c ≡ t → outranks a c ≡ t
outranks_trans t a b c p q = (stands t a c).1 (go ((stands t a b).0 p) ((stands t b c).0 q))
  where
    side : (t : Bool) (l m n : ℕ) → Side t l m → (m ≡ n) ⊎ Side t m n → Side t l n
    side true l m n h = ⊎_elim (λ e. omega arith) (λ k. omega arith)
    side false l m n h = ⊎_elim (λ e. omega arith) (λ k. omega arith)

    go : Stands t a b → Stands t b c → Stands t a c
    go (inl h) (inl k) = inl (side t (level a) (level b) (level c) h (inr k))
    go (inl h) (inr k) = inl (side t (level a) (level b) (level c) h (inl k.0))
    go (inr h) (inl k) = inl (rw h.0 k)
    go (inr h) (inr k) = inr (h.0 ∙ k.0, tie_trans t a b c h.1 k.1)

pub outranks_asym : (a b : Certificate) → outranks a b ≡ true → outranks b a ≡ false
outranks_asym a b p = go (outranks b a) refl
  where
    go : (t : Bool) → outranks b a ≡ t → t ≡ false
    go true e = sym (outranks_trans true a b a p e) ∙ outranks_irrefl a
    go false e = refl

-- of two neither of which outranks the other kind, view and name are the same
pub outranks_total : (a b : Certificate) → outranks a b ≡ false → outranks b a ≡ false → (a.block ≡ b.block) × (a.view.0 ≡ b.view.0) × (a.name ≡ b.name)
outranks_total a b p q = go ((stands false a b).0 p) ((stands false b a).0 q)
  where
    go : Stands false a b → Stands false b a → (a.block ≡ b.block) × (a.view.0 ≡ b.view.0) × (a.name ≡ b.name)
    go (inl h) (inl k) = absurd (omega arith)
    go (inl h) (inr k) = absurd (omega arith)
    go (inr h) (inl k) = absurd (omega arith)
    go (inr h) (inr k) = let e = level_eq a b h.0 in (e.0, e.1, tie_same a b h.1 k.1)

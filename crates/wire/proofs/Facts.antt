-- The tests of the place "shape" as facts: a test that does not apply, and what that says. Assumes nothing.
use mathlib.Core.Path.{◌≡◌, refl, ap}
use mathlib.Core.Logic.Iff
use mathlib.Core.Logic.{◌↔◌, ◌⊎◌, inl, inr, ⊎_elim}
use mathlib.Core.Bool.{Bool, true, false, not, cond, ◌||◌, beq, true≢false, false≢true}
use mathlib.Core.List.{List, [], ◌∷◌, map}
use Prim.Native.Nat.{ℕ, suc, ◌^◌, ◌≤◌, ◌<◌}
use native.Mathlib.Omega.{arith}
use borrow.Author.Tests.{ltb-false, leb-false, eqb-true, eqb-false, not-false, le-ltb, lt-leb, eq-eqb}
use lib.Dec.{eqb, ltb, leb}
use lib.ListN.{length}
use Rattle.settings.specs.Answer.{accepts, refuses, Rule, judge}
use Rattle.codec.specs.Names.{same_bytes, zero_name}
use Rattle.codec.proofs.Order.{same_eq, eq_same, same_ne, ne_same}
use Rattle.wire.specs.Fields.{header_length, length_of, kind_of, sender_of, view_of, high_view_of, high_name_of, carried_kind_of, carried_padding, carried_signers_of}
use Rattle.wire.specs.Content.{timeout_of}
use Rattle.wire.specs.Shape.{any, frame_bad, carried_kind_bad, slot_kind_bad, beyond, half_empty, timeout_value_bad, slot_value_bad, slots_value_bad}
use Rattle.wire.specs.Fit.{All, TimeoutProper, TimeoutsProper}

-- ---- a test does not apply, piece by piece
abbrev pub Off : Bool → Type 0 → Type 0
Off t P = (t ≡ false) ↔ P

pub off_or : {P Q : Type 0} {p q : Bool} → Off p P → Off q Q → Off (p || q) (P × Q)
off_or {p = true} f g = (λ e. absurd (true≢false e), λ h. absurd (true≢false (f.1 h.0)))
off_or {p = false} f g = (λ e. (f.0 refl, g.0 e), λ h. g.1 h.1)

pub off_eq : (a b : ℕ) → Off (not (eqb a b)) (a ≡ b)
off_eq a b = (λ e. eqb-true a b (not-false (eqb a b) e), λ e. ap not (eq-eqb a b e))

pub off_lt : (a b : ℕ) → Off (ltb a b) (b ≤ a)
off_lt a b = (ltb-false a b, le-ltb a b)

pub off_le : (a b : ℕ) → Off (leb a b) (b < a)
off_le a b = (leb-false a b, lt-leb a b)

pub off_same : (a b : List ℕ) → Off (same_bytes a b) (a ≡ b → ⊥)
off_same a b = (same_ne a b, ne_same a b)

pub off_never : Off false (Unit {0})
off_never = (λ e. tt, λ e. refl)

off_either : (a b c : ℕ) → Off (cond (eqb a b) false (not (eqb a c))) ((a ≡ b) ⊎ (a ≡ c))
off_either a b c = go (eqb a b) refl
  where
    go : (t : Bool) → eqb a b ≡ t → Off (cond t false (not (eqb a c))) ((a ≡ b) ⊎ (a ≡ c))
    go true e = (λ h. inl (eqb-true a b e), λ h. refl)
    go false e = (λ h. inr ((off_eq a c).0 h), ⊎_elim (λ h. absurd (eqb-false a b e h)) (off_eq a c).1)

off_differ : {P Q : Type 0} (p q : Bool) → (p ≡ true) ↔ P → (q ≡ true) ↔ Q → Off (not (beq p q)) ((P → Q) × (Q → P))
off_differ true true f g = (λ e. (λ h. g.0 refl, λ h. f.0 refl), λ h. refl)
off_differ true false f g = (λ e. absurd (true≢false e), λ h. absurd (false≢true (g.1 (h.0 (f.0 refl)))))
off_differ false true f g = (λ e. absurd (true≢false e), λ h. absurd (false≢true (f.1 (h.1 (g.0 refl)))))
off_differ false false f g = (λ e. (λ h. absurd (false≢true (f.1 h)), λ h. absurd (false≢true (g.1 h))), λ h. refl)

pub off_any : {A : Type 0} (test : A → Bool) (P : A → Type 0) → ((x : A) → Off (test x) (P x)) → (l : List A) → Off (any test l) (All P l)
unfolding any All
off_any test P f [] = off_never
off_any test P f (x ∷ l) = off_or (f x) (off_any test P f l)

-- ---- no rule applies
abbrev pub Quiet : List Rule → Type 0
Quiet [] = Unit {0}
Quiet (r ∷ rules) = (r.test ≡ false) × Quiet rules

pub off_judge : {A : Type 0} (rules : List Rule) (a b : A) → (judge rules a ≡ accepts b) ↔ (Quiet rules × (a ≡ b))
unfolding judge
off_judge [] a b = (λ e. (tt, cc), λ h. ap accepts h.1)
off_judge {A} (r ∷ rules) a b = go r.test refl (off_judge rules a b)
  where
    go : (t : Bool) → r.test ≡ t → (judge rules a ≡ accepts b) ↔ (Quiet rules × (a ≡ b))
        → (cond t (refuses r.number) (judge rules a) ≡ accepts b) ↔ (((t ≡ false) × Quiet rules) × (a ≡ b))
    go true e f = (λ h. absurd (let z : ◌≡◌ {A = ℕ} 0 1 = cc in omega arith), λ h. absurd (true≢false h.0.0))
    go false e f = (λ h. ((refl, (f.0 h).0), (f.0 h).1), λ h. f.1 (h.0.1, h.1))

-- ---- the tests of 3, 4 and 5
abbrev pub Framed : List ℕ → Type 0
Framed r = (header_length ≤ length r) × (length_of r ≡ length r)

pub off_frame : (r : List ℕ) → Off (frame_bad r) (Framed r)
unfolding frame_bad
off_frame r = off_or (off_lt (length r) header_length) (off_eq (length_of r) (length r))

abbrev CarriedKind : List ℕ → Type 0
CarriedKind r = (carried_kind_of r ≡ 3) ⊎ (carried_kind_of r ≡ 4)

off_carried : (r : List ℕ) → Off (carried_kind_bad r) (CarriedKind r)
unfolding carried_kind_bad
off_carried r = off_either (carried_kind_of r) 3 4

pub off_beyond : (n g : ℕ) → Off (beyond n g) (g < 2 ^ n)
unfolding beyond
off_beyond n g = off_le (2 ^ n) g

off_half : (v : ℕ) (x : List ℕ) → Off (half_empty v x) ((v ≡ 0 → x ≡ zero_name) × (x ≡ zero_name → v ≡ 0))
unfolding half_empty
off_half v x = off_differ (eqb v 0) (same_bytes x zero_name) (eqb-true v 0, eq-eqb v 0) (same_eq x zero_name, eq_same x zero_name)

-- a timeout's values: padding; no half-empty high vote; no signer of n or above
abbrev Valued : ℕ → List ℕ → Type 0
Valued n r = (carried_padding r ≡ 0) × (((high_view_of r ≡ 0 → high_name_of r ≡ zero_name) × (high_name_of r ≡ zero_name → high_view_of r ≡ 0)) × (carried_signers_of r < 2 ^ n))

off_valued : (n : ℕ) (r : List ℕ) → Off (timeout_value_bad n r) (Valued n r)
unfolding timeout_value_bad
off_valued n r = off_or (off_eq (carried_padding r) 0) (off_or (off_half (high_view_of r) (high_name_of r)) (off_beyond n (carried_signers_of r)))

-- a timeout by itself
pub off_timeout : (n : ℕ) (r : List ℕ) → ((carried_kind_bad r ≡ false) × (timeout_value_bad n r ≡ false)) ↔ ((carried_padding r ≡ 0) × TimeoutProper n (timeout_of r))
unfolding timeout_of
off_timeout n r = (
  λ h. let (p, ((a, b), g)) = (off_valued n r).0 h.1 in
      (p, record { kind = (off_carried r).0 h.0; named = a; viewed = b; signers = g }),
  λ h. let t = h.1 in ((off_carried r).1 t.kind, (off_valued n r).1 (h.0, ((t.named, t.viewed), t.signers))),
)

-- the timeouts inside a timeout certificate
abbrev pub Slot : List ℕ → Type 0
Slot r = (kind_of r ≡ 5) × (carried_padding r ≡ 0)

off_slot_kind : (r : List ℕ) → Off (slot_kind_bad r) ((kind_of r ≡ 5) × (carried_kind_bad r ≡ false))
unfolding slot_kind_bad
off_slot_kind r = off_or (off_eq (kind_of r) 5) Iff.rfl

off_slot_value : (n view low : ℕ) (r : List ℕ) → Off (slot_value_bad n view low r) ((view_of r ≡ view) × ((low ≤ sender_of r) × ((sender_of r < n) × (timeout_value_bad n r ≡ false))))
unfolding slot_value_bad
off_slot_value n view low r = off_or (off_eq (view_of r) view) (off_or (off_lt (sender_of r) low) (off_or (off_le n (sender_of r)) Iff.rfl))

pub off_slots : (n view low : ℕ) (l : List (List ℕ)) → ((any slot_kind_bad l ≡ false) × (slots_value_bad n view low l ≡ false)) ↔ (All Slot l × TimeoutsProper n view low (map timeout_of l))
unfolding any slots_value_bad All TimeoutsProper timeout_of
off_slots n view low [] = (λ h. (tt, tt), λ h. (refl, refl))
off_slots n view low (r ∷ l) =
    let A = off_or (off_slot_kind r) (Iff.rfl {A = any slot_kind_bad l ≡ false}) in
    let B = off_or (off_slot_value n view low r) (Iff.rfl {A = slots_value_bad n view (suc (sender_of r)) l ≡ false}) in
    let rec = off_slots n view (suc (sender_of r)) l in (
      λ h. let ((k, c), cs) = A.0 h.0 in
          let ((v, (low, (high, w))), ws) = B.0 h.1 in
          let (p, t) = (off_timeout n r).0 (c, w) in
          let (ss, ts) = rec.0 (cs, ws) in
          (((k, p), ss), (v, low, high, t, ts)),
      λ h. let (((k, p), ss), (v, low, high, t, ts)) = h in
          let (c, w) = (off_timeout n r).1 (p, t) in
          let (cs, ws) = rec.1 (ss, ts) in
          (A.1 ((k, c), cs), B.1 ((v, (low, (high, w))), ws)),
    )

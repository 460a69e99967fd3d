-- The refusals of the call: by number, as the code asks them, and what a record that passes them is. Assumes nothing.
use mathlib.Core.Path.{◌≡◌, refl, sym, ap, ◌∙◌}
use mathlib.Core.Logic.Iff
use mathlib.Core.Bool.{Bool, true, false, cond, not, ◌&&◌, ◌||◌, false≢true}
use mathlib.Core.List.{List, [], ◌∷◌, ◌++◌}
use Prim.Native.Nat.{ℕ, zero, suc, ◌+◌, ◌*◌, ◌≤◌, ◌<◌}
use native.Mathlib.Omega.{arith}
use borrow.Author.Tests.{eq-eqb, ne_eqb, eqb-true, le-leb, lt-leb, ltb-false, not-false}
use lib.Dec.{eqb, ltb, leb}
use lib.ListN.{length, drop}
use Rattle.settings.specs.declared.Settings.{Settings}
use Rattle.settings.specs.Answer.{Answer, accepts, refuses, Rule, ◌⇒◌, judge}
use Rattle.settings.specs.Quorum.{largest, replicas, last_view}
use Rattle.settings.specs.Opening.{settings_rules, opening_rules, opening}
use Rattle.wire.specs.declared.Timeout.{Timeout}
use Rattle.wire.specs.Fields.{kind_of, sender_of, view_of, count_of, count_padding, slots, timeouts_head, timeout_length}
use Rattle.wire.specs.Content.{by_timeouts, certificate_of}
use Rattle.wire.specs.Shape.{any, frame_bad, timeouts_length, certificate_length, kind_length, bad_length, slot_kind_bad, certificate_kind_bad, bad_kind, slots_value_bad, certificate_value_bad, bad_value, shape_rules}
use Rattle.wire.specs.Fit.{TimeoutsProper}
use Rattle.wire.proofs.Facts.{Quiet, off_judge, off_or, off_eq, off_lt, off_slots}
use Rattle.certificate.specs.Good.{progress_good}
use Rattle.certificate.specs.Order.{Ascending}
use Rattle.certificate.proofs.Backing.{proper_ascending}
use Rattle.certificate.proofs.Timeouts.{count_timeouts}
use Rattle.protocol.proofs.call.Regions.{judge_past}
use Rattle.refusals.specs.Number.{answer_of, first_of, or_else, numbered}
use Rattle.refusals.proofs.Numbers.{hit, skip, none, or_left, or_none, and_not, answer_first, first_then, numbered_then, else_some, else_none}
use Rattle.decisive.specs.Decisive.{form_rules, certificate_rules, record_rules, timeouts_in, Whose, decisive, decisive_call}

-- ---- 3, 4 and 5, as the code asks them
module _ (n : ℕ) (r : List ℕ) where
  pub bad_frame : frame_bad r ≡ true → 3 ≡ first_of (form_rules n r)
  unfolding form_rules
  bad_frame e = hit _ _ (or_left _ _ e)

  pub other_kind : frame_bad r ≡ false → (kind_of r ≡ 6 → ⊥) → 4 ≡ first_of (form_rules n r)
  unfolding form_rules
  other_kind e h =
      let k = ne_eqb (kind_of r) 6 h in
      skip _ _ (or_none _ _ e (and_not _ _ k)) (hit _ _ (or_left _ _ (ap not k)))

  -- a record of kind 6 is asked what the place "shape" asks
  pub form_is : kind_of r ≡ 6 → form_rules n r ≡ shape_rules n r
  unfolding form_rules bad_length
  form_is h = go (eqb (kind_of r) 6) (eq-eqb (kind_of r) 6 h)
    where
      go : (p : Bool) → p ≡ true → ((frame_bad r || (p && kind_length r)) ⇒ 3 ∷ (not p || bad_kind r) ⇒ 4 ∷ bad_value n r ⇒ 5 ∷ []) ≡ shape_rules n r
      go true e = refl
      go false e = absurd (false≢true e)

-- and its certificate is of its timeouts
pub six_is : (r : List ℕ) → kind_of r ≡ 6 → certificate_of r ≡ by_timeouts (view_of r) (timeouts_in r)
unfolding certificate_of
six_is r h = rw h

-- ---- 6 to 9, as the code asks them
module _ (s : Settings) (n : ℕ) (r : List ℕ) where
  pub not_member : n ≤ sender_of r → 6 ≡ first_of (certificate_rules s n r)
  unfolding certificate_rules
  not_member h = hit _ _ (le-leb _ _ h)

  module _ (member : sender_of r < n) where
    pub view_zero : view_of r ≡ 0 → 7 ≡ first_of (certificate_rules s n r)
    unfolding certificate_rules
    view_zero h = skip _ _ (lt-leb _ _ member) (hit _ _ (eq-eqb _ _ h))

    module _ (some : view_of r ≡ 0 → ⊥) where
      pub view_last : last_view ≤ view_of r → 8 ≡ first_of (certificate_rules s n r)
      unfolding certificate_rules
      view_last h = skip _ _ (lt-leb _ _ member) (skip _ _ (ne_eqb _ _ some) (hit _ _ (le-leb _ _ h)))

      module _ (below : view_of r < last_view) (six : kind_of r ≡ 6) {good : Bool} (e : good ≡ progress_good s (by_timeouts (view_of r) (timeouts_in r))) where
        is_good_lem : progress_good s (certificate_of r) ≡ good
        is_good_lem = ap (progress_good s) (six_is r six) ∙ sym e

        pub certificate_good : good ≡ true → 0 ≡ first_of (certificate_rules s n r)
        unfolding certificate_rules
        certificate_good h =
            skip _ _ (lt-leb _ _ member) (skip _ _ (ne_eqb _ _ some) (skip _ _ (lt-leb _ _ below) (skip _ _ (ap not (is_good_lem ∙ h)) none)))

        pub certificate_bad : good ≡ false → 9 ≡ first_of (certificate_rules s n r)
        unfolding certificate_rules
        certificate_bad h =
            skip _ _ (lt-leb _ _ member) (skip _ _ (ne_eqb _ _ some) (skip _ _ (lt-leb _ _ below) (hit _ _ (ap not (is_good_lem ∙ h)))))

-- senders that ascend below n are at most n
ascending_few : (n low : ℕ) (ts : List Timeout) → Ascending n low ts → low ≤ n → low + length ts ≤ n
unfolding Ascending
ascending_few n low [] a h = omega (arith, h)
ascending_few n low (t ∷ ts) a h =
    let l : low ≤ t.sender = a.0 in
    let m : t.sender < n = a.1 in
    let rest = ascending_few n (suc t.sender) ts a.2 (omega (arith, m)) in
    omega (arith, l, rest)

-- ---- a record that has its form
pub record Formed (n : ℕ) (r : List ℕ) : Type 0 where
  pub kind : kind_of r ≡ 6
  pub size : length r ≡ timeouts_head + timeout_length * count_of r
  pub proper : TimeoutsProper n (view_of r) 0 (timeouts_in r)

module _ (n : ℕ) (r : List ℕ) where
  six_size : kind_of r ≡ 6 → kind_length r ≡ false → length r ≡ timeouts_head + timeout_length * count_of r
  unfolding kind_length certificate_length timeouts_length
  six_size k e = ((off_or (off_lt (length r) timeouts_head) (off_or (off_eq (length r) (timeouts_head + timeout_length * count_of r)) (Iff.rfl {A = any frame_bad (slots r) ≡ false}))).0 (rw k at e)).1.0

  six_kinds : kind_of r ≡ 6 → bad_kind r ≡ false → any slot_kind_bad (slots r) ≡ false
  unfolding bad_kind certificate_kind_bad
  six_kinds k e = rw k at e

  six_values : kind_of r ≡ 6 → bad_value n r ≡ false → slots_value_bad n (view_of r) 0 (slots r) ≡ false
  unfolding bad_value certificate_value_bad
  six_values k e = ((off_or (off_eq (count_padding r) 0) (Iff.rfl {A = slots_value_bad n (view_of r) 0 (slots r) ≡ false})).0 (rw k at e)).1

  pub formed : Quiet (form_rules n r) → Formed n r
  unfolding form_rules
  formed q =
      let is6 = eqb (kind_of r) 6 in
      let (a, (b, (c, _))) = q in
      let x : (is6 ≡ true) × (bad_kind r ≡ false) = (off_or {P = is6 ≡ true} (not-false is6, ap not) Iff.rfl).0 b in
      let k = eqb-true (kind_of r) 6 x.0 in
      let l : kind_length r ≡ false = rw k at ((off_or {P = frame_bad r ≡ false} Iff.rfl Iff.rfl).0 a).1 in
      record { kind = k; size = six_size k l; proper = ((off_slots n (view_of r) 0 (slots r)).0 (six_kinds k x.1, six_values k c)).1 }

-- its timeouts are as many as replicas at most, and ascend
module _ {n : ℕ} {r : List ℕ} (F : Formed n r) where
  pub ascends : Ascending n 0 (timeouts_in r)
  ascends = proper_ascending n (view_of r) 0 (timeouts_in r) F.proper

  pub few : count_of r ≤ n
  few =
      let c : length (timeouts_in r) ≡ count_of r = count_timeouts (count_of r) (drop timeouts_head r) in
      let l = ascending_few n 0 (timeouts_in r) ascends (omega arith) in
      omega (arith, c, l)

-- ---- one list of rules after another
module _ (a : Whose) where
  numbers_two : (A B : List Rule) → numbered A ≡ true → numbered B ≡ true → judge (A ++ B) a ≡ answer_of (or_else (first_of A) (first_of B)) a
  numbers_two A B x y = answer_first (A ++ B) a (numbered_then A B x y) ∙ ap (λ (k : ℕ). answer_of k a) (first_then A B x)

  some_refuses : (k : ℕ) → (k ≡ 0 → ⊥) → answer_of k a ≡ refuses k
  unfolding answer_of
  some_refuses zero h = absurd (h refl)
  some_refuses (suc k) h = refl

quiet : (rules : List Rule) → numbered rules ≡ true → first_of rules ≡ 0 → Quiet rules
unfolding answer_of
quiet rules e h = ((off_judge {A = ℕ} rules 0 0).0 (answer_first rules 0 e ∙ ap (λ (k : ℕ). answer_of k 0) h)).0

module _ (s : Settings) (n : ℕ) (r : List ℕ) where
  form_numbered : numbered (form_rules n r) ≡ true
  unfolding numbered form_rules
  form_numbered = refl

  certificate_numbered : numbered (certificate_rules s n r) ≡ true
  unfolding numbered certificate_rules
  certificate_numbered = refl

  pub form_passed : first_of (form_rules n r) ≡ 0 → Formed n r
  form_passed e = formed n r (quiet (form_rules n r) form_numbered e)

  module _ (a : Whose) where
    abbrev judged : Answer Whose
    judged = judge (record_rules s n r) a

    both : judged ≡ answer_of (or_else (first_of (form_rules n r)) (first_of (certificate_rules s n r))) a
    both = numbers_two a (form_rules n r) (certificate_rules s n r) form_numbered certificate_numbered

    pub form_refuses : {k : ℕ} → k ≡ first_of (form_rules n r) → (k ≡ 0 → ⊥) → judged ≡ refuses k
    form_refuses {k} e h =
        both ∙ ap (λ (m : ℕ). answer_of m a) (else_some _ _ (λ x. h (e ∙ x)) ∙ sym e) ∙ some_refuses a k h

    pub certificate_refuses : {k : ℕ} → first_of (form_rules n r) ≡ 0 → k ≡ first_of (certificate_rules s n r) → (k ≡ 0 → ⊥) → judged ≡ refuses k
    certificate_refuses {k} f e h =
        both ∙ ap (λ (m : ℕ). answer_of m a) (else_none _ _ f ∙ sym e) ∙ some_refuses a k h

    pub record_accepts : first_of (form_rules n r) ≡ 0 → first_of (certificate_rules s n r) ≡ 0 → judged ≡ accepts a
    unfolding answer_of
    record_accepts f e = both ∙ ap (λ (m : ℕ). answer_of m a) (else_none _ _ f ∙ e)

-- ---- 1: settings that an opening with own number 0 takes, and settings that it refuses
module _ (f c k n : ℕ) (r : List ℕ) where
  abbrev s₀ : Settings
  s₀ = record { f = f; c = c; k = k }

  pub settings_taken : (s : Settings) → opening f c k n 0 ≡ accepts s → (s₀ ≡ s) × ((n ≡ replicas s) × (n ≤ largest))
  unfolding opening opening_rules
  settings_taken s e =
      let x = (off_judge (opening_rules s₀ n 0) s₀ s).0 e in
      let (a, (b, _)) = x.0 in
      (x.1, ((off_eq n (replicas s₀)).0 a ∙ ap replicas x.1, ltb-false largest n b))

  pub settings_pass : (s : Settings) → opening f c k n 0 ≡ accepts s → decisive_call f c k n r ≡ judge (record_rules s n r) (decisive s (timeouts_in r))
  unfolding opening opening_rules decisive_call
  settings_pass s e =
      let x = (off_judge (opening_rules s₀ n 0) s₀ s).0 e in
      let (a, (b, _)) = x.0 in
      judge_past (decisive s₀ (timeouts_in r)) (settings_rules s₀ n) (record_rules s₀ n r) (a, (b, tt))
      ∙ ap (λ (t : Settings). judge (record_rules t n r) (decisive t (timeouts_in r))) x.1

  pub settings_refused : (refusal : ℕ) → opening f c k n 0 ≡ refuses refusal → decisive_call f c k n r ≡ refuses refusal
  unfolding opening opening_rules decisive_call judge
  settings_refused refusal e = go (eqb n (replicas s₀)) refl (ltb largest n) e
    where
      go : (p : Bool) → eqb n (replicas s₀) ≡ p → (q : Bool)
          → cond (not p) (refuses 1) (cond q (refuses 1) (cond (leb n 0) (refuses 1) (accepts s₀))) ≡ refuses refusal
          → cond (not p) (refuses 1) (cond q (refuses 1) (judge (record_rules s₀ n r) (decisive s₀ (timeouts_in r)))) ≡ refuses refusal
      go false x q h = ap refuses (let z : ◌≡◌ {A = ℕ} 1 refusal = cc in z)
      go true x true h = ap refuses (let z : ◌≡◌ {A = ℕ} 1 refusal = cc in z)
      go true x false h =
          let m = eqb-true n (replicas s₀) x in
          let z : leb n 0 ≡ false = lt-leb n 0 (omega (arith, m)) in
          let y : accepts s₀ ≡ refuses refusal = rw z at h in
          absurd (let w : ◌≡◌ {A = ℕ} 0 1 = cc in omega arith)

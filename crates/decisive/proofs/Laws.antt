-- The laws of the call (specs/Laws.antt): its refusals stand in the papers' order and are those of a replica; what an answer says of the record. Assumes nothing.
use mathlib.Core.Path.{◌≡◌, refl, sym, ap, ap₂, ◌∙◌}
use mathlib.Core.Bool.{Bool, true, false, cond, not, ◌&&◌, ◌||◌}
use mathlib.Core.List.{List, [], ◌∷◌, ◌++◌}
use Prim.Native.Nat.{ℕ, ◌≤◌, ◌<◌}
use native.Mathlib.Omega.{arith}
use borrow.Author.Tests.{eq-eqb, le-ltb, le-leb, ltb-true, leb-true, not-false}
use lib.Dec.{eqb, ltb, leb}
use lib.ListN.{length, drop}
use Rattle.settings.specs.declared.Settings.{Settings}
use Rattle.settings.specs.Answer.{Answer, accepts, refuses, Rule, judge}
use Rattle.settings.specs.Quorum.{largest, replicas, timeout_quorum}
use Rattle.settings.specs.Opening.{settings_rules}
use Rattle.codec.proofs.Order.{and_true}
use Rattle.wire.specs.declared.Timeout.{Timeout}
use Rattle.wire.specs.Fields.{kind_of, sender_of, view_of, count_of, timeouts_head}
use Rattle.wire.specs.Content.{by_timeouts, certificate_of, certificate, content}
use Rattle.wire.specs.Shape.{any, shape_rules}
use Rattle.wire.proofs.Facts.{Quiet, off_judge}
use Rattle.certificate.specs.Good.{all, timeout_good, progress_good}
use Rattle.certificate.proofs.Timeouts.{count_timeouts}
use Rattle.memory.specs.Leaders.{Leading}
use Rattle.protocol.specs.Work.{Work, n}
use Rattle.protocol.specs.Refusals.{output_length, regular, region_rules, refusals}
use Rattle.protocol.specs.Calls.{Replica, begin, outcome, record_refusals, record_core, record_call}
use Rattle.protocol.specs.OneCall.{place, in_order, Passes}
use Rattle.refusals.specs.Number.{number_of, first_of}
use Rattle.refusals.proofs.Numbers.{number_first}
use Rattle.decisive.specs.Decisive.{sent_by, without, safe_block, is_decisive, Whose, none, named, decisive, form_rules, certificate_rules, record_rules, decisive_rules, timeouts_in, decisive_call}
use Rattle.decisive.specs.Laws.{decisive_order, DecisiveInOrder, NoOtherNumber, Judges, RefusesAsReplica, Decides, NobodyDecides, settings, NamedDecides, NoneDecides, NoneOfExactlyEnough}
use Rattle.decisive.proofs.Taking.{without_absent, without_fewer, without_least, all_without}
use Rattle.decisive.proofs.Search.{none_of_few, named_has, lower_not, none_not, decisive_enough, decisive_changes, not_decisive}
use Rattle.decisive.proofs.Rules.{form_is, six_is, Formed, formed, ascends}

-- ---- the order of the refusals
pub decisive_in_order : DecisiveInOrder
unfolding place in_order form_rules certificate_rules
decisive_in_order s n r = refl

-- what has a place behind another number's has a place
placed : (order : List ℕ) (b k : ℕ) → 0 < length (place (place order b) k) → 0 < length (place order k)
unfolding place
placed [] b k h = h
placed (x ∷ order) b k h = go (eqb x b) h (placed order b k)
  where
    go : (p : Bool) → 0 < length (place (cond p (x ∷ order) (place order b)) k) → (0 < length (place (place order b) k) → 0 < length (place order k))
        → 0 < length (cond (eqb x k) (x ∷ order) (place order k))
    go true g rest = g
    go false g rest = here (eqb x k) (rest g)
      where
        here : (q : Bool) → 0 < length (place order k) → 0 < length (cond q (x ∷ order) (place order k))
        here true g = omega arith
        here false g = g

-- the number of a refusal is that of a rule, and so has a place in the order of the rules
refusal_placed : {A : Type 0} (order : List ℕ) (rules : List Rule) (a : A) (k : ℕ) → in_order order rules ≡ true → judge rules a ≡ refuses k → 0 < length (place order k)
unfolding in_order judge
refusal_placed order [] a k o e = absurd (let z : ◌≡◌ {A = ℕ} 0 1 = cc in omega arith)
refusal_placed {A} order (r ∷ rules) a k o e =
    let x = and_true (ltb 0 (length (place order r.number))) _ o in
    go r.test e (ltb-true 0 _ x.0) (λ h. placed order r.number k (refusal_placed (place order r.number) rules a k x.1 h))
  where
    go : (t : Bool) → ◌≡◌ {A = Answer A} (cond t (refuses r.number) (judge rules a)) (refuses k) → 0 < length (place order r.number)
        → (judge rules a ≡ refuses k → 0 < length (place order k)) → 0 < length (place order k)
    go true h here rest = let z : r.number ≡ k = cc in rw z at here
    go false h here rest = rest h

pub no_other_number : NoOtherNumber
unfolding decisive_call
no_other_number f c k n a r e = refusal_placed decisive_order (decisive_rules (settings f c k) n r) _ a (decisive_in_order (settings f c k) n r) e

-- ---- as a replica refuses
first_past : (rules more : List Rule) → Quiet rules → first_of (rules ++ more) ≡ first_of more
unfolding first_of
first_past [] more q = refl
first_past (r ∷ rules) more q = rw q.0 (first_past rules more q.1)

number_outcome : (R : Replica) (output : List ℕ) (x : Answer Work) → number_of (outcome R output x).reply ≡ number_of x
unfolding outcome number_of
number_outcome R output (accepts W) = refl
number_outcome R output (refuses a) = refl

-- a replica that has not left the view: 7 is for view 0 alone
below_is : (v now : ℕ) → (v < now → v ≡ 0) → (ltb v now || eqb v 0) ≡ eqb v 0
below_is v now h = go (ltb v now) refl
  where
    go : (p : Bool) → ltb v now ≡ p → (p || eqb v 0) ≡ eqb v 0
    go true e = sym (eq-eqb v 0 (h (ltb-true v now e)))
    go false e = refl

module _ (R : Replica) where
  passes_few : Passes R → n (begin R) ≤ largest
  unfolding region_rules regular
  passes_few p =
      let q = ((off_judge (region_rules (begin R) output_length) tt tt).0 (p output_length (omega arith))).0 in
      leb-true _ _ (and_true _ _ (not-false _ q.1.1.1.0)).0

-- what each of them asks of a record of kind 6, once settings and regions have passed: from 6 on, and all of it
content_is : (r : List ℕ) → kind_of r ≡ 6 → content r ≡ certificate (sender_of r) (by_timeouts (view_of r) (timeouts_in r))
unfolding content certificate_of
content_is r six = rw six

certificate_alike : (lead : Leading) (R : Replica) (f c k m : ℕ) (r : List ℕ) → Judges R f c k m r → kind_of r ≡ 6
    → certificate_rules (settings f c k) m r ≡ refusals (begin R) lead r (certificate (sender_of r) (by_timeouts (view_of r) (timeouts_in r)))
unfolding certificate_rules refusals
certificate_alike lead R f c k m r J six =
    rw (J.count, J.cluster, below_is (view_of r) R.counters.view.0 J.current, six_is r six)

asked_alike : (lead : Leading) (R : Replica) (f c k m : ℕ) (r : List ℕ) → Judges R f c k m r → kind_of r ≡ 6
    → record_rules (settings f c k) m r ≡ shape_rules (n (begin R)) r ++ refusals (begin R) lead r (content r)
asked_alike lead R f c k m r J six =
    ap₂ (λ (a b : List Rule). a ++ b) (form_is m r six ∙ ap (λ (i : ℕ). shape_rules i r) J.count)
    (certificate_alike lead R f c k m r J six ∙ ap (refusals (begin R) lead r) (sym (content_is r six)))

pub refuses_as_replica : RefusesAsReplica
unfolding decisive_call record_call record_core
refuses_as_replica lead R output f c k m r J room six =
    let s = settings f c k in
    let W = begin R in
    let few = passes_few R J.passes in
    let count : m ≡ replicas s = rw J.cluster at J.count in
    let q = ((off_judge (region_rules W (length output)) tt tt).0 (J.passes (length output) room)).0 in
    number_first (decisive_rules s m r) (decisive s (timeouts_in r))
    ∙ first_past (settings_rules s m) (record_rules s m r) (ap not (eq-eqb m (replicas s) count), (le-ltb largest m (omega (arith, few, J.count)), tt))
    ∙ ap first_of (asked_alike lead R f c k m r J six)
    ∙ sym (number_outcome R output (record_core lead R (length output) r)
    ∙ number_first (record_refusals lead R (length output) r) _
    ∙ first_past (region_rules W (length output)) (shape_rules (n W) r ++ refusals W lead r (content r)) q)

-- ---- the answer
module _ (f c k m : ℕ) (r : List ℕ) where
  abbrev s : Settings
  s = settings f c k

  abbrev ts : List Timeout
  ts = timeouts_in r

  record Taken (w : Whose) : Type 0 where
    form : Formed m r
    good : progress_good s (by_timeouts (view_of r) ts) ≡ true
    answer : decisive s ts ≡ w

  taken : (w : Whose) → decisive_call f c k m r ≡ accepts w → Taken w
  unfolding decisive_call form_rules certificate_rules
  taken w e =
      let x = (off_judge (decisive_rules s m r) (decisive s ts) w).0 e in
      let (a, (b, (c₃, (c₄, (c₅, (c₆, (c₇, (c₈, (c₉, _))))))))) = x.0 in
      let F : Formed m r = formed m r (c₃, (c₄, (c₅, tt))) in
      record { form = F; good = ap (progress_good s) (sym (six_is r F.kind)) ∙ not-false (progress_good s (certificate_of r)) c₉; answer = x.1 }

  -- a good certificate's parts
  good_parts : (v : ℕ) (l : List Timeout) → progress_good s (by_timeouts v l) ≡ true → (ltb 0 v ≡ true) × (all (timeout_good s) l ≡ true)
  unfolding progress_good
  good_parts v l e =
      let many = leb (timeout_quorum s) (length l) in
      let good = all (timeout_good s) l in
      let x = and_true (ltb 0 v) (many && good) e in
      (x.0, (and_true many good x.1).1)

  good_again : (v : ℕ) (l : List Timeout) → ltb 0 v ≡ true → timeout_quorum s ≤ length l → all (timeout_good s) l ≡ true → progress_good s (by_timeouts v l) ≡ true
  unfolding progress_good
  good_again v l a b d = rw (a, le-leb _ _ b, d)

  -- taking out a sender that isn't there, or that isn't decisive and leaves enough, changes nothing
  stays : (j : ℕ) → (any (sent_by j) ts ≡ true → is_decisive s ts j ≡ false) → timeout_quorum s ≤ length (without j ts) → safe_block s (without j ts) ≡ safe_block s ts
  stays j h enough = go (any (sent_by j) ts) refl
    where
      go : (p : Bool) → any (sent_by j) ts ≡ p → safe_block s (without j ts) ≡ safe_block s ts
      go true e = not_decisive s ts j (h e) enough
      go false e = ap (safe_block s) (without_absent j ts e)

  named_law : (i : ℕ) → decisive_call f c k m r ≡ accepts (named i) → Decides s r i
  named_law i e =
      let T = taken (named i) e in
      let A = ascends T.form in
      let x = named_has s ts i ts T.answer in
      let enough = decisive_enough s ts i x.1 in
      let fewer = without_fewer i ts x.0 in
      let least = without_least i m 0 ts A in
      let g = good_parts (view_of r) ts T.good in
      record {
        sends = x.0;
        once = omega (arith, fewer, least);
        good = good_again (view_of r) (without i ts) g.0 enough (all_without i (timeout_good s) ts g.1);
        changes = decisive_changes s ts i x.1;
        lowest = λ j h. let l = without_least j m 0 ts A in stays j (λ d. lower_not s ts m 0 i j ts A T.answer h d) (omega (arith, enough, fewer, l));
      }

  none_law : decisive_call f c k m r ≡ accepts none → NobodyDecides s r
  none_law e = let T = taken none e in record { stays = λ j h. stays j (λ d. none_not s ts j ts T.answer d) h }

  enough_law : (w : Whose) → count_of r ≡ timeout_quorum s → decisive_call f c k m r ≡ accepts w → w ≡ none
  enough_law w h e =
      let d : length ts ≡ count_of r = count_timeouts (count_of r) (drop timeouts_head r) in
      sym (taken w e).answer ∙ none_of_few s ts (omega (arith, d, h)) ts (λ i x. x)

pub named_decides : NamedDecides
named_decides f c k n i r e = named_law f c k n r i e

pub none_decides : NoneDecides
none_decides f c k n r e = none_law f c k n r e

pub none_of_exactly_enough : NoneOfExactlyEnough
none_of_exactly_enough f c k n r w h e = enough_law f c k n r w h e

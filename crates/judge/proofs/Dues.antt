-- 16 AND 17 AT THEIR PLACES: what the code finds is the number of the lists with contents. A rule that stands between two parts of a list is asked where no rule of the first
-- part applies. Assumes nothing.
use mathlib.Core.Path.{◌≡◌, refl, sym, ap, ◌∙◌}
use mathlib.Core.Bool.{Bool, true, false, cond, not, ◌&&◌}
use mathlib.Core.List.{List, [], ◌∷◌, ◌++◌, append_assoc}
use Prim.Native.Nat.{ℕ, zero, suc, ◌<◌}
use native.Mathlib.Omega.{arith}
use borrow.Author.Tests.{ne_eqb, ltb-true, ltb-false, not-true}
use lib.Dec.{eqb, ltb}
use lib.ListN.{take, drop}
use Rattle.settings.specs.Answer.{Rule, ◌⇒◌}
use Rattle.settings.specs.Quorum.{last_height}
use Rattle.blocks.specs.Store.{Found}
use Rattle.codec.specs.Names.{same_bytes}
use Rattle.codec.proofs.Order.{and_true}
use Rattle.digest.specs.Name.{name_of, too_long}
use Rattle.wire.specs.Fields.{kind_of}
use Rattle.wire.specs.Shape.{shape_rules}
use Rattle.wire.specs.Content.{certificate_of, Content, vote, commit, certificate, timeout, proposal, block, release, by_block, by_timeouts, content}
use Rattle.memory.specs.Layout.{entry_of}
use Rattle.memory.specs.Leaders.{by_list}
use Rattle.protocol.specs.Work.{Work, n, view_now, held_block}
use Rattle.protocol.specs.Refusals.{region_rules, refusals, next_block, propose_rules}
use Rattle.protocol.specs.Contents.{given, too_long_rule, record_digest_rule, propose_digest_rule, right_before, record_place, propose_place}
use Rattle.protocol.specs.Calls.{◌then◌}
use Rattle.protocol.proofs.Branch.{by_kind}
use Rattle.refusals.specs.Number.{first_of, or_else, numbered}
use Rattle.refusals.specs.Early.{proposal_first, early_propose}
use Rattle.settings.specs.declared.refusal.Refusal.{Refusal}
use Rattle.settings.specs.Refusal.{number}
use Rattle.refusals.proofs.Numbers.{passes, first_then, numbered_then, some_number}
use Rattle.judge.specs.Want.{Wanted, nothing, names, safe_block}
use Rattle.judge.specs.Late.{looked_up, late_first}
use Rattle.judge.specs.Contents.{behind, digest_number, digest_due, record_due, propose_want_with, propose_due}
use Rattle.judge.proofs.Lates.{propose_first_number}
use Rattle.judge.proofs.Wants.{regions_numbered, shape_numbered, with_region, with_length, with_early, with_asked}

-- beside another kind than 7 and 8 nothing is asked
pub digest_none : (m : List ℕ) (current : ℕ) (r s : List ℕ) → (kind_of r ≡ 7 → ⊥) → (kind_of r ≡ 8 → ⊥) → 0 ≡ digest_due m current (content r) s
unfolding digest_due
digest_none m current r s k7 k8 =
    by_kind (λ q. 0 ≡ digest_due m current q s) r (λ j v x. refl) (λ j v x. refl) (λ t. refl) (λ j k. refl) (λ e j v x y h k. absurd (k7 e)) (λ e j x y h. absurd (k8 e)) (λ e j v x h. refl)

-- ---- ONE RULE BETWEEN TWO PARTS OF A LIST
between : (p q : List Rule) (t : Bool) (a : ℕ) → numbered p ≡ true → (a ≡ 0 → ⊥) → first_of (p ++ (t ⇒ a ∷ q)) ≡ or_else (behind p (cond t a 0)) (first_of (p ++ q))
unfolding first_of numbered or_else
between [] q t a h n = go t
  where
    go : (t : Bool) → cond t a (first_of q) ≡ cond (eqb (cond t a 0) 0) (first_of q) (cond t a 0)
    go true = rw (ne_eqb a 0 n)
    go false = refl
between (x ∷ p) q t a h n = let b = and_true (ltb 0 x.number) _ h in go x.test (ltb-true 0 x.number b.0) (between p q t a b.1 n)
  where
    go : (u : Bool) → 0 < x.number → first_of (p ++ (t ⇒ a ∷ q)) ≡ or_else (behind p (cond t a 0)) (first_of (p ++ q))
        → cond u x.number (first_of (p ++ (t ⇒ a ∷ q))) ≡ or_else (cond (eqb (cond u x.number (first_of p)) 0) (cond t a 0) 0) (cond u x.number (first_of (p ++ q)))
    go true l e = rw (ne_eqb x.number 0 (λ z. omega arith))
    go false l e = e

-- behind two lists
behind_both : (p q : List Rule) (k : ℕ) → numbered p ≡ true → behind (p ++ q) k ≡ behind p (behind q k)
unfolding or_else
behind_both p q k h = ap (λ (i : ℕ). cond (eqb i 0) k 0) (first_then p q h) ∙ go (first_of p)
  where
    go : (i : ℕ) → cond (eqb (or_else i (first_of q)) 0) k 0 ≡ cond (eqb i 0) (behind q k) 0
    go zero = refl
    go (suc i) = let some : eqb (suc i) 0 ≡ false = ne_eqb (suc i) 0 (λ z. omega arith) in rw (some, some)

-- two numbers behind one list, 16 and then y
behind_two : (i y k : ℕ) (l : Bool) → or_else (cond (eqb i 0) (cond l 16 0) 0) (or_else (cond (eqb i 0) y 0) k) ≡ or_else (cond (eqb i 0) (cond l 16 y) 0) k
unfolding or_else
behind_two zero y k true = refl
behind_two zero y k false = refl
behind_two (suc i) y k l = rw (ne_eqb (suc i) 0 (λ z. omega arith))

-- BOTH RULES: 16 behind the regions a, and in x, whose number without 17 is that of x₀, 17 where y says
places : (a x x₀ : List Rule) (s : List ℕ) (y : ℕ) → numbered a ≡ true → first_of (a ++ x) ≡ or_else (behind a y) (first_of (a ++ x₀))
    → first_of (a ++ (too_long s ⇒ 16 ∷ x)) ≡ or_else (behind a (cond (too_long s) 16 y)) (first_of (a ++ x₀))
places a x x₀ s y h e =
    between a x (too_long s) 16 h (λ z. omega arith) ∙ ap (or_else (behind a (cond (too_long s) 16 0))) e ∙ behind_two (first_of a) y (first_of (a ++ x₀)) (too_long s)

-- ---- A RECORD
module _ (W : Work) (room : ℕ) (r s : List ℕ) where
  abbrev regions : List Rule
  regions = region_rules W room

  abbrev shape : List Rule
  shape = shape_rules (n W) r

  -- 17 between the rules p, which need no store, and q
  placed : (p q : List Rule) (t : Bool) → numbered p ≡ true
      → first_of (regions ++ (shape ++ (p ++ (t ⇒ 17 ∷ q)))) ≡ or_else (behind regions (behind shape (behind p (cond t 17 0)))) (first_of (regions ++ (shape ++ (p ++ q))))
  placed p q t h =
      let front = numbered_then regions shape (regions_numbered W room) (shape_numbered (n W) r) in
      let apart : (x : List Rule) → first_of (regions ++ (shape ++ (p ++ x))) ≡ first_of (((regions ++ shape) ++ p) ++ x)
      = λ x. ap first_of (sym (append_assoc (regions ++ shape) p x ∙ append_assoc regions shape (p ++ x))) in
      apart (t ⇒ 17 ∷ q) ∙ between ((regions ++ shape) ++ p) q t 17 (numbered_then (regions ++ shape) p front h) (λ z. omega arith)
      ∙ ap (λ (i : ℕ). or_else i (first_of (((regions ++ shape) ++ p) ++ q))) (behind_both (regions ++ shape) p (cond t 17 0) front ∙ behind_both regions shape (behind p (cond t 17 0)) (regions_numbered W room))
      ∙ ap (or_else (behind regions (behind shape (behind p (cond t 17 0))))) (sym (apart q))

  -- without a rule of 17 nothing is changed
  no_digest : (x : List Rule) → first_of (regions ++ x) ≡ or_else (behind regions (behind shape 0)) (first_of (regions ++ x))
  unfolding or_else
  no_digest x = go (eqb (first_of shape) 0) (eqb (first_of regions) 0)
    where
      go : (t u : Bool) → first_of (regions ++ x) ≡ or_else (cond u (cond t 0 0) 0) (first_of (regions ++ x))
      go true true = refl
      go false true = refl
      go t false = refl

  with_digest : (q : Content) → first_of (regions ++ (shape ++ right_before record_place (record_digest_rule W q (given s)) (refusals W by_list r q)))
      ≡ or_else (behind regions (behind shape (digest_due W.memory (view_now W) q s))) (first_of (regions ++ (shape ++ refusals W by_list r q)))
  unfolding refusals right_before digest_due digest_number proposal_first numbered
  with_digest (vote j v x) = no_digest _
  with_digest (commit j v x) = no_digest _
  with_digest (certificate j (by_block v x g)) = no_digest _
  with_digest (certificate j (by_timeouts v ts)) = no_digest _
  with_digest (timeout t) = no_digest _
  with_digest (proposal j v x y h k) = placed (proposal_first W.memory (view_now W) j v k) (drop 4 (refusals W by_list r (proposal j v x y h k))) (not (same_bytes x (name_of y h s))) refl
  with_digest (block j x y h) = placed (take 1 (refusals W by_list r (block j x y h))) (drop 1 (refusals W by_list r (block j x y h))) (not (same_bytes x (name_of y h s))) refl
  with_digest (release j v x h) = no_digest _

  -- THE NUMBER WITH CONTENTS, by the one without
  pub record_with : first_of (region_rules W room then too_long_rule (given s) then shape_rules (n W) r then right_before record_place (record_digest_rule W (content r) (given s)) (refusals W by_list r (content r)))
      ≡ or_else (record_due W room r s) (first_of (region_rules W room then shape_rules (n W) r then refusals W by_list r (content r)))
  unfolding record_due
  record_with = places regions _ (shape ++ refusals W by_list r (content r)) s _ (regions_numbered W room) (with_digest (content r))

-- ---- a number that no rule has
unfoldable never : ℕ → List Rule → Bool
never a [] = true
never a (r ∷ rules) = not (eqb r.number a) && never a rules

never_first : (a : ℕ) (rules : List Rule) → eqb 0 a ≡ false → never a rules ≡ true → eqb (first_of rules) a ≡ false
unfolding first_of never
never_first a [] z h = z
never_first a (r ∷ rules) z h = let b = and_true (not (eqb r.number a)) _ h in go r.test (not-true _ b.0) (never_first a rules z b.1)
  where
    go : (t : Bool) → eqb r.number a ≡ false → eqb (first_of rules) a ≡ false → eqb (cond t r.number (first_of rules)) a ≡ false
    go true e f = e
    go false e f = f

-- ---- PROPOSE: five rules stand before 17
module _ (W : Work) (room : ℕ) (x s : List ℕ) where
  -- with what is held, they are 15 and 5, and then 11 to 13
  abbrev early : List Rule
  early = early_propose W x

  abbrev late : List Rule
  late = let base = safe_block W.memory (certificate_of (entry_of W.memory)) in late_first (held_block W x) (held_block W base)

  abbrev test : Bool
  test = not (same_bytes x (name_of (next_block W x).parent (next_block W x).height.0 s))

  propose_digest : first_of (region_rules W room ++ right_before propose_place (propose_digest_rule W x (given s)) (propose_rules W by_list x))
      ≡ or_else (behind (region_rules W room) (behind early (behind late (cond test 17 0)))) (first_of (region_rules W room ++ propose_rules W by_list x))
  unfolding propose_rules right_before numbered early_propose
  propose_digest =
      let regions = region_rules W room in
      let p = take 5 (propose_rules W by_list x) in
      let q = drop 5 (propose_rules W by_list x) in
      let front = regions_numbered W room in
      ap first_of (sym (append_assoc regions p (test ⇒ 17 ∷ q))) ∙ between (regions ++ p) q test 17 (numbered_then regions p front refl) (λ z. omega arith)
      ∙ ap (λ (i : ℕ). or_else i (first_of ((regions ++ p) ++ q)))
      (behind_both regions p (cond test 17 0) front ∙ ap (λ (i : ℕ). behind regions (cond (eqb i 0) (cond test 17 0) 0)) (propose_first_number W x) ∙ ap (behind regions) (behind_both early late (cond test 17 0) refl))
      ∙ ap (λ (l : List Rule). or_else (behind regions (behind early (behind late (cond test 17 0)))) (first_of l)) (append_assoc regions p q)

  propose_placed : first_of (region_rules W room then too_long_rule (given s) then right_before propose_place (propose_digest_rule W x (given s)) (propose_rules W by_list x))
      ≡ or_else (behind (region_rules W room) (cond (too_long s) 16 (behind early (behind late (cond test 17 0))))) (first_of (region_rules W room then propose_rules W by_list x))
  propose_placed = places (region_rules W room) _ (propose_rules W by_list x) s _ (regions_numbered W room) propose_digest

  -- with what was wanted, and what the store holds of it
  abbrev due_of : Wanted → ℕ
  due_of w = propose_due x w (looked_up W w w.name) (looked_up W w w.base) s

  -- no rule but that of the length has the number 16
  regions_other : eqb (first_of (region_rules W room)) 16 ≡ false
  unfolding region_rules never
  regions_other = never_first 16 (region_rules W room) refl refl

  early_other : eqb (first_of early) 16 ≡ false
  unfolding early_propose never
  early_other = never_first 16 early refl refl

  refused_due : (k : ℕ) → eqb k 16 ≡ false → (k ≡ 0 → ⊥) → 0 ≡ due_of (nothing k)
  unfolding propose_due
  refused_due k e h = rw (e, ne_eqb k 0 h)

  abbrev wanted : Wanted
  wanted = propose_want_with W room x s

  long_due : 16 ≡ due_of (nothing 16)
  unfolding propose_due
  long_due = refl

  asked_due : behind late (cond test 17 0) ≡ due_of (names W.memory x (safe_block W.memory (certificate_of (entry_of W.memory))))
  unfolding propose_due digest_number
  asked_due = refl

  due_is : behind (region_rules W room) (cond (too_long s) 16 (behind early (behind late (cond test 17 0)))) ≡ due_of wanted
  due_is = by_regions (first_of (region_rules W room)) refl
    where
      by_early : first_of (region_rules W room) ≡ 0 → too_long s ≡ false → (k : ℕ) → first_of early ≡ k → cond (eqb k 0) (behind late (cond test 17 0)) 0 ≡ due_of wanted
      by_early p t zero e = asked_due ∙ ap due_of (with_asked W room x s p t e refl)
      by_early p t (suc k) e =
          let some : suc k ≡ 0 → ⊥ = λ z. omega arith in
          rw (ne_eqb (suc k) 0 some) (refused_due (suc k) (sym (ap (λ (i : ℕ). eqb i 16) e) ∙ early_other) some ∙ ap due_of (with_early W room x s p t (sym e) some))

      by_length : first_of (region_rules W room) ≡ 0 → (l : Bool) → too_long s ≡ l → cond l 16 (behind early (behind late (cond test 17 0))) ≡ due_of wanted
      by_length p true t = long_due ∙ ap due_of (with_length W room x s p t)
      by_length p false t = by_early p t (first_of early) refl

      by_regions : (k : ℕ) → first_of (region_rules W room) ≡ k → cond (eqb k 0) (cond (too_long s) 16 (behind early (behind late (cond test 17 0)))) 0 ≡ due_of wanted
      by_regions zero e = by_length e (too_long s) refl
      by_regions (suc k) e =
          let some : suc k ≡ 0 → ⊥ = λ z. omega arith in
          rw (ne_eqb (suc k) 0 some) (refused_due (suc k) (sym (ap (λ (i : ℕ). eqb i 16) e) ∙ regions_other) some ∙ ap due_of (with_region W room x s (sym e) some))

  -- THE NUMBER WITH CONTENTS, by the one without
  pub propose_with : first_of (region_rules W room then too_long_rule (given s) then right_before propose_place (propose_digest_rule W x (given s)) (propose_rules W by_list x))
      ≡ or_else (due_of wanted) (first_of (region_rules W room then propose_rules W by_list x))
  propose_with = propose_placed ∙ ap (λ (i : ℕ). or_else i (first_of (region_rules W room ++ propose_rules W by_list x))) due_is

-- ---- for the code: a rule before it applies, or none does
pub stopped : {i : ℕ} (p : List Rule) (k : ℕ) → i ≡ first_of p → (i ≡ 0 → ⊥) → 0 ≡ behind p k
stopped p k e h = rw (ne_eqb (first_of p) 0 (λ z. h (e ∙ z)))

pub reached : {i d : ℕ} (p : List Rule) (k : ℕ) → i ≡ first_of p → i ≡ 0 → d ≡ k → d ≡ behind p k
reached p k e h f = f ∙ ap (λ (j : ℕ). cond (eqb j 0) k 0) (sym (sym e ∙ h))

-- where 13 has passed there is a height above
pub height_first : (found under : Found) → first_of (late_first found under) ≡ 0 → under.block.height.0 < last_height
unfolding late_first
height_first found under e =
    let a = passes _ _ refl e in
    let b = passes _ _ refl a.1 in
    let d = passes _ _ refl b.1 in
    omega (arith, ltb-false last_height (suc under.block.height.0) d.0)

-- ---- a propose that is refused before the store is asked: its contents refuse it for their length alone
pub nothing_due : (n k : List ℕ) (r : Refusal) (x y : Found) → cond (eqb (number r) 16) 16 0 ≡ propose_due n (nothing (number r)) x y k
unfolding propose_due
nothing_due n k r x y = rw (ne_eqb (number r) 0 (some_number r))

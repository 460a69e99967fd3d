-- One step of the walk from parent to parent by its value, and the verdicts of a drop: what one more changes, and the walk that ends at an entry with a verdict.
-- Assumes nothing.
use mathlib.Core.Path.{◌≡◌, refl, sym, ◌∙◌, ap, subst}
use Prim.Native.Nat.{ℕ, ◌+◌, ◌^◌, ◌<◌, ◌≤◌}
use native.Mathlib.Omega.{arith}
use mathlib.Core.Bool.{Bool, true, false, cond, ◌&&◌}
use mathlib.Core.List.{List, [], ◌∷◌, ◌++◌}
use lib.Dec.{eqb, ltb}
use lib.ListN.{length, get_or}
use Rattle.std.specs.Prelude.{Some, None}
use Rattle.std.proofs.lemmas.List.{get_or_default}
use lib.Pow.{pow_pos}
use borrow.Author.Tests.{eqb-true, eqb-false, ltb-true, ltb-false, lt-ltb, le-ltb}
use Rattle.codec.specs.Names.{same_bytes}
use Rattle.certificate.specs.Safe.{signs}
use Rattle.certificate.proofs.Sets.{signs_joined, signs_other, signs_beyond}
use Rattle.blocks.specs.Store.{Found, genesis, found, missing, find, held, below, descends, ancestry}
use Rattle.blocks.specs.Steps.{place_of, goes_on, ends_well, onward_of, verdict_of, noted_of, remembered, Noted}
use Rattle.blocks.specs.declared.Block.{Block}
use Rattle.blocks.specs.declared.Onward.TheVariants.{On, Ends}
use Rattle.blocks.specs.declared.Verdicts.{Verdicts}
use Rattle.blocks.proofs.Ancestry.{never, goes_below, lower, descends_on, descends_off, ancestry_on, ancestry_off}
use Rattle.blocks.proofs.Finding.{place_found, Placed, place_some, place_none}

-- what stands past the end of a slice, as the code reads it
abbrev pub nowhere : Block
nowhere = record { name = []; parent = []; height = record { 0 = 0 } }

-- ---- ONE STEP: what it says of the block b where it goes on at place at, or ends
module _ (tip : Block) (store : List Block) (b : Block) where
  abbrev parent : Block
  parent = (held tip store b.parent).block

  abbrev goes : Bool
  goes = goes_on tip b (held tip store b.parent)

  -- the entry where it goes on is the parent
  parent_there : goes ≡ true → (place_of b.parent store < length store) × (parent ≡ get_or store (place_of b.parent store) genesis)
  unfolding held
  parent_there e =
      let all = goes_below (same_bytes tip.name b.parent) (held tip store b.parent).is (below (held tip store b.parent).block b) e in
      let off : held tip store b.parent ≡ find b.parent store = ap (λ (t : Bool). cond t (found tip) (find b.parent store)) all.0 in
      let r = there (ltb (place_of b.parent store) (length store)) refl (find b.parent store) (place_found b.parent store) (sym (ap (λ (f : Found). f.is) off) ∙ all.1.0) in
      (r.0, ap (λ (f : Found). f.block) off ∙ r.1)
    where
      there : (t : Bool) → ltb (place_of b.parent store) (length store) ≡ t → (f : Found) → cond t (found (get_or store (place_of b.parent store) genesis)) missing ≡ f → f.is ≡ true
          → (place_of b.parent store < length store) × (f.block ≡ get_or store (place_of b.parent store) genesis)
      there true g f q h = (ltb-true (place_of b.parent store) (length store) g, ap (λ (z : Found). z.block) (sym q))
      there false g f q h = never (ap (λ (z : Found). z.is) q ∙ h)

  -- it goes on at place at, where the block d stands
  pub record Onto (at : ℕ) (d : Block) : Type 0 where
    pub within : at < length store
    pub lower : d.height.0 < b.height.0
    pub same : descends tip store d ≡ descends tip store b
    pub row : descends tip store b ≡ true → ancestry tip store b ≡ ancestry tip store d ++ (b ∷ [])

  onto : (other : Block) → goes ≡ true → Onto (place_of b.parent store) (get_or store (place_of b.parent store) other)
  onto other e =
      let there = parent_there e in
      let is : get_or store (place_of b.parent store) other ≡ parent = get_or_default store _ other genesis there.0 ∙ sym there.1 in
      record {
        within = there.0;
        lower = rw is (lower tip store b e);
        same = rw is (sym (descends_on tip store b e));
        row = λ d. rw is (ancestry_on tip store b d e);
      }

  pub steps_on : (at : ℕ) (other : Block) → On at ≡ onward_of tip store b → Onto at (get_or store at other)
  steps_on at other s = go goes refl s
    where
      go : (t : Bool) → goes ≡ t → On at ≡ cond t (On (place_of b.parent store)) (Ends (ends_well tip b)) → Onto at (get_or store at other)
      go true e s = let same : at ≡ place_of b.parent store = cc in rw same (onto other e)
      go false e s = absurd cc

  -- it ends
  pub record Ended (well : Bool) : Type 0 where
    pub same : well ≡ descends tip store b
    pub row : descends tip store b ≡ true → ancestry tip store b ≡ b ∷ []

  pub steps_off : (well : Bool) → Ends well ≡ onward_of tip store b → Ended well
  steps_off well s = go goes refl s
    where
      go : (t : Bool) → goes ≡ t → Ends well ≡ cond t (On (place_of b.parent store)) (Ends (ends_well tip b)) → Ended well
      go true e s = absurd cc
      go false e s = let same : well ≡ ends_well tip b = cc in record { same = same ∙ sym (descends_off tip store b e); row = λ d. ancestry_off tip store b d e }

  -- by what a search for the place of the parent's name returns
  module _ (apart : same_bytes tip.name b.parent ≡ false) where
    held_is : held tip store b.parent ≡ find b.parent store
    unfolding held
    held_is = rw apart

    pub goes_to : (at : ℕ) (other : Block) → Placed b.parent store (Some at) → below (get_or store at other) b ≡ true → On at ≡ onward_of tip store b
    goes_to at other p l = let e = place_some b.parent store at p in rw (held_is ∙ e.1.1, apart, (rw (get_or_default store at other genesis e.0) at l), ← e.1.0)

    pub not_below : (at : ℕ) (other : Block) → Placed b.parent store (Some at) → below (get_or store at other) b ≡ false → Ends false ≡ onward_of tip store b
    not_below at other p l = let e = place_some b.parent store at p in rw (held_is ∙ e.1.1, apart, (rw (get_or_default store at other genesis e.0) at l))

    pub not_held : Placed b.parent store None → Ends false ≡ onward_of tip store b
    not_held p = rw (held_is ∙ place_none b.parent store p, apart)

-- ---- the places with a verdict
remembered_next : (i j : ℕ) → (j ≡ i → ⊥) → remembered (i + 1) j ≡ remembered i j
unfolding remembered
remembered_next i j d = ap (λ (t : Bool). t && ltb j 128) (by_test (ltb j i) refl)
  where
    by_test : (t : Bool) → ltb j i ≡ t → ltb j (i + 1) ≡ t
    by_test true e = lt-ltb j (i + 1) (omega (arith, ltb-true j i e))
    by_test false e = le-ltb j (i + 1) (omega (arith, ltb-false j i e, d))

remembered_not : (i j : ℕ) → i ≤ j → remembered i j ≡ false
unfolding remembered
remembered_not i j h = rw (le-ltb j i h)

-- ---- one verdict more
module _ (v : Verdicts) (i : ℕ) (unset : verdict_of v i ≡ false) where
  pub free : i < 128 → signs v.0 i ≡ false
  unfolding verdict_of
  free h = rw (lt-ltb i 128 h) at unset

  noted_here : (good : Bool) → verdict_of (noted_of v i good) i ≡ (remembered (i + 1) i && good)
  unfolding verdict_of noted_of remembered
  noted_here good = rw (lt-ltb i (i + 1) (omega arith)) (by_tests (ltb i 128) refl good)
    where
      by_tests : (t : Bool) → ltb i 128 ≡ t → (g : Bool) → (t && signs (cond (g && t) (record { 0 = v.0 + 2 ^ i }) v).0 i) ≡ (t && g)
      by_tests false e g = refl
      by_tests true e true = signs_joined v.0 i (free (ltb-true i 128 e))
      by_tests true e false = free (ltb-true i 128 e)

  noted_other : (good : Bool) (j : ℕ) → (j ≡ i → ⊥) → verdict_of (noted_of v i good) j ≡ verdict_of v j
  unfolding verdict_of noted_of
  noted_other false j d = refl
  noted_other true j d = by_test (ltb i 128) refl
    where
      by_test : (t : Bool) → ltb i 128 ≡ t → (ltb j 128 && signs (cond t (record { 0 = v.0 + 2 ^ i }) v).0 j) ≡ (ltb j 128 && signs v.0 j)
      by_test true e = ap (λ (z : Bool). ltb j 128 && z) (signs_other v.0 i j (free (ltb-true i 128 e)) d)
      by_test false e = refl

-- ---- the verdicts of the first i entries
pub none_noted : (tip : Block) (store : List Block) → Noted tip store 0 (record { 0 = 0 })
unfolding verdict_of
none_noted tip store j =
    ap (λ (t : Bool). ltb j 128 && t) (signs_beyond 0 j (pow_pos j)) ∙ none (ltb j 128) ∙ ap (λ (t : Bool). t && descends tip store (get_or store j genesis)) (sym (remembered_not 0 j (omega arith)))
  where
    none : (t : Bool) → (t && false) ≡ false
    none true = refl
    none false = refl

module _ (tip : Block) (store : List Block) (i : ℕ) (v : Verdicts) (all : Noted tip store i v) where
  pub not_yet : verdict_of v i ≡ false
  not_yet = all i ∙ ap (λ (t : Bool). t && descends tip store (get_or store i genesis)) (remembered_not i i (omega arith))

  pub noted_more : (good : Bool) (w : Verdicts) → good ≡ descends tip store (get_or store i genesis) → w ≡ noted_of v i good → Noted tip store (i + 1) w
  noted_more good w e is j = ap (λ (z : Verdicts). verdict_of z j) is ∙ by_place (eqb j i) refl
    where
      by_place : (t : Bool) → eqb j i ≡ t → verdict_of (noted_of v i good) j ≡ (remembered (i + 1) j && descends tip store (get_or store j genesis))
      by_place true f =
          subst (λ (k : ℕ). verdict_of (noted_of v i good) k ≡ (remembered (i + 1) k && descends tip store (get_or store k genesis))) (sym (eqb-true j i f))
          (noted_here v i not_yet good ∙ ap (λ (t : Bool). remembered (i + 1) i && t) e)
      by_place false f =
          let d = eqb-false j i f in
          noted_other v i not_yet good j d ∙ all j ∙ ap (λ (t : Bool). t && descends tip store (get_or store j genesis)) (sym (remembered_next i j d))

  -- the verdict of the entry where the walk from b goes on is b's
  pub verdict_is : (b : Block) (at : ℕ) → Onto tip store b at (get_or store at genesis) → at < i → at < 128 → verdict_of v at ≡ descends tip store b
  unfolding remembered
  verdict_is b at on h l = all at ∙ rw (lt-ltb at i h, lt-ltb at 128 l) on.same

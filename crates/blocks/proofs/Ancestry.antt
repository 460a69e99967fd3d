-- The walk from parent to parent: it does not depend on the bound of its steps where that is at least the height, and one step of it. Assumes nothing.
use mathlib.Core.Path.{◌≡◌, refl, sym, ◌∙◌, ap}
use Prim.Native.Nat.{ℕ, zero, suc, ◌<◌, ◌≤◌}
use native.Mathlib.Omega.{arith}
use mathlib.Core.Bool.{Bool, true, false, cond, not, ◌&&◌}
use mathlib.Core.List.{List, [], ◌∷◌, ◌++◌}
use lib.Dec.{T as Holds}
use borrow.Author.Tests.{ltb-true, le-ltb}
use Rattle.codec.specs.Names.{same_bytes}
use Rattle.blocks.specs.Store.{held, below, leads, descends, line, ancestry}
use Rattle.blocks.specs.Steps.{goes_on, ends_well}
use Rattle.blocks.specs.declared.Block.{Block}

pub never : {X : Type 0} → false ≡ true → X
never e = absurd (let z : ◌≡◌ {A = ℕ} 0 1 = cc in omega arith)

-- ---- a truth value on the two arms of a branch
pub is_true : (t : Bool) → Holds t → t ≡ true
is_true true h = refl
is_true false h = absurd h

pub is_false : (t : Bool) → Holds (not t) → t ≡ false
is_false true h = absurd h
is_false false h = refl

-- ---- the tests of one step, over truth values: s, it ends at the tip; t, the tip is below; i, the parent is held; u, the parent is below; x, the rest
guarded : (t x y : Bool) → (t ≡ true → x ≡ y) → (t && x) ≡ (t && y)
guarded true x y h = h refl
guarded false x y h = refl

none_below : (s t i u x : Bool) → t ≡ false → u ≡ false → cond s t (i && (u && x)) ≡ false
none_below true t i u x p q = p
none_below false t true u x p q = ap (λ (z : Bool). z && x) q
none_below false t false u x p q = refl

one_step : (s t i u x : Bool) → cond s t (i && (u && x)) ≡ cond (cond s false (i && u)) x (cond s t false)
one_step true t i u x = refl
one_step false t true true x = refl
one_step false t true false x = refl
one_step false t false u x = refl

off_tip : (s t i u x : Bool) → cond s t (i && (u && x)) ≡ true → s ≡ false → (i ≡ true) × ((u ≡ true) × (x ≡ true))
off_tip true t i u x e f = never (sym f)
off_tip false t true true x e f = (refl, (refl, e))
off_tip false t true false x e f = never e
off_tip false t false u x e f = never e

pub goes_below : (s i u : Bool) → cond s false (i && u) ≡ true → (s ≡ false) × ((i ≡ true) × (u ≡ true))
goes_below true i u e = never e
goes_below false true u e = (refl, (refl, e))
goes_below false false u e = never e

apart : {X : Type 0} (s : Bool) (x y z : X) → (s ≡ false → y ≡ z) → cond s x y ≡ cond s x z
apart true x y z h = refl
apart false x y z h = h refl

module _ (tip : Block) (store : List Block) where
  -- a block of height 0 has nothing below it
  low : (b : Block) (k : ℕ) → b.height.0 ≡ 0 → leads k tip store b ≡ false
  unfolding leads
  low b zero e = refl
  low b (suc k) e =
      let c = held tip store b.parent in
      none_below (same_bytes tip.name b.parent) (below tip b) c.is (below c.block b) (leads k tip store c.block)
      (le-ltb tip.height.0 b.height.0 (omega (arith, e))) (le-ltb c.block.height.0 b.height.0 (omega (arith, e)))

  leads_same : (k m : ℕ) (b : Block) → b.height.0 ≤ k → b.height.0 ≤ m → leads k tip store b ≡ leads m tip store b
  unfolding leads
  leads_same zero m b p q = sym (low b m (omega (arith, p)))
  leads_same (suc k) zero b p q = low b (suc k) (omega (arith, q))
  leads_same (suc k) (suc m) b p q =
      let c = held tip store b.parent in
      ap (cond (same_bytes tip.name b.parent) (below tip b))
      (guarded c.is (below c.block b && leads k tip store c.block) (below c.block b && leads m tip store c.block) (λ _.
      guarded (below c.block b) (leads k tip store c.block) (leads m tip store c.block) (λ e.
      let l : c.block.height.0 < b.height.0 = ltb-true c.block.height.0 b.height.0 e in
      leads_same k m c.block (omega (arith, l, p)) (omega (arith, l, q)))))

  -- b's height is enough
  pub leads_enough : (k : ℕ) (b : Block) → b.height.0 ≤ k → leads k tip store b ≡ descends tip store b
  unfolding descends
  leads_enough k b p = leads_same k b.height.0 b p (omega arith)

  -- ---- one step, of a block b whose height is h
  step_at : (b : Block) (h : ℕ) → b.height.0 ≡ h
      → leads h tip store b ≡ cond (goes_on tip b (held tip store b.parent)) (descends tip store (held tip store b.parent).block) (ends_well tip b)
  unfolding leads
  step_at b zero e =
      let c = held tip store b.parent in let s = same_bytes tip.name b.parent in
      sym (none_below s (below tip b) c.is (below c.block b) (descends tip store c.block) (le-ltb tip.height.0 b.height.0 (omega (arith, e))) (le-ltb c.block.height.0 b.height.0 (omega (arith, e))))
      ∙ one_step s (below tip b) c.is (below c.block b) (descends tip store c.block)
  step_at b (suc k) e =
      let c = held tip store b.parent in let s = same_bytes tip.name b.parent in
      ap (cond s (below tip b))
      (guarded c.is (below c.block b && leads k tip store c.block) (below c.block b && descends tip store c.block) (λ _.
      guarded (below c.block b) (leads k tip store c.block) (descends tip store c.block) (λ f.
      let l : c.block.height.0 < b.height.0 = ltb-true c.block.height.0 b.height.0 f in
      leads_enough k c.block (omega (arith, l, e)))))
      ∙ one_step s (below tip b) c.is (below c.block b) (descends tip store c.block)

  pub descends_step : (b : Block) → descends tip store b ≡ cond (goes_on tip b (held tip store b.parent)) (descends tip store (held tip store b.parent).block) (ends_well tip b)
  unfolding descends
  descends_step b = step_at b b.height.0 refl

  pub descends_on : (b : Block) → goes_on tip b (held tip store b.parent) ≡ true → descends tip store b ≡ descends tip store (held tip store b.parent).block
  descends_on b e = descends_step b ∙ ap (λ (z : Bool). cond z (descends tip store (held tip store b.parent).block) (ends_well tip b)) e

  pub descends_off : (b : Block) → goes_on tip b (held tip store b.parent) ≡ false → descends tip store b ≡ ends_well tip b
  descends_off b e = descends_step b ∙ ap (λ (z : Bool). cond z (descends tip store (held tip store b.parent).block) (ends_well tip b)) e

  -- where it goes on, the height falls
  pub lower : (b : Block) → goes_on tip b (held tip store b.parent) ≡ true → (held tip store b.parent).block.height.0 < b.height.0
  lower b e =
      let c = held tip store b.parent in
      ltb-true c.block.height.0 b.height.0 (goes_below (same_bytes tip.name b.parent) c.is (below c.block b) e).1.1

  -- ---- the row of blocks: of a block that descends, the bound of the steps does not matter
  line_same : (k m : ℕ) (b : Block) → b.height.0 ≤ k → b.height.0 ≤ m → leads k tip store b ≡ true → line k tip store b ≡ line m tip store b
  unfolding leads line
  line_same zero m b p q e = never e
  line_same (suc k) zero b p q e = never (sym (low b (suc k) (omega (arith, q))) ∙ e)
  line_same (suc k) (suc m) b p q e =
      let c = held tip store b.parent in let s = same_bytes tip.name b.parent in
      apart s (b ∷ []) (line k tip store c.block ++ (b ∷ [])) (line m tip store c.block ++ (b ∷ [])) (λ f.
      let o = off_tip s (below tip b) c.is (below c.block b) (leads k tip store c.block) e f in
      let l : c.block.height.0 < b.height.0 = ltb-true c.block.height.0 b.height.0 o.1.0 in
      ap (λ (r : List Block). r ++ (b ∷ [])) (line_same k m c.block (omega (arith, l, p)) (omega (arith, l, q)) o.1.1))

  line_at : (b : Block) (h : ℕ) → b.height.0 ≡ h → leads h tip store b ≡ true
      → line h tip store b ≡ cond (same_bytes tip.name b.parent) (b ∷ []) (ancestry tip store (held tip store b.parent).block ++ (b ∷ []))
  unfolding leads line ancestry
  line_at b zero e d = never d
  line_at b (suc k) e d =
      let c = held tip store b.parent in let s = same_bytes tip.name b.parent in
      apart s (b ∷ []) (line k tip store c.block ++ (b ∷ [])) (line c.block.height.0 tip store c.block ++ (b ∷ [])) (λ f.
      let o = off_tip s (below tip b) c.is (below c.block b) (leads k tip store c.block) d f in
      let l : c.block.height.0 < b.height.0 = ltb-true c.block.height.0 b.height.0 o.1.0 in
      ap (λ (r : List Block). r ++ (b ∷ [])) (line_same k c.block.height.0 c.block (omega (arith, l, e)) (omega arith) o.1.1))

  ancestry_step : (b : Block) → descends tip store b ≡ true
      → ancestry tip store b ≡ cond (same_bytes tip.name b.parent) (b ∷ []) (ancestry tip store (held tip store b.parent).block ++ (b ∷ []))
  unfolding descends ancestry
  ancestry_step b d = line_at b b.height.0 refl d

  pub ancestry_on : (b : Block) → descends tip store b ≡ true → goes_on tip b (held tip store b.parent) ≡ true → ancestry tip store b ≡ ancestry tip store (held tip store b.parent).block ++ (b ∷ [])
  ancestry_on b d e =
      let c = held tip store b.parent in
      ancestry_step b d
      ∙ ap (λ (z : Bool). cond z (b ∷ []) (ancestry tip store c.block ++ (b ∷ []))) (goes_below (same_bytes tip.name b.parent) c.is (below c.block b) e).0

  pub ancestry_off : (b : Block) → descends tip store b ≡ true → goes_on tip b (held tip store b.parent) ≡ false → ancestry tip store b ≡ b ∷ []
  ancestry_off b d e =
      let c = held tip store b.parent in
      ancestry_step b d
      ∙ ap (λ (z : Bool). cond z (b ∷ []) (ancestry tip store c.block ++ (b ∷ []))) (at_tip (same_bytes tip.name b.parent) (below tip b) (sym (descends_off b e) ∙ d))
    where
      at_tip : (s t : Bool) → cond s t false ≡ true → s ≡ true
      at_tip true t h = refl
      at_tip false t h = h

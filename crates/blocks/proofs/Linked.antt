-- The ancestry of a block that descends from the tip: it is linked from the tip upward, it ends at the block, what lies below the block is held,
-- and it has no more blocks than the store has entries. Assumes nothing.
use mathlib.Core.Path.{◌≡◌, refl, sym, ◌∙◌, ap, subst}
use mathlib.Core.Logic.{◌⊎◌, inl, inr}
use Prim.Native.Nat.{ℕ, zero, suc, ◌<◌, ◌≤◌}
use native.Mathlib.Omega.{arith}
use mathlib.Core.Bool.{Bool, true, false, cond}
use mathlib.Core.List.{List, [], ◌∷◌, ◌++◌}
use lib.ListN.{length}
use borrow.Author.Tests.{ltb-true}
use Rattle.codec.specs.Names.{same_bytes}
use Rattle.codec.proofs.Order.{same_eq}
use Rattle.blocks.specs.Store.{Found, found, find, held, below, descends, ancestry}
use Rattle.blocks.specs.Steps.{goes_on}
use Rattle.blocks.specs.declared.Block.{Block}
use Rattle.blocks.proofs.Ancestry.{never, goes_below, descends_on, descends_off, lower, ancestry_on, ancestry_off}

-- ---- what the laws say
-- x is an entry of the list
abbrev pub In : Block → List Block → Type 0
In x [] = ⊥
In x (y ∷ l) = (x ≡ y) ⊎ In x l

-- every block of the row is an entry of the list
abbrev pub AllIn : List Block → List Block → Type 0
AllIn [] l = Unit {0}
AllIn (b ∷ row) l = In b l × AllIn row l

-- a row of blocks from p upward: each one's parent is the one before it, the first one's is p, and the heights rise
abbrev pub Linked : Block → List Block → Type 0
Linked p [] = Unit {0}
Linked p (b ∷ row) = ((b.parent ≡ p.name) × (p.height.0 < b.height.0)) × Linked b row

-- ----
linked_more : (p c b : Block) (row : List Block) → Linked p (row ++ (c ∷ [])) → (b.parent ≡ c.name) × (c.height.0 < b.height.0) → Linked p ((row ++ (c ∷ [])) ++ (b ∷ []))
linked_more p c b [] l h = (l.0, (h, tt))
linked_more p c b (d ∷ row) l h = (l.0, linked_more d c b row l.1 h)

pub all_more : (row l : List Block) (c : Block) → AllIn row l → In c l → AllIn (row ++ (c ∷ [])) l
all_more [] l c a i = (i, tt)
all_more (d ∷ row) l c a i = (a.0, all_more row l c a.1 i)

pub find_in : (x : List ℕ) (l : List Block) → (find x l).is ≡ true → In (find x l).block l × ((find x l).block.name ≡ x)
unfolding find
find_in x [] e = never e
find_in x (b ∷ l) e = by_test (same_bytes b.name x) refl (find_in x l) e
  where
    by_test : (t : Bool) → same_bytes b.name x ≡ t → ((find x l).is ≡ true → In (find x l).block l × ((find x l).block.name ≡ x)) → (cond t (found b) (find x l)).is ≡ true
        → In (cond t (found b) (find x l)).block (b ∷ l) × ((cond t (found b) (find x l)).block.name ≡ x)
    by_test true s h d = (inl refl, same_eq b.name x s)
    by_test false s h d = (inr (h d).0, (h d).1)

-- what is held of a name that is not the tip's is an entry of that name
pub held_in : (tip : Block) (store : List Block) (x : List ℕ) → same_bytes tip.name x ≡ false → (held tip store x).is ≡ true → In (held tip store x).block store × ((held tip store x).block.name ≡ x)
unfolding held
held_in tip store x s e =
    let is : cond (same_bytes tip.name x) (found tip) (find x store) ≡ find x store = ap (λ (t : Bool). cond t (found tip) (find x store)) s in
    subst (λ (f : Found). In f.block store × (f.block.name ≡ x)) (sym is) (find_in x store (sym (ap (λ (f : Found). f.is) is) ∙ e))

module _ (tip : Block) (store : List Block) where
  -- the blocks below b, in front of it
  abbrev Row : Block → Type 0
  Row b = (row : List Block) × ((ancestry tip store b ≡ row ++ (b ∷ [])) × (Linked tip (row ++ (b ∷ [])) × AllIn row store))

  pub last_tests : (s t : Bool) → cond s t false ≡ true → (s ≡ true) × (t ≡ true)
  last_tests true t e = (refl, e)
  last_tests false t e = never e

  alone : (b : Block) → descends tip store b ≡ true → goes_on tip b (held tip store b.parent) ≡ false → Row b
  alone b d e =
      let both = last_tests (same_bytes tip.name b.parent) (below tip b) (sym (descends_off tip store b e) ∙ d) in
      ([], (ancestry_off tip store b d e, (((sym (same_eq tip.name b.parent both.0), ltb-true tip.height.0 b.height.0 both.1), tt), tt)))

  above : (b : Block) → descends tip store b ≡ true → goes_on tip b (held tip store b.parent) ≡ true → Row (held tip store b.parent).block → Row b
  above b d e r =
      let c = held tip store b.parent in
      let all = goes_below (same_bytes tip.name b.parent) c.is (below c.block b) e in
      let entry = held_in tip store b.parent all.0 all.1.0 in (
        r.0 ++ (c.block ∷ []),
        (
          ancestry_on tip store b d e ∙ ap (λ (z : List Block). z ++ (b ∷ [])) r.1.0,
          (linked_more tip c.block b r.0 r.1.1.0 (sym entry.1, lower tip store b e), all_more r.0 store c.block r.1.1.1 entry.0),
        ),
      )

  rows : (k : ℕ) (b : Block) → b.height.0 ≤ k → descends tip store b ≡ true → Row b
  rows zero b p d = by_test (goes_on tip b (held tip store b.parent)) refl
    where
      by_test : (t : Bool) → goes_on tip b (held tip store b.parent) ≡ t → Row b
      by_test false e = alone b d e
      by_test true e = absurd (omega (arith, lower tip store b e, p))
  rows (suc k) b p d = by_test (goes_on tip b (held tip store b.parent)) refl (rows k (held tip store b.parent).block)
    where
      by_test : (t : Bool) → goes_on tip b (held tip store b.parent) ≡ t
          → ((held tip store b.parent).block.height.0 ≤ k → descends tip store (held tip store b.parent).block ≡ true → Row (held tip store b.parent).block) → Row b
      by_test false e h = alone b d e
      by_test true e h = above b d e (h (omega (arith, lower tip store b e, p)) (sym (descends_on tip store b e) ∙ d))

  -- the ancestry is linked: it begins above the tip, each one's parent is the one before it, and the heights rise
  pub ancestry_linked : (b : Block) → descends tip store b ≡ true → Linked tip (ancestry tip store b)
  ancestry_linked b d = let r = rows b.height.0 b (omega arith) d in subst (Linked tip) (sym r.1.0) r.1.1.0

  -- it ends at b, and what lies below b is held
  pub ancestry_last : (b : Block) → descends tip store b ≡ true → (row : List Block) × ((ancestry tip store b ≡ row ++ (b ∷ [])) × AllIn row store)
  ancestry_last b d = let r = rows b.height.0 b (omega arith) d in (r.0, (r.1.0, r.1.1.1))

-- ---- heights that rise do not repeat, so that each block of a linked row takes an entry of its own
without : (x : Block) (l : List Block) → In x l → List Block
without x [] p = []
without x (y ∷ l) (inl e) = l
without x (y ∷ l) (inr p) = y ∷ without x l p

length_without : (x : Block) (l : List Block) (p : In x l) → length l ≡ suc (length (without x l p))
unfolding without
length_without x [] p = absurd p
length_without x (y ∷ l) (inl e) = refl
length_without x (y ∷ l) (inr p) = ap suc (length_without x l p)

in_without : (x : Block) (l : List Block) (p : In x l) (z : Block) → x.height.0 < z.height.0 → In z l → In z (without x l p)
unfolding without
in_without x [] p z h i = absurd p
in_without x (y ∷ l) (inl e) z h (inl f) = absurd (omega (arith, h, ap (λ (b : Block). b.height.0) (f ∙ sym e)))
in_without x (y ∷ l) (inl e) z h (inr i) = i
in_without x (y ∷ l) (inr p) z h (inl f) = inl f
in_without x (y ∷ l) (inr p) z h (inr i) = inr (in_without x l p z h i)

all_without : (x : Block) (l : List Block) (p : In x l) (q : Block) (row : List Block) → Linked q row → x.height.0 ≤ q.height.0 → AllIn row l → AllIn row (without x l p)
all_without x l p q [] k h a = tt
all_without x l p q (b ∷ row) k h a = (in_without x l p b (omega (arith, h, k.0.1)) a.0, all_without x l p b row k.1 (omega (arith, h, k.0.1)) a.1)

pub linked_within : (p : Block) (row l : List Block) → Linked p row → AllIn row l → length row ≤ length l
linked_within p [] l k a = omega arith
linked_within p (b ∷ row) l k a =
    let fewer : length row ≤ length (without b l a.0) = linked_within b row (without b l a.0) k.1 (all_without b l a.0 b row k.1 (omega arith) a.1) in
    omega (arith, fewer, length_without b l a.0)

-- the ancestry of an entry has no more blocks than the store has entries
pub ancestry_within : (tip : Block) (store : List Block) (b : Block) → descends tip store b ≡ true → In b store → length (ancestry tip store b) ≤ length store
ancestry_within tip store b d i =
    let r = ancestry_last tip store b d in
    linked_within tip (ancestry tip store b) store (ancestry_linked tip store b d) (subst (λ (z : List Block). AllIn z store) (sym r.1.0) (all_more r.0 store b r.1.1 i))

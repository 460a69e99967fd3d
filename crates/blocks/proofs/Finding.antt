-- The place of the first entry of a name, and what stands there. Assumes nothing.
use mathlib.Core.Path.{◌≡◌, refl, sym}
use Prim.Native.Nat.{ℕ, suc, ◌+◌, ◌<◌}
use native.Mathlib.Omega.{arith}
use mathlib.Core.Bool.{Bool, true, false, cond, not}
use mathlib.Core.List.{List, [], ◌∷◌}
use lib.ListN.{length, get_or}
use lib.Dec.{ltb}
use borrow.Author.Tests.{lt-ltb, le-ltb, ltb-true, ltb-false}
use Rattle.codec.specs.Names.{same_bytes}
use Rattle.blocks.specs.Steps.{place_of}
use Rattle.blocks.specs.Store.{genesis, found, missing, find}
use Rattle.blocks.specs.declared.Block.{Block}
use Rattle.std.specs.Prelude.{Option, Some, None}
use Rattle.std.specs.List.{position_or_len}

-- the place by std's word
pub place_is : (x : List ℕ) (l : List Block) → position_or_len (λ (b : Block). same_bytes b.name x) l ≡ place_of x l
unfolding place_of
place_is x [] = refl
place_is x (b ∷ l) = by_test (same_bytes b.name x) (place_is x l)
  where
    by_test : (t : Bool) → position_or_len (λ (d : Block). same_bytes d.name x) l ≡ place_of x l
        → cond (not t) (1 + position_or_len (λ (d : Block). same_bytes d.name x) l) 0 ≡ cond t 0 (suc (place_of x l))
    by_test true h = refl
    by_test false h = omega (arith, h)

-- what stands at that place is what is found
pub place_found : (x : List ℕ) (l : List Block) → cond (ltb (place_of x l) (length l)) (found (get_or l (place_of x l) genesis)) missing ≡ find x l
unfolding place_of find
place_found x [] = rw (le-ltb 0 0 (omega arith)) refl
place_found x (b ∷ l) = by_name (same_bytes b.name x) (place_found x l)
  where
    next : (k m : ℕ) → ltb (suc k) (suc m) ≡ ltb k m
    next k m = by_test (ltb k m) refl
      where
        by_test : (t : Bool) → ltb k m ≡ t → ltb (suc k) (suc m) ≡ t
        by_test true e = lt-ltb (suc k) (suc m) (omega (arith, ltb-true k m e))
        by_test false e = le-ltb (suc k) (suc m) (omega (arith, ltb-false k m e))

    by_name : (t : Bool) → cond (ltb (place_of x l) (length l)) (found (get_or l (place_of x l) genesis)) missing ≡ find x l
        → cond (ltb (cond t 0 (suc (place_of x l))) (suc (length l))) (found (get_or (b ∷ l) (cond t 0 (suc (place_of x l))) genesis)) missing ≡ cond t (found b) (find x l)
    by_name true e = rw (lt-ltb 0 (suc (length l)) (omega arith)) refl
    by_name false e = rw (next (place_of x l) (length l)) e

-- by what a search for the place returns
abbrev pub Placed : List ℕ → List Block → Option ℕ → Type 0
Placed x l r = r ≡ cond (ltb (place_of x l) (length l)) (Some (place_of x l)) None

pub place_some : (x : List ℕ) (l : List Block) (at : ℕ) → Placed x l (Some at) → (at < length l) × ((at ≡ place_of x l) × (find x l ≡ found (get_or l at genesis)))
place_some x l at e = by_test (ltb (place_of x l) (length l)) refl e (place_found x l)
  where
    by_test : (t : Bool) → ltb (place_of x l) (length l) ≡ t → Some at ≡ cond t (Some (place_of x l)) None → cond t (found (get_or l (place_of x l) genesis)) missing ≡ find x l
        → (at < length l) × ((at ≡ place_of x l) × (find x l ≡ found (get_or l at genesis)))
    by_test true f e h = let same : at ≡ place_of x l = cc in (rw same (ltb-true (place_of x l) (length l) f), (same, rw same (sym h)))
    by_test false f e h = absurd cc

pub place_none : (x : List ℕ) (l : List Block) → Placed x l None → find x l ≡ missing
place_none x l e = by_test (ltb (place_of x l) (length l)) e (place_found x l)
  where
    by_test : (t : Bool) → None ≡ cond t (Some (place_of x l)) None → cond t (found (get_or l (place_of x l) genesis)) missing ≡ find x l → find x l ≡ missing
    by_test true e h = absurd cc
    by_test false e h = sym h

-- A search after a fill at the place behind the held entries: the new block is found by its name, and what was found before is found still. Assumes nothing.
use mathlib.Core.Path.{◌≡◌, refl, sym, ◌∙◌, ap}
use Prim.Native.Nat.{ℕ, suc, ◌<◌}
use native.Mathlib.Omega.{arith}
use mathlib.Core.Bool.{Bool, true, false, cond}
use mathlib.Core.List.{List, [], ◌∷◌, ◌++◌}
use lib.ListN.{length, take, set}
use lib.Seq.{take-suc-set}
use Rattle.codec.specs.Names.{same_bytes}
use Rattle.codec.proofs.Order.{same_refl}
use Rattle.blocks.specs.Store.{Found, found, missing, find}
use Rattle.blocks.specs.declared.Block.{Block}

pub find_append : (x : List ℕ) (l m : List Block) → find x (l ++ m) ≡ cond (find x l).is (find x l) (find x m)
unfolding find
find_append x [] m = refl
find_append x (b ∷ l) m = by_test (same_bytes b.name x) (find_append x l m)
  where
    by_test : (t : Bool) → find x (l ++ m) ≡ cond (find x l).is (find x l) (find x m)
        → cond t (found b) (find x (l ++ m)) ≡ cond (cond t (found b) (find x l)).is (cond t (found b) (find x l)) (find x m)
    by_test true h = refl
    by_test false h = h

-- where nothing is found, the answer is `missing`
pub find-missing : (x : List ℕ) (l : List Block) → (find x l).is ≡ false → find x l ≡ missing
unfolding find
find-missing x [] e = refl
find-missing x (b ∷ l) e = by_test (same_bytes b.name x) (find-missing x l) e
  where
    by_test : (t : Bool) → ((find x l).is ≡ false → find x l ≡ missing) → (cond t (found b) (find x l)).is ≡ false → cond t (found b) (find x l) ≡ missing
    by_test true h e' = absurd (let z : ◌≡◌ {A = ℕ} 0 1 = cc in omega arith)
    by_test false h e' = h e'

module _ (store : List Block) (count : ℕ) (b : Block) (room : count < length store) where
  -- what is found after the fill, of any name
  pub filled : (x : List ℕ) → find x (take (suc count) (set store count b)) ≡ cond (find x (take count store)).is (find x (take count store)) (cond (same_bytes b.name x) (found b) missing)
  unfolding find
  filled x = ap (find x) (take-suc-set store count b room) ∙ find_append x (take count store) (b ∷ [])

  -- the new block is found, unless its name was held before
  pub filled_found : (find b.name (take count store)).is ≡ false → find b.name (take (suc count) (set store count b)) ≡ found b
  filled_found e =
      filled b.name
      ∙ ap (λ (t : Bool). cond t (find b.name (take count store)) (cond (same_bytes b.name b.name) (found b) missing)) e
      ∙ ap (λ (t : Bool). cond t (found b) missing) (same_refl b.name)

  -- what was found before is found still
  pub found_stays : (x : List ℕ) → (find x (take count store)).is ≡ true → find x (take (suc count) (set store count b)) ≡ find x (take count store)
  found_stays x e = filled x ∙ ap (λ (t : Bool). cond t (find x (take count store)) (cond (same_bytes b.name x) (found b) missing)) e

  -- a search of another name answers as before
  pub others_stay : (x : List ℕ) → same_bytes b.name x ≡ false → find x (take (suc count) (set store count b)) ≡ find x (take count store)
  others_stay x e =
      filled x
      ∙ ap (λ (t : Bool). cond (find x (take count store)).is (find x (take count store)) (cond t (found b) missing)) e
      ∙ by_test (find x (take count store)) (find-missing x (take count store))
    where
      by_test : (f : Found) → (f.is ≡ false → f ≡ missing) → cond f.is f missing ≡ f
      by_test f h = by_is f.is refl
        where
          by_is : (t : Bool) → f.is ≡ t → cond t f missing ≡ f
          by_is true q = refl
          by_is false q = sym (h q)

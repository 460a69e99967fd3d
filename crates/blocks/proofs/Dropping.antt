-- The drop, one entry at a time, from behind. Assumes nothing.
use mathlib.Core.Path.{◌≡◌, refl, sym, ◌∙◌, ap, subst}
use Prim.Native.Nat.{ℕ, suc, ◌+◌, ◌<◌, ◌≤◌}
use native.Mathlib.Omega.{arith}
use mathlib.Core.Bool.{Bool, true, false, cond}
use mathlib.Core.List.{List, [], ◌∷◌, ◌++◌}
use lib.Dec.{ltb}
use lib.ListN.{length, take, drop, get_or, set, drop_of_length-le}
use lib.Seq.{sets, sets-eq, set_comm, drop-cons, length-take-le, take_all}
use borrow.Author.Tests.{ltb-true, ltb-false}
use Rattle.blocks.specs.Store.{genesis, descends, only, kept, dropped}
use Rattle.blocks.specs.Steps.{kept_from}
use Rattle.blocks.specs.declared.Block.{Block}

-- ---- how many are held
pub length_lesser : (n : ℕ) (l : List Block) → length (take n l) ≡ cond (ltb n (length l)) n (length l)
length_lesser n l = by_test (ltb n (length l)) refl
  where
    by_test : (t : Bool) → ltb n (length l) ≡ t → length (take n l) ≡ cond t n (length l)
    by_test true e = let h : n < length l = ltb-true n (length l) e in length-take-le n l (omega arith)
    by_test false e = ap length (take_all n l (ltb-false n (length l) e))

pub held_within : (n : ℕ) (l : List Block) → (length (take n l) ≤ n) × (length (take n l) ≤ length l)
held_within n l = subst (λ (k : ℕ). (k ≤ n) × (k ≤ length l)) (sym (length_lesser n l)) (by_test (ltb n (length l)) refl)
  where
    by_test : (t : Bool) → ltb n (length l) ≡ t → (cond t n (length l) ≤ n) × (cond t n (length l) ≤ length l)
    by_test true e = let h : n < length l = ltb-true n (length l) e in (omega arith, omega arith)
    by_test false e = let h : length l ≤ n = ltb-false n (length l) e in (h, omega arith)

-- ---- a store before a run of stores
set-sets : (l vs : List Block) (i j : ℕ) (a : Block) → i < j → set (sets l j vs) i a ≡ sets (set l i a) j vs
set-sets l [] i j a h = refl
set-sets l (v ∷ vs) i j a h = set-sets (set l j v) vs i (suc j) a (omega arith) ∙ ap (λ (z : List Block). sets z (suc j) vs) (sym (set_comm l i j a v (λ e. omega (arith, e, h))))

pub length-only : (test : Block → Bool) (l : List Block) → length (only test l) ≤ length l
unfolding only
length-only test [] = omega arith
length-only test (b ∷ l) = by_test (test b) (length-only test l)
  where
    by_test : (t : Bool) → length (only test l) ≤ length l → length (cond t (b ∷ only test l) (only test l)) ≤ suc (length l)
    by_test true h = omega arith
    by_test false h = omega arith

-- ---- one entry more
-- what the drop leaves: r, the place behind what is kept from place i on, and w, the entries then
abbrev pub Stored : Block → List Block → List Block → ℕ → ℕ → ℕ → List Block → Type 0
Stored tip store entries i at r w = (r ≡ at + length (kept_from tip store i)) × (w ≡ sets entries at (kept_from tip store i))

kept_cons : (tip : Block) (store : List Block) (i : ℕ) → i < length store
    → kept_from tip store i ≡ cond (descends tip store (get_or store i genesis)) (get_or store i genesis ∷ kept_from tip store (i + 1)) (kept_from tip store (i + 1))
unfolding kept_from only
kept_cons tip store i h =
    let next : suc i ≡ i + 1 = omega arith in
    let b = get_or store i genesis in
    ap (only (descends tip store)) (drop-cons store i genesis h)
    ∙ ap (λ (k : ℕ). cond (descends tip store b) (b ∷ only (descends tip store) (drop k store)) (only (descends tip store) (drop k store))) next

pub stored_none : (tip : Block) (store entries : List Block) (i at : ℕ) → length store ≤ i → Stored tip store entries i at at entries
unfolding kept_from only
stored_none tip store entries i at h =
    let none : kept_from tip store i ≡ [] = ap (only (descends tip store)) (drop_of_length-le store h) in
    (omega (arith, ap length none), ap (sets entries at) (sym none))

-- the entry at place i is kept: what lies behind it is stored, and it is stored; or it is not
module _ (tip : Block) (store entries : List Block) (i at r : ℕ) (v : List Block) (within : i < length store) where
  pub stored_more : (b : Block) → b ≡ get_or store i genesis → descends tip store (get_or store i genesis) ≡ true → Stored tip store entries (i + 1) (at + 1) r v → Stored tip store entries i at r (set v at b)
  stored_more b is good before =
      let row = kept_from tip store (i + 1) in
      let next : at + 1 ≡ suc at = omega arith in
      let e : kept_from tip store i ≡ b ∷ row = rw (kept_cons tip store i within, good, is) refl in (
        omega (arith, before.0, ap length e),
        ap (λ (z : List Block). set z at b) before.1 ∙ set-sets entries row at (at + 1) b (omega arith) ∙ ap (λ (k : ℕ). sets (set entries at b) k row) next ∙ ap (sets entries at) (sym e),
      )

  pub stored_same : descends tip store (get_or store i genesis) ≡ false → Stored tip store entries (i + 1) at r v → Stored tip store entries i at r v
  stored_same bad before =
      let e : kept_from tip store i ≡ kept_from tip store (i + 1) = rw (kept_cons tip store i within, bad) refl in
      rw e before

-- all entries
pub stored_all : (tip : Block) (n : ℕ) (entries : List Block) (r : ℕ) (w : List Block) → Stored tip (take n entries) entries 0 0 r w → (r ≡ length (kept tip (take n entries))) × (w ≡ dropped tip n entries)
unfolding kept_from kept dropped
stored_all tip n entries r w all =
    let k = only (descends tip (take n entries)) (take n entries) in
    let fits : 0 + length k ≤ length entries = omega (arith, length-only (descends tip (take n entries)) (take n entries), (held_within n entries).1) in
    let none : 0 + length k ≡ length k = omega arith in
    (all.0 ∙ none, all.1 ∙ sets-eq k entries 0 fits ∙ ap (λ (m : ℕ). k ++ drop m entries) none)

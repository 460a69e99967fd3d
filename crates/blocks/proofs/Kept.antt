-- What a drop keeps: the entries that descend from the tip, and no others, in the store's order; and they are what is held afterwards. Assumes nothing.
use mathlib.Core.Path.{◌≡◌, refl, sym, ◌∙◌, ap}
use mathlib.Core.Logic.{inl, inr}
use Prim.Native.Nat.{ℕ}
use mathlib.Core.Bool.{Bool, true, false, cond}
use mathlib.Core.List.{List, [], ◌∷◌}
use native.Mathlib.Omega.{arith}
use lib.ListN.{length, take, drop}
use lib.Seq.{take-append_seam}
use Rattle.blocks.specs.Store.{descends, only, kept, dropped}
use Rattle.blocks.specs.declared.Block.{Block}
use Rattle.blocks.proofs.Linked.{In}

module _ (test : Block → Bool) (x : Block) where
  only_in : (l : List Block) → In x (only test l) → In x l × (test x ≡ true)
  unfolding only
  only_in [] p = absurd p
  only_in (b ∷ l) p = by_test (test b) refl (only_in l) p
    where
      by_test : (t : Bool) → test b ≡ t → (In x (only test l) → In x l × (test x ≡ true)) → In x (cond t (b ∷ only test l) (only test l)) → In x (b ∷ l) × (test x ≡ true)
      by_test true e h (inl q) = (inl q, ap test q ∙ e)
      by_test true e h (inr q) = (inr (h q).0, (h q).1)
      by_test false e h q = (inr (h q).0, (h q).1)

  pub in_only : (l : List Block) → In x l → test x ≡ true → In x (only test l)
  unfolding only
  in_only [] p e = absurd p
  in_only (b ∷ l) p e = by_test (test b) refl (in_only l) p
    where
      by_test : (t : Bool) → test b ≡ t → (In x l → test x ≡ true → In x (only test l)) → In x (b ∷ l) → In x (cond t (b ∷ only test l) (only test l))
      by_test true f h (inl q) = inl q
      by_test true f h (inr q) = inr (h q e)
      by_test false f h (inl q) = absurd (let z : ◌≡◌ {A = Bool} false true = sym f ∙ sym (ap test q) ∙ e in let n : ◌≡◌ {A = ℕ} 0 1 = cc in omega arith)
      by_test false f h (inr q) = h q e

-- an entry is kept exactly where it is held and descends
pub kept_in : (tip : Block) (store : List Block) (x : Block) → In x (kept tip store) → In x store × (descends tip store x ≡ true)
unfolding kept
kept_in tip store x p = only_in (descends tip store) x store p

pub in_kept : (tip : Block) (store : List Block) (x : Block) → In x store → descends tip store x ≡ true → In x (kept tip store)
unfolding kept
in_kept tip store x p e = in_only (descends tip store) x store p e

-- after a drop, the entries in front are the kept ones
pub dropped_held : (tip : Block) (count : ℕ) (entries : List Block) → take (length (kept tip (take count entries))) (dropped tip count entries) ≡ kept tip (take count entries)
unfolding dropped
dropped_held tip count entries = take-append_seam (kept tip (take count entries)) (drop (length (kept tip (take count entries))) entries)

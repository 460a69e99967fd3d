-- A release leaves fewer blocks: those that are written and those that are kept are no more than were held, on any store. Assumes nothing.
use mathlib.Core.Path.{◌≡◌, refl, sym, ap, ◌∙◌, subst}
use Prim.Native.Nat.{ℕ, suc, ◌+◌, ◌<◌, ◌≤◌}
use native.Mathlib.Omega.{arith}
use mathlib.Core.Bool.{Bool, true, false, cond, not, true≢false}
use mathlib.Core.Logic.{inl, inr}
use mathlib.Core.List.{List, [], ◌∷◌, ◌++◌}
use lib.Dec.{leb}
use lib.ListN.{length, take, drop, length-append, length-drop}
use borrow.Author.Tests.{le-leb, lt-leb}
use Rattle.codec.specs.Names.{same_bytes}
use Rattle.blocks.specs.Store.{held, descends, ancestry, only, kept, dropped}
use Rattle.blocks.specs.declared.Block.{Block}
use Rattle.blocks.proofs.Linked.{In, AllIn, Linked, held_in, all_more, linked_within, ancestry_linked, ancestry_last}
use Rattle.blocks.proofs.Kept.{in_only}
use Rattle.blocks.proofs.Dropping.{length-only, held_within}

-- ---- what a drop leaves
pub kept_within : (tip : Block) (store : List Block) → length (kept tip store) ≤ length store
unfolding kept
kept_within tip store = length-only (descends tip store) store

pub length-dropped : (tip : Block) (count : ℕ) (entries : List Block) → length (dropped tip count entries) ≡ length entries
unfolding dropped
length-dropped tip count entries =
    let k = kept tip (take count entries) in
    omega (arith, length-append k (drop (length k) entries), length-drop (length k) entries, kept_within tip (take count entries), (held_within count entries).1)

-- ---- counting the entries that pass a test
module _ (p q : Block → Bool) where
  only_less : (l : List Block) → ((b : Block) → p b ≡ true → q b ≡ true) → length (only p l) ≤ length (only q l)
  unfolding only
  only_less [] h = omega arith
  only_less (b ∷ l) h = go (p b) refl (q b) refl (only_less l h)
    where
      go : (s : Bool) → p b ≡ s → (t : Bool) → q b ≡ t → length (only p l) ≤ length (only q l)
          → length (cond s (b ∷ only p l) (only p l)) ≤ length (cond t (b ∷ only q l) (only q l))
      go true e true f i = omega arith
      go true e false f i = absurd (let z : ◌≡◌ {A = Bool} false true = sym f ∙ h b e in let n : ◌≡◌ {A = ℕ} 0 1 = cc in omega arith)
      go false e true f i = omega arith
      go false e false f i = i

only_parts : (p : Block → Bool) (l : List Block) → length (only p l) + length (only (λ b. not (p b)) l) ≡ length l
unfolding only
only_parts p [] = omega arith
only_parts p (b ∷ l) = go (p b) (only_parts p l)
  where
    go : (t : Bool) → length (only p l) + length (only (λ b. not (p b)) l) ≡ length l
        → length (cond t (b ∷ only p l) (only p l)) + length (cond (not t) (b ∷ only (λ b. not (p b)) l) (only (λ b. not (p b)) l)) ≡ suc (length l)
    go true i = omega arith
    go false i = omega arith

-- ---- heights
linked_last : (p : Block) (row : List Block) (b : Block) → Linked p (row ++ (b ∷ [])) → p.height.0 < b.height.0
linked_last p [] b k = k.0.1
linked_last p (d ∷ row) b k = omega (arith, k.0.1, linked_last d row b k.1)

-- x descends, so that it is higher than the tip
pub descends_higher : (tip : Block) (store : List Block) (x : Block) → descends tip store x ≡ true → tip.height.0 < x.height.0
descends_higher tip store x d =
    let r = ancestry_last tip store x d in
    linked_last tip r.0 x (subst (Linked tip) r.1.0 (ancestry_linked tip store x d))

-- no higher than b
abbrev up_to : Block → Block → Bool
up_to b x = leb x.height.0 b.height.0

linked_low : (p : Block) (row : List Block) (b : Block) (l : List Block) → Linked p (row ++ (b ∷ [])) → AllIn (row ++ (b ∷ [])) l → AllIn (row ++ (b ∷ [])) (only (up_to b) l)
linked_low p [] b l k a = (in_only (up_to b) b l a.0 (le-leb b.height.0 b.height.0 (omega arith)), tt)
linked_low p (d ∷ row) b l k a = (
  in_only (up_to b) d l a.0 (le-leb d.height.0 b.height.0 (omega (arith, linked_last d row b k.1))),
  linked_low d row b l k.1 a.1,
)

tip_held : (tip : Block) (store : List Block) (x : List ℕ) → same_bytes tip.name x ≡ true → (held tip store x).block ≡ tip
unfolding held
tip_held tip store x e = rw e

-- a held block that descends from the tip is an entry
pub held_entry : (tip : Block) (store : List Block) (x : List ℕ) → (held tip store x).is ≡ true → descends tip store (held tip store x).block ≡ true → In (held tip store x).block store
held_entry tip store x is d = go (same_bytes tip.name x) refl
  where
    go : (t : Bool) → same_bytes tip.name x ≡ t → In (held tip store x).block store
    go true e = absurd (omega (arith, descends_higher tip store (held tip store x).block d, ap (λ (b : Block). b.height.0) (tip_held tip store x e)))
    go false e = (held_in tip store x e is).0

-- what is written is no higher than b, what is kept is higher
pub released_fewer : (tip : Block) (store : List Block) (b : Block) → descends tip store b ≡ true → In b store → length (ancestry tip store b) + length (kept b store) ≤ length store
unfolding kept
released_fewer tip store b d i =
    let r = ancestry_last tip store b d in
    let whole : ancestry tip store b ≡ r.0 ++ (b ∷ []) = r.1.0 in
    let linked : Linked tip (r.0 ++ (b ∷ [])) = subst (Linked tip) whole (ancestry_linked tip store b d) in
    let low : length (r.0 ++ (b ∷ [])) ≤ length (only (up_to b) store) =
    linked_within tip (r.0 ++ (b ∷ [])) (only (up_to b) store) linked (linked_low tip r.0 b store linked (all_more r.0 store b r.1.1 i)) in
    let high : length (only (descends b store) store) ≤ length (only (λ x. not (up_to b x)) store) =
    only_less (descends b store) (λ x. not (up_to b x)) store (λ x e. ap not (lt-leb x.height.0 b.height.0 (descends_higher b store x e))) in
    omega (arith, low, high, ap length whole, only_parts (up_to b) store)

-- ---- fewer pass, if one entry does not
only_fewer : (test : Block → Bool) (x : Block) (l : List Block) → In x l → test x ≡ false → length (only test l) < length l
unfolding only
only_fewer test x [] p e = absurd p
only_fewer test x (b ∷ l) p e = by_test (test b) refl p (only_fewer test x l) (length-only test l)
  where
    by_test : (t : Bool) → test b ≡ t → In x (b ∷ l) → (In x l → test x ≡ false → length (only test l) < length l) → length (only test l) ≤ length l
        → length (cond t (b ∷ only test l) (only test l)) < suc (length l)
    by_test true f (inl q) h m = absurd (true≢false (sym f ∙ sym (ap test q) ∙ e))
    by_test true f (inr q) h m = omega (arith, h q e)
    by_test false f p h m = omega arith

-- to make a held block the tip and drop what does not descend from it takes that block itself out of the held ones
pub kept_fewer : (b : Block) (store : List Block) → In b store → length (kept b store) < length store
unfolding kept
kept_fewer b store i = only_fewer (descends b store) b store i (go (descends b store b) refl)
  where
    go : (t : Bool) → descends b store b ≡ t → t ≡ false
    go true e = absurd (omega (arith, descends_higher b store b e))
    go false e = refl

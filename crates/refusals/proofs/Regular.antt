-- The rules of the place "regions": the entry certificate's length, and the order in which the code asks. Assumes nothing.
use mathlib.Core.Path.{◌≡◌, refl, sym, ◌∙◌}
use mathlib.Core.Bool.{Bool, true, false, cond, ◌&&◌}
use mathlib.Core.List.{List}
use Prim.Native.Nat.{ℕ, ◌+◌, ◌*◌, ◌≤◌, ◌<◌}
use native.Mathlib.Omega.{arith}
use borrow.Author.Tests.{ne_eqb, leb-true, ltb-true, eqb-true}
use lib.Dec.{eqb, leb, ltb}
use lib.ListN.{length, drop, length-take, length-drop}
use Rattle.settings.specs.Quorum.{largest, last_view}
use Rattle.settings.specs.Opening.{most_leaders}
use Rattle.codec.specs.Bytes.{part}
use Rattle.codec.proofs.Order.{and_true}
use Rattle.wire.specs.Fields.{kind_of, count_of}
use Rattle.memory.specs.Layout.{memory_length, entry_place, entry_length_of, entry_of, block_count_of, leader_count_of}
use Rattle.protocol.specs.Work.{Work, n, own, view_now}
use Rattle.protocol.specs.Refusals.{store_length, regular}
use Rattle.refusals.specs.Early.{certificate_sized}

-- ---- no certificate is so short, and none with at most the largest number of timeouts is so long
sized_by : (n : ℕ) (r : List ℕ) → (length r ≡ 56 → ⊥) → (count_of r ≤ n → length r ≡ 24 + 112 * count_of r → ⊥) → certificate_sized n r ≡ false
unfolding certificate_sized
sized_by n r h g = go (eqb (kind_of r) 3) (eqb (kind_of r) 6) (leb (count_of r) n) refl
  where
    go : (t u l : Bool) → leb (count_of r) n ≡ l → cond t (eqb (length r) 56) (u && (l && eqb (length r) (24 + 112 * count_of r))) ≡ false
    go true u l e = ne_eqb _ _ h
    go false false l e = refl
    go false true false e = refl
    go false true true e = ne_eqb _ _ (g (leb-true _ _ e))

entry_length : (m : List ℕ) → (entry_length_of m < 24 → length (entry_of m) < 24) × (memory_length ≤ length m → 3608 < entry_length_of m → 3608 < length (entry_of m))
unfolding entry_of part
entry_length m = (λ h. omega (arith, length-take (entry_length_of m) (drop entry_place m)), λ l h. omega (arith, length-take (entry_length_of m) (drop entry_place m), length-drop entry_place m))

pub sized_short : (n : ℕ) (m : List ℕ) → entry_length_of m < 24 → certificate_sized n (entry_of m) ≡ false
sized_short n m h = let s = (entry_length m).0 h in sized_by n (entry_of m) (λ e. omega arith) (λ k e. omega arith)

pub sized_long : (n : ℕ) (m : List ℕ) → n ≤ largest → memory_length ≤ length m → 3608 < entry_length_of m → certificate_sized n (entry_of m) ≡ false
sized_long n m f l h = let s = (entry_length m).1 l h in sized_by n (entry_of m) (λ e. omega arith) (λ k e. omega arith)

-- ---- a certificate that has its length
pub sized_block : (n : ℕ) (r : List ℕ) → certificate_sized n r ≡ true → kind_of r ≡ 3 → length r ≡ 56
unfolding certificate_sized
sized_block n r e k = eqb-true _ _ (rw k at e)

pub sized_timeouts : (n : ℕ) (r : List ℕ) → certificate_sized n r ≡ true → (kind_of r ≡ 3 → ⊥) → length r ≡ 24 + 112 * count_of r
unfolding certificate_sized
sized_timeouts n r e k =
    eqb-true _ _ (and_true (leb (count_of r) n) _ (and_true (eqb (kind_of r) 6) _ (rw (ne_eqb (kind_of r) 3 k) at e)).1).1

-- ---- the rules in the code's order
and_regroup : (a b c : Bool) → (a && (b && c)) ≡ ((a && b) && c)
and_regroup true b c = refl
and_regroup false b c = refl

module _ (W : Work) where
  pub regular_is : regular W ≡ ((leb (n W) largest && ltb (own W) (n W))
      && (leb 1 (view_now W) && (leb (view_now W) last_view && (leb (block_count_of W.memory) store_length && (certificate_sized (n W) (entry_of W.memory)
      && (leb 1 (leader_count_of W.memory) && leb (leader_count_of W.memory) most_leaders))))))
  unfolding regular certificate_sized
  regular_is = and_regroup (leb (n W) largest) (ltb (own W) (n W)) _

  -- what a replica has whose regions pass
  pub record Passed : Type 0 where
    pub few : n W ≤ largest
    pub member : own W < n W
    pub view_first : 1 ≤ view_now W
    pub view_last : view_now W ≤ last_view
    pub entry : certificate_sized (n W) (entry_of W.memory) ≡ true
    pub leaders_some : 0 < leader_count_of W.memory
    pub leaders_most : leader_count_of W.memory ≤ most_leaders

  pub passed : regular W ≡ true → Passed
  passed e =
      let a = and_true _ _ (sym regular_is ∙ e) in
      let s = and_true _ _ a.0 in
      let b = and_true _ _ a.1 in
      let v = and_true _ _ b.1 in
      let t = and_true _ _ (and_true (leb (block_count_of W.memory) store_length) _ v.1).1 in
      let l = and_true _ _ t.1 in
      record {
        few = leb-true _ _ s.0;
        member = ltb-true _ _ s.1;
        view_first = leb-true _ _ b.0;
        view_last = leb-true _ _ v.0;
        entry = t.0;
        leaders_some = leb-true _ _ l.0;
        leaders_most = leb-true _ _ l.1;
      }

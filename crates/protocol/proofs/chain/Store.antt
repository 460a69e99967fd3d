-- The store over the tip: holding a block and releasing one keep `Chained`. A released block's ancestry leads from the tip upward, each one the parent of the
-- next and one higher. Assumes nothing.
use Prim.Native.Nat.{ℕ, zero, suc, ◌+◌, ◌≤◌, ◌<◌}
use mathlib.Core.Bool.{Bool, true, false, cond}
use mathlib.Core.List.{List, [], ◌∷◌, ◌++◌, map}
use mathlib.Core.Logic.{◌⊎◌, inl, inr, ⊎_elim}
use mathlib.Core.Path.{◌≡◌, refl, sym, ap, subst, ◌∙◌}
use native.Mathlib.Omega.{arith}
use borrow.Author.Tests.{lt-ltb}
use lib.ListN.{length, length-append, length-map}
use Rattle.settings.specs.declared.Settings.{Settings}
use Rattle.settings.specs.Quorum.{last_height}
use Rattle.codec.specs.Names.{same_bytes, zero_name}
use Rattle.codec.proofs.Order.{same_eq, eq_same, same_ne, ne_same, same_refl}
use Rattle.blocks.specs.declared.Block.{Block}
use Rattle.blocks.specs.Store.{Found, found, find, held, below, descends, ancestry, kept}
use Rattle.blocks.specs.Steps.{goes_on}
use Rattle.blocks.proofs.Ancestry.{never, goes_below, descends_on, descends_off, lower, ancestry_on, ancestry_off}
use Rattle.blocks.proofs.Linked.{In, AllIn, all_more, find_in, held_in, last_tests, ancestry_last}
use Rattle.blocks.proofs.Filled.{find_append}
use Rattle.blocks.proofs.Kept.{kept_in, in_kept}
use Rattle.blocks.proofs.Fewer.{descends_higher}
use Rattle.safety.specs.Cluster.{Direct}
use Rattle.safety.specs.Rows.{Upward, firsts, number}
use Rattle.safety.proofs.Rows.{row_upward, number_append}
use Rattle.wire.specs.Fit.{All}
use Rattle.protocol.proofs.call.Typing.{all_append}
use Rattle.protocol.proofs.chain.Invariant.{History, R, row_in, ParentHeld, Stored, Named, Chained, placement_of}

-- ---- searching
is_found : (f : Found) (c : Block) → f ≡ found c → f.is ≡ true
is_found f c e = ap (λ (g : Found). g.is) e

-- one entry of a name is found by it
abbrev pub Single : List Block → Type 0
Single store = (a b : Block) → In a store → In b store → a.name ≡ b.name → a ≡ b

pub as_found : (f : Found) → f.is ≡ true → f ≡ found f.block
as_found f e = ap (λ (t : Bool). let g : Found = record { is = t; block = f.block } in g) e

-- an entry's name is found
entry_found : (b : Block) (l : List Block) → In b l → (find b.name l).is ≡ true
unfolding find
entry_found b [] p = absurd p
entry_found b (c ∷ l) (inl e) = rw (← e, same_refl b.name) refl
entry_found b (c ∷ l) (inr p) = go (same_bytes c.name b.name) (entry_found b l p)
  where
    go : (t : Bool) → (find b.name l).is ≡ true → (cond t (found c) (find b.name l)).is ≡ true
    go true h = refl
    go false h = h

pub in_find : (store : List Block) (b : Block) → Single store → In b store → find b.name store ≡ found b
in_find store b one p =
    let e = entry_found b store p in
    let i = find_in b.name store e in
    as_found (find b.name store) e ∙ ap found (one (find b.name store).block b i.0 p i.1)

pub find-name : (store : List Block) (x : List ℕ) (c : Block) → find x store ≡ found c → In c store × (c.name ≡ x)
find-name store x c e =
    let i = find_in x store (is_found (find x store) c e) in
    subst (λ (d : Block). In d store × (d.name ≡ x)) (ap (λ (f : Found). f.block) e) i

module _ (set : Settings) (w : History) where
  -- ---- a block is held
  module _ (l : List (List ℕ)) (tip : Block) (store : List Block) (C : Chained set w l tip store) (b : Block) (placed : w.Placed (placement_of b)) (le : b.height.0 ≤ last_height)
      (parent : ParentHeld set w tip store b) (new : (held tip store b.name).is ≡ false) where
    abbrev more : List Block
    more = store ++ (b ∷ [])

    in-more : (c : Block) → In c more → In c store ⊎ (c ≡ b)
    in-more c = go store
      where
        go : (l : List Block) → In c (l ++ (b ∷ [])) → In c l ⊎ (c ≡ b)
        go [] (inl e) = inr e
        go [] (inr p) = absurd p
        go (d ∷ l) (inl e) = inl (inl e)
        go (d ∷ l) (inr p) = ⊎_elim (λ q. inl (inr q)) (λ q. inr q) (go l p)

    new_tip : same_bytes tip.name b.name ≡ false
    unfolding held
    new_tip = go (same_bytes tip.name b.name) new
      where
        go : (t : Bool) → (cond t (found tip) (find b.name store)).is ≡ false → t ≡ false
        go true e = never (sym e)
        go false e = refl

    new_store : (find b.name store).is ≡ false
    unfolding held
    new_store = let e = new_tip in rw e at new

    still_found : (x : List ℕ) (c : Block) → find x store ≡ found c → find x more ≡ found c
    still_found x c e = find_append x store (b ∷ []) ∙ ap (λ (f : Found). cond f.is f (find x (b ∷ []))) e

    parent_more : (c : Block) → ParentHeld set w tip store c → ParentHeld set w tip more c
    parent_more c = ⊎_elim (λ p. inl p) (λ p. inr (p.0, still_found c.parent p.0 p.1, p.2))

    over : tip.height.0 < b.height.0
    over = ⊎_elim (λ p. omega (arith, p.1)) (λ p. omega (arith, p.2, (C.stored p.0 (find-name store b.parent p.0 p.1).0).over_tip)) parent

    no_name : (c : Block) → In c store → c.name ≡ b.name → ⊥
    no_name c p e = let f = entry_found c store p in let g = new_store in never (sym g ∙ rw e at f)

    pub held_chained : Chained set w l tip more
    held_chained = record {
      row = C.row;
      direct = C.direct;
      numbered = C.numbered;
      tip_height = C.tip_height;
      named = C.named;
      tip_le = C.tip_le;
      stored = λ c p. ⊎_elim
          (λ q. let s = C.stored c q in record { placed = s.placed; height_le = s.height_le; over_tip = s.over_tip; parent_held = parent_more c s.parent_held })
          (λ q. subst (Stored set w tip more) (sym q) (record { placed = placed; height_le = le; over_tip = over; parent_held = parent_more b parent }))
          (in-more c p);
      single = λ a c p q e. ⊎_elim
          (λ i. ⊎_elim (λ j. C.single a c i j e) (λ j. absurd (no_name a i (e ∙ ap (λ (d : Block). d.name) j))) (in-more c q))
          (λ i. ⊎_elim (λ j. absurd (no_name c j (sym e ∙ ap (λ (d : Block). d.name) i))) (λ j. i ∙ sym j) (in-more c q))
          (in-more a p);
      tip_apart = λ c p e. ⊎_elim (λ q. C.tip_apart c q e) (λ q. same_ne tip.name b.name new_tip (sym e ∙ ap (λ (d : Block). d.name) q)) (in-more c p);
    }

  -- ---- the ancestry of an entry
  abbrev pub names : List Block → List (List ℕ)
  names l = map (λ (b : Block). b.name) l

  abbrev pub pairs : List Block → List (List ℕ × ℕ)
  pairs l = map (λ (b : Block). (b.name, b.height.0)) l

  upward_more : (y : List ℕ) (up : List (List ℕ)) (z x : List ℕ) → Upward (R set w).Parent zero_name y up z → (R set w).Parent x z → Upward (R set w).Parent zero_name y (up ++ (x ∷ [])) x
  upward_more y [] z x u p = (rw u p, refl)
  upward_more y (a ∷ up) z x u p = (u.0, upward_more a up z x u.1 p)

  map_more : {B : Type 0} (f : Block → B) (l : List Block) (b : Block) → map f (l ++ (b ∷ [])) ≡ map f l ++ (f b ∷ [])
  map_more f [] b = refl
  map_more {B} f (c ∷ l) b = ap (λ (k : List B). f c ∷ k) (map_more f l b)

  module _ (l : List (List ℕ)) (tip : Block) (store : List Block) (C : Chained set w l tip store) where
    -- from the tip upward to b, one higher each time
    record FromTip (b : Block) : Type 0 where
      upward : Upward (R set w).Parent zero_name tip.name (names (ancestry tip store b)) b.name
      numbered : pairs (ancestry tip store b) ≡ number (suc tip.height.0) (names (ancestry tip store b))
      height : b.height.0 ≡ tip.height.0 + length (ancestry tip store b)

    parent_of : (b : Block) → In b store → (R set w).Parent b.name b.parent
    parent_of b p = (placement_of b, (C.stored b p).placed, refl, refl)

    -- the parent of an entry b that is the tip, or the entry c
    height-tip : (b : Block) → In b store → b.parent ≡ tip.name → b.height.0 ≡ suc tip.height.0
    height-tip b p e = ⊎_elim (λ q. q.1) (λ q. let i = find-name store b.parent q.0 q.1 in absurd (C.tip_apart q.0 i.0 (i.1 ∙ e))) (C.stored b p).parent_held

    height_entry : (b c : Block) → In b store → In c store → c.name ≡ b.parent → b.height.0 ≡ suc c.height.0
    height_entry b c p q e = ⊎_elim
        (λ r. absurd (C.tip_apart c q (e ∙ r.0)))
        (λ r. let i = find-name store b.parent r.0 r.1 in
        let d : r.0 ≡ c = C.single r.0 c i.0 q (i.1 ∙ sym e) in
        rw (← d) r.2)
        (C.stored b p).parent_held

    from_tip_step : (b : Block) → In b store → descends tip store b ≡ true
        → (let c = (held tip store b.parent).block in c.height.0 < b.height.0 → In c store → descends tip store c ≡ true → FromTip c) → FromTip b
    from_tip_step b p d rest = go (goes_on tip b (held tip store b.parent)) refl
      where
        go : (t : Bool) → goes_on tip b (held tip store b.parent) ≡ t → FromTip b
        go false e =
            let both = last_tests tip store (same_bytes tip.name b.parent) (below tip b) (sym (descends_off tip store b e) ∙ d) in
            let on_tip : b.parent ≡ tip.name = sym (same_eq tip.name b.parent both.0) in
            let one : ancestry tip store b ≡ b ∷ [] = ancestry_off tip store b d e in
            let high = height-tip b p on_tip in
            record {
              upward = rw one (rw (← on_tip) (parent_of b p), refl);
              numbered = rw (one, ← high) refl;
              height = rw one (omega arith);
            }
        go true e =
            let c = held tip store b.parent in
            let tests = goes_below (same_bytes tip.name b.parent) c.is (below c.block b) e in
            let i = held_in tip store b.parent tests.0 tests.1.0 in
            let up = rest (lower tip store b e) i.0 (sym (descends_on tip store b e) ∙ d) in
            let more : ancestry tip store b ≡ ancestry tip store c.block ++ (b ∷ []) = ancestry_on tip store b d e in
            let high = height_entry b c.block p i.0 i.1 in
            let line = ancestry tip store c.block in
            let tall : length (names line) + suc tip.height.0 ≡ b.height.0 = omega (arith, length-map line (λ (b : Block). b.name), up.height, high) in
            record {
              upward = rw (more, map_more (λ (b : Block). b.name) line b) (upward_more tip.name (names line) c.block.name b.name up.upward (rw i.1 (parent_of b p)));
              numbered = rw (more, map_more (λ (b : Block). b.name) line b, map_more {B = List ℕ × ℕ} (λ (b : Block). (b.name, b.height.0)) line b, number_append, tall, up.numbered) refl;
              height = rw (more, length-append) (omega (arith, up.height, high));
            }

    from_tip : (k : ℕ) (b : Block) → b.height.0 ≤ k → In b store → descends tip store b ≡ true → FromTip b
    from_tip zero b h p d = from_tip_step b p d (λ l q e. absurd (omega (arith, l)))
    from_tip (suc k) b h p d = from_tip_step b p d (λ l q e. from_tip k (held tip store b.parent).block (omega (arith, l)) q e)

    -- ---- the block b is released: it is the tip, and what descends from it is kept
    module _ (b : Block) (p : In b store) (d : descends tip store b ≡ true) (v : ℕ) (direct : Direct (R set w) v b.name)
        (l' : List (List ℕ)) (rows : row_in l' ≡ row_in l ++ pairs (ancestry tip store b)) where
      abbrev rest : List Block
      rest = kept b store

      up : FromTip b
      up = from_tip b.height.0 b (omega arith) p d

      firsts-pairs : (m : List Block) → firsts (pairs m) ≡ names m
      firsts-pairs [] = refl
      firsts-pairs (c ∷ m) = ap (λ (k : List (List ℕ)). c.name ∷ k) (firsts-pairs m)

      firsts_append : (m k : List (List ℕ × ℕ)) → firsts (m ++ k) ≡ firsts m ++ firsts k
      firsts_append [] k = refl
      firsts_append (a ∷ m) k = ap (λ (x : List (List ℕ)). a.0 ∷ x) (firsts_append m k)

      -- each block of the line has its height
      stored_named : (row : List Block) → AllIn row store → All (Named set w) (pairs row)
      unfolding All
      stored_named [] a = tt
      stored_named (c ∷ row) a = ((placement_of c, (C.stored c a.0).placed, refl, refl), stored_named row a.1)

      line_named : All (Named set w) (pairs (ancestry tip store b))
      line_named =
          let r = ancestry_last tip store b d in
          subst (λ (row : List Block). All (Named set w) (pairs row)) (sym r.1.0) (stored_named (r.0 ++ (b ∷ [])) (all_more r.0 store b r.1.1 p))

      firsts_rows : firsts (row_in l') ≡ firsts (row_in l) ++ names (ancestry tip store b)
      firsts_rows = ap firsts rows ∙ firsts_append (row_in l) (pairs (ancestry tip store b)) ∙ ap (λ (k : List (List ℕ)). firsts (row_in l) ++ k) (firsts-pairs (ancestry tip store b))

      in_rest : (c : Block) → In c rest → In c store × (descends b store c ≡ true)
      in_rest c = kept_in b store c

      single_rest : Single rest
      single_rest x y i j e = C.single x y (in_rest x i).0 (in_rest y j).0 e

      parent_rest : (c : Block) → In c store → descends b store c ≡ true → ParentHeld set w b rest c
      parent_rest c i e = go (goes_on b c (held b store c.parent)) refl
        where
          go : (t : Bool) → goes_on b c (held b store c.parent) ≡ t → ParentHeld set w b rest c
          go false f =
              let both = last_tests b store (same_bytes b.name c.parent) (below b c) (sym (descends_off b store c f) ∙ e) in
              let on : b.name ≡ c.parent = same_eq b.name c.parent both.0 in
              inl (sym on, height_entry c b i p on)
          go true f =
              let q = held b store c.parent in
              let tests = goes_below (same_bytes b.name c.parent) q.is (below q.block c) f in
              let j = held_in b store c.parent tests.0 tests.1.0 in
              let k : In q.block rest = in_kept b store q.block j.0 (sym (descends_on b store c f) ∙ e) in
              inr (q.block, rw j.1 at (in_find rest q.block single_rest k), height_entry c q.block i j.0 j.1)

      pub released_chained : Chained set w l' b rest
      released_chained = record {
        row = rw firsts_rows (row_upward (R set w).Parent zero_name (firsts (row_in l)) (names (ancestry tip store b)) tip.name b.name C.row up.upward);
        direct = inr (v, direct);
        numbered = rw (firsts_rows, number_append) (rows ∙ rw up.numbered (number_rest C.numbered));
        tip_height = rw (rows, length-append) (omega (arith, up.height, C.tip_height, length-map {B = List ℕ × ℕ} (ancestry tip store b) (λ (c : Block). (c.name, c.height.0))));
        named = rw rows (all_append (Named set w) (row_in l) (pairs (ancestry tip store b)) C.named line_named);
        tip_le = (C.stored b p).height_le;
        stored = λ c i.
            let q = in_rest c i in
            let s = C.stored c q.0 in
            record { placed = s.placed; height_le = s.height_le; over_tip = descends_higher b store c q.1; parent_held = parent_rest c q.0 q.1 };
        single = single_rest;
        tip_apart = λ c i e.
            let q = in_rest c i in
            let same : c ≡ b = C.single c b q.0 p e in
            let high = descends_higher b store c q.1 in
            omega (arith, high, ap (λ (x : Block). x.height.0) same);
      }
        where
          number_rest : row_in l ≡ number 1 (firsts (row_in l)) → row_in l ++ number (suc tip.height.0) (names (ancestry tip store b))
              ≡ number 1 (firsts (row_in l)) ++ number (length (firsts (row_in l)) + 1) (names (ancestry tip store b))
          number_rest e =
              let k : suc tip.height.0 ≡ length (firsts (row_in l)) + 1 = omega (arith, C.tip_height, length-map (row_in l) (λ (a : List ℕ × ℕ). a.0)) in
              rw (← e, ← k)

    -- ---- a stored block leads to the tip, so that rule D's test of it always passes in such a store
    leads_step : (b : Block) → In b store → ((c : Block) → c.height.0 < b.height.0 → In c store → descends tip store c ≡ true) → descends tip store b ≡ true
    unfolding held
    leads_step b p rest = ⊎_elim (λ q. on_tip q.0) (λ q. on_entry q.0 q.1 q.2) (C.stored b p).parent_held
      where
        on_tip : b.parent ≡ tip.name → descends tip store b ≡ true
        on_tip e =
            let s : same_bytes tip.name b.parent ≡ true = eq_same tip.name b.parent (sym e) in
            descends_off tip store b (rw s refl) ∙ rw s (lt-ltb tip.height.0 b.height.0 (C.stored b p).over_tip)

        on_entry : (c : Block) → find b.parent store ≡ found c → b.height.0 ≡ suc c.height.0 → descends tip store b ≡ true
        on_entry c f h =
            let i = find-name store b.parent c f in
            let s : same_bytes tip.name b.parent ≡ false = ne_same tip.name b.parent (λ e. C.tip_apart c i.0 (i.1 ∙ sym e)) in
            let is : held tip store b.parent ≡ found c = rw s f in
            let goes : goes_on tip b (held tip store b.parent) ≡ true = rw (is, s) (lt-ltb c.height.0 b.height.0 (omega (arith, h))) in
            descends_on tip store b goes ∙ rw is (rest c (omega (arith, h)) i.0)

    leads_all : (k : ℕ) (b : Block) → b.height.0 ≤ k → In b store → descends tip store b ≡ true
    leads_all zero b h p = leads_step b p (λ c l i. absurd (omega (arith, l)))
    leads_all (suc k) b h p = leads_step b p (λ c l i. leads_all k c (omega (arith, l)) i)

    pub stored_descends : (b : Block) → In b store → descends tip store b ≡ true
    stored_descends b p = leads_all b.height.0 b (omega arith) p

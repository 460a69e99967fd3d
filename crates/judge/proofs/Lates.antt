-- The lists of 01's table, cut where the store is first asked: the early part and then the late part judge as the whole. Assumes nothing.
use mathlib.Core.Path.{◌≡◌, refl, ap}
use mathlib.Core.Bool.{Bool, true, false, cond, not, ◌&&◌, ◌||◌}
use mathlib.Core.List.{List, [], ◌∷◌, ◌++◌}
use lib.ListN.{take, drop}
use Prim.Native.Nat.{ℕ, suc}
use borrow.Author.Tests.{eq-eqb}
use lib.Dec.{eqb, ltb}
use Rattle.settings.specs.Answer.{Rule, ◌⇒◌}
use Rattle.settings.specs.Quorum.{last_height}
use Rattle.codec.specs.Names.{same_bytes}
use Rattle.codec.proofs.Order.{same_refl, same_eq}
use Rattle.wire.specs.Fields.{kind_of}
use Rattle.wire.specs.Content.{by_block, by_timeouts, Content, vote, commit, certificate, timeout, proposal, block, release, certificate_of, content}
use Rattle.blocks.specs.Store.{Found}
use Rattle.memory.specs.Layout.{entry_of}
use Rattle.memory.specs.Leaders.{by_list}
use Rattle.protocol.specs.Work.{Work, held_block}
use Rattle.protocol.specs.Refusals.{safe_name, child, misplaced, refusals, propose_rules}
use Rattle.protocol.proofs.Branch.{by_kind}
use Rattle.refusals.specs.Number.{first_of, numbered}
use Rattle.refusals.specs.Early.{voted_rules, proposal_first, proposal_rules, early_rules, early_propose}
use Rattle.judge.specs.Want.{Wanted, names, safe_block, asked}
use Rattle.judge.specs.Late.{child_of, same_found, misplaced_on, store_full, chain_rules, late_rules, late_first, late_propose}

-- a record of another kind than 7 and 8 asks nothing of the store
pub late_none : (w : Wanted) (found under : Found) (r : List ℕ) → (kind_of r ≡ 7 → ⊥) → (kind_of r ≡ 8 → ⊥) → 0 ≡ first_of (late_rules w found under (content r))
unfolding late_rules first_of
late_none w found under r k7 k8 =
    by_kind (λ q. 0 ≡ first_of (late_rules w found under q)) r (λ j v x. refl) (λ j v x. refl) (λ t. refl) (λ j k. refl) (λ e j v x y h k. absurd (k7 e)) (λ e j x y h. absurd (k8 e)) (λ e j v x h. refl)

-- ---- two lists of one number
-- the first rule is the same
same_rule : (x : Rule) (a b : List Rule) → first_of a ≡ first_of b → first_of (x ∷ a) ≡ first_of (x ∷ b)
unfolding first_of
same_rule x a b e = ap (cond x.test x.number) e

-- the first test is equal
same_test : (t u : Bool) (k : ℕ) (a : List Rule) → t ≡ u → first_of (t ⇒ k ∷ a) ≡ first_of (u ⇒ k ∷ a)
same_test t u k a e = ap (λ (v : Bool). first_of (v ⇒ k ∷ a)) e

-- one test of two parts is two rules of one number
split_test : (p q : Bool) (k : ℕ) (a b : List Rule) → first_of a ≡ first_of b → first_of ((p || q) ⇒ k ∷ a) ≡ first_of (p ⇒ k ∷ q ⇒ k ∷ b)
unfolding first_of
split_test true q k a b e = refl
split_test false q k a b e = ap (cond q k) e

-- past 12 the block below is held, at its height
past_held : (a l : Bool) (h : ℕ) (b : List Rule) → first_of (not a ⇒ 12 ∷ (not (a && eqb h h) || l) ⇒ 13 ∷ b) ≡ first_of (not a ⇒ 12 ∷ l ⇒ 13 ∷ b)
unfolding first_of
past_held false l h b = refl
past_held true l h b = rw (eq-eqb h h refl)

module _ (W : Work) where
  -- ---- 13 of a proposal: only where the parent is the safe block does it matter where the block below is looked up
  placed : (x y base : List ℕ) (h : ℕ) → (not (same_bytes y base) || misplaced W (child W x y h)) ≡ (not (same_bytes y base) || misplaced_on (held_block W base) (child_of x y h))
  unfolding misplaced_on
  placed x y base h = go (same_bytes y base) refl
    where
      at : List ℕ → Bool
      at z = not ((held_block W z).is && eqb h (suc (held_block W z).block.height.0)) || ltb last_height h

      go : (t : Bool) → same_bytes y base ≡ t → (not t || at y) ≡ (not t || at base)
      go true e = ap at (same_eq y base e)
      go false e = refl

  -- ---- a record, with what is held
  abbrev pub late_of : Content → List Rule
  late_of k = let w = asked W.memory k in late_rules w (held_block W w.name) (held_block W w.base) k

  pub early_late_number : (r : List ℕ) (k : Content) → first_of (refusals W by_list r k) ≡ first_of (early_rules W r k ++ late_of k)
  unfolding refusals early_rules proposal_first proposal_rules voted_rules asked late_rules chain_rules same_found misplaced_on store_full
  early_late_number r (vote j v x) = refl
  early_late_number r (commit j v x) = refl
  early_late_number r (certificate j (by_block v x g)) = refl
  early_late_number r (certificate j (by_timeouts v ts)) = refl
  early_late_number r (timeout t) = refl
  early_late_number r (proposal j v x y h k) =
      same_rule _ _ _ (same_rule _ _ _ (same_rule _ _ _ (same_rule _ _ _ (same_rule _ _ _
      (split_test _ _ 11 _ _ (same_rule _ _ _ (same_test _ _ 13 _ (placed x y (safe_name W k) h))))))))
  early_late_number r (block j x y h) = rw (same_refl y)
  early_late_number r (release j v x h) = refl

  -- ---- propose, with what is held
  abbrev pub propose_late_of : List ℕ → List Rule
  propose_late_of x =
      let w = names W.memory x (safe_block W.memory (certificate_of (entry_of W.memory))) in late_propose w (held_block W w.name) (held_block W w.base)

  -- whatever follows 13
  early_first_number : (x : List ℕ) (tail : List Rule) → first_of (take 5 (propose_rules W by_list x) ++ tail)
      ≡ first_of (early_propose W x ++ (late_first (held_block W x) (held_block W (safe_block W.memory (certificate_of (entry_of W.memory)))) ++ tail))
  unfolding propose_rules early_propose late_first
  early_first_number x tail =
      let u = held_block W (safe_name W (certificate_of (entry_of W.memory))) in
      let h = suc u.block.height.0 in
      same_rule _ _ _ (same_rule _ _ _ (same_rule _ _ _ (past_held u.is (ltb last_height h) h _)))

  pub propose_first_number : (x : List ℕ) → first_of (take 5 (propose_rules W by_list x)) ≡ first_of (early_propose W x ++ late_first (held_block W x) (held_block W (safe_block W.memory (certificate_of (entry_of W.memory)))))
  unfolding propose_rules early_propose late_first
  propose_first_number x = early_first_number x []

  pub propose_early_late_number : (x : List ℕ) → first_of (propose_rules W by_list x) ≡ first_of (early_propose W x ++ propose_late_of x)
  unfolding propose_rules early_propose late_propose late_first store_full
  propose_early_late_number x = early_first_number x (drop 5 (propose_rules W by_list x))

  -- ---- no rule has the number of acceptance
  pub refusals-numbered : (r : List ℕ) (k : Content) → numbered (refusals W by_list r k) ≡ true
  unfolding refusals numbered
  refusals-numbered r (vote j v x) = refl
  refusals-numbered r (commit j v x) = refl
  refusals-numbered r (certificate j (by_block v x g)) = refl
  refusals-numbered r (certificate j (by_timeouts v ts)) = refl
  refusals-numbered r (timeout t) = refl
  refusals-numbered r (proposal j v x y h k) = refl
  refusals-numbered r (block j x y h) = refl
  refusals-numbered r (release j v x h) = refl

  pub early_numbered : (r : List ℕ) (k : Content) → numbered (early_rules W r k) ≡ true
  unfolding refusals early_rules proposal_first proposal_rules voted_rules numbered
  early_numbered r (vote j v x) = refl
  early_numbered r (commit j v x) = refl
  early_numbered r (certificate j (by_block v x g)) = refl
  early_numbered r (certificate j (by_timeouts v ts)) = refl
  early_numbered r (timeout t) = refl
  early_numbered r (proposal j v x y h k) = refl
  early_numbered r (block j x y h) = refl
  early_numbered r (release j v x h) = refl

  pub propose_numbered : (x : List ℕ) → (numbered (propose_rules W by_list x) ≡ true) × (numbered (early_propose W x) ≡ true)
  unfolding propose_rules early_propose numbered
  propose_numbered x = (refl, refl)

pub late_numbered : (w : Wanted) (found under : Found) (k : Content) → numbered (late_rules w found under k) ≡ true
unfolding late_rules chain_rules numbered
late_numbered w found under (vote j v x) = refl
late_numbered w found under (commit j v x) = refl
late_numbered w found under (certificate j k) = refl
late_numbered w found under (timeout t) = refl
late_numbered w found under (proposal j v x y h k) = refl
late_numbered w found under (block j x y h) = refl
late_numbered w found under (release j v x h) = refl

pub late_first-numbered : (found under : Found) → numbered (late_first found under) ≡ true
unfolding late_first numbered
late_first-numbered found under = refl

pub late_propose-numbered : (w : Wanted) (found under : Found) → numbered (late_propose w found under) ≡ true
unfolding late_propose late_first numbered
late_propose-numbered w found under = refl

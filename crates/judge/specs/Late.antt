-- The refusals that ask the store (01: Refusals, 10 to 14), with what was looked up: `found` under the block's name, `under` under the name of
-- the block below it. Assumes nothing.
use Rattle.std.specs.Prelude.{ℕ, suc, Bool, not, ◌&&◌, ◌||◌, List, [], ◌∷◌, ◌++◌, eqb, ltb, leb, take}
use Rattle.settings.specs.Answer.{Rule, ◌⇒◌}
use Rattle.settings.specs.Quorum.{last_height}
use Rattle.codec.specs.Names.{same_bytes}
use Rattle.wire.specs.declared.Child.{Child}
use Rattle.wire.specs.Content.{Content, vote, commit, certificate, timeout, proposal, block, release}
use Rattle.blocks.specs.Store.{Found, held}
use Rattle.protocol.specs.Work.{Work, tip}
use Rattle.protocol.specs.Refusals.{store_length}
use Rattle.refusals.specs.Number.{first_of}
use Rattle.judge.specs.Want.{Wanted}

abbrev pub child_of : List ℕ → List ℕ → ℕ → Child
child_of x y h = record { name = x; parent = y; height = record { 0 = h } }

-- found with that parent and height
unfoldable pub same_found : Found → Child → Bool
same_found found b = same_bytes b.parent found.block.parent && eqb b.height.0 found.block.height.0

-- "height not parent's plus 1, or over 2^62"
unfoldable pub misplaced_on : Found → Child → Bool
misplaced_on under b =
    not (under.is && eqb b.height.0 (suc under.block.height.0)) || ltb last_height b.height.0

-- "block new and store full"
unfoldable pub store_full : Wanted → Found → Bool
store_full w found = not found.is && leb store_length w.count

-- propose: 11 to 13; the height is the safe block's plus 1
unfoldable pub late_first : Found → Found → List Rule
late_first found under =
    found.is ⇒ 11
    ∷ not under.is ⇒ 12
    ∷ ltb last_height (suc under.block.height.0) ⇒ 13
    ∷ []

module _ (w : Wanted) (found under : Found) where
  -- kinds 7 and 8: 11 to 14
  unfoldable pub chain_rules : Child → List Rule
  chain_rules b =
      (found.is && not (same_found found b)) ⇒ 11
      ∷ not under.is ⇒ 12
      ∷ (not (same_bytes b.parent w.base) || misplaced_on under b) ⇒ 13
      ∷ store_full w found ⇒ 14
      ∷ []

  unfoldable pub late_rules : Content → List Rule
  late_rules (vote j v x) = []
  late_rules (commit j v x) = []
  late_rules (certificate j k) = []
  late_rules (timeout t) = []
  late_rules (proposal j v x y h k) = chain_rules (child_of x y h)
  late_rules (block j x y h) = (found.is && same_found found (child_of x y h)) ⇒ 10 ∷ chain_rules (child_of x y h)
  late_rules (release j v x h) = []

  -- propose: 11 to 14
  unfoldable pub late_propose : List Rule
  late_propose = late_first found under ++ (store_full w found ⇒ 14 ∷ [])

-- ---- with what the store holds: the first `count` entries, and the tip
module _ (W : Work) (w : Wanted) where
  abbrev pub looked_up : List ℕ → Found
  looked_up x = held (tip W) (take w.count W.store) x

  unfoldable pub record_late : Content → ℕ
  record_late k = first_of (late_rules w (looked_up w.name) (looked_up w.base) k)

  unfoldable pub propose_late : ℕ
  propose_late = first_of (late_propose w (looked_up w.name) (looked_up w.base))

-- When a replica refuses (01: Refusals, by place, in this order): for each kind of record, for the timer and for propose, the list of rules.
-- 3, 4 and 5 of a record are `shape_rules` of `wire`. Who leads a view is left open: `lead` is 01's rule, or the list of 02, 2.1. Assumes nothing.
use Rattle.std.specs.Prelude.{ℕ, suc, ◌+◌, ◌*◌, Bool, true, cond, not, ◌&&◌, ◌||◌, List, [], ◌∷◌, eqb, ltb, leb, length}
use Rattle.settings.specs.Answer.{Rule, ◌⇒◌}
use Rattle.settings.specs.Quorum.{largest, last_view, last_height}
use Rattle.settings.specs.Opening.{most_leaders}
use Rattle.codec.specs.Names.{name_length, same_bytes, zero_name}
use Rattle.wire.specs.Fields.{kind_of, count_of, block_certificate_length, timeouts_head, timeout_length}
use Rattle.wire.specs.Content.{Certificate, by_block, by_timeouts, certificate_of, Content, vote, commit, certificate, timeout, proposal, block, release}
use Rattle.certificate.specs.Rank.{block_certificate, outranks}
use Rattle.certificate.specs.Good.{is_good, timeout_good, progress_good}
use Rattle.certificate.specs.Safe.{safe_certificate}
use Rattle.blocks.specs.declared.Block.{Block}
use Rattle.memory.specs.Layout.{memory_length, vote_row, commit_row, timeout_row, block_count_of, leader_count_of, entry_of}
use Rattle.memory.specs.Kept.{has, kept}
use Rattle.memory.specs.Window.{lowest}
use Rattle.memory.specs.Leaders.{Leading}
use Rattle.counters.specs.Counters.{locks_of}
use Rattle.protocol.specs.Work.{Work, settings, n, own, view_now, timed, high_vote_view, held_block}

-- "it holds 128 beside the tip"; "The output region has 32,768 bytes"
abbrev pub store_length : ℕ
store_length = 128

abbrev pub output_length : ℕ
output_length = 32768

-- the view of a progress certificate
abbrev pub view_of_progress : Certificate → ℕ
view_of_progress (by_block v x g) = v
view_of_progress (by_timeouts v ts) = v

-- ---- 2, "regions": lengths, and what docs/INTERFACE.md lists of memory and counters
module _ (W : Work) where
  -- the entry certificate is a record of kind 3, or of kind 6 with at most n timeouts, and has its length
  abbrev pub entry_regular : Bool
  entry_regular =
      let r = entry_of W.memory in
      cond (eqb (kind_of r) 3) (eqb (length r) block_certificate_length)
      (eqb (kind_of r) 6 && (leb (count_of r) (n W) && eqb (length r) (timeouts_head + timeout_length * count_of r)))

  unfoldable pub regular : Bool
  regular =
      leb (n W) largest && (ltb (own W) (n W)
      && (leb 1 (view_now W) && (leb (view_now W) last_view
      && (leb (block_count_of W.memory) store_length && (entry_regular
      && (leb 1 (leader_count_of W.memory) && leb (leader_count_of W.memory) most_leaders))))))

  unfoldable pub region_rules : ℕ → List Rule
  region_rules room =
      ltb (length W.memory) memory_length ⇒ 2
      ∷ ltb (length W.store) store_length ⇒ 2
      ∷ ltb room output_length ⇒ 2
      ∷ not regular ⇒ 2
      ∷ []

  -- ---- 6, "party"
  abbrev pub not_other : ℕ → Bool
  not_other j = leb (n W) j || eqb j (own W)

  -- ---- 7 and 8, "view"
  abbrev pub below_view : ℕ → Bool
  below_view v = ltb v (view_now W) || eqb v 0

  abbrev pub above_window : ℕ → Bool
  above_window v = ltb (view_now W + 3) v || leb last_view v

  -- ---- 10 and 11, "before"
  abbrev pub same_child : Block → Block → Bool
  same_child a b = same_bytes a.parent b.parent && eqb a.height.0 b.height.0

  -- held with that parent and height, and held with another
  abbrev pub held_same : Block → Bool
  held_same b = (held_block W b.name).is && same_child b (held_block W b.name).block

  abbrev pub held_other : Block → Bool
  held_other b = (held_block W b.name).is && not (same_child b (held_block W b.name).block)

  -- ---- 12 to 14, "chain"
  abbrev pub is_held : List ℕ → Bool
  is_held x = (held_block W x).is

  -- "height not parent's plus 1, or over 2^62"
  abbrev pub misplaced : Block → Bool
  misplaced b =
      not (is_held b.parent && eqb b.height.0 (suc (held_block W b.parent).block.height.0))
      || ltb last_height b.height.0

  -- "block new and store full"
  abbrev pub no_room : List ℕ → Bool
  no_room x = not (is_held x) && leb store_length (block_count_of W.memory)

  abbrev pub safe_name : Certificate → List ℕ
  safe_name k = (safe_certificate (settings W) k).name

  abbrev pub child : List ℕ → List ℕ → ℕ → Block
  child x y h = record { name = x; parent = y; height = record { 0 = h } }

  -- ---- THE TABLE, from 6 on, for a record r that passed the place "shape"
  unfoldable pub refusals : Leading → List ℕ → Content → List Rule
  refusals lead r (vote j v x) =
      not_other j ⇒ 6
      ∷ ltb v (lowest (view_now W)) ⇒ 7
      ∷ above_window v ⇒ 8
      ∷ (has W.memory (vote_row v) j && same_bytes (kept W.memory (vote_row v) name_length j) x) ⇒ 10
      ∷ has W.memory (vote_row v) j ⇒ 11
      ∷ []
  refusals lead r (commit j v x) =
      not_other j ⇒ 6
      ∷ ltb v (lowest (view_now W)) ⇒ 7
      ∷ above_window v ⇒ 8
      ∷ (has W.memory (commit_row v) j && same_bytes (kept W.memory (commit_row v) name_length j) x) ⇒ 10
      ∷ has W.memory (commit_row v) j ⇒ 11
      ∷ []
  refusals lead r (certificate j (by_block v x g)) =
      leb (n W) j ⇒ 6
      ∷ leb last_view v ⇒ 8
      ∷ not (is_good (settings W) (block_certificate v x g)) ⇒ 9
      ∷ not (outranks (block_certificate v x g) (locks_of W.counters).lock) ⇒ 10
      ∷ []
  refusals lead r (certificate j (by_timeouts v ts)) =
      leb (n W) j ⇒ 6
      ∷ below_view v ⇒ 7
      ∷ leb last_view v ⇒ 8
      ∷ not (progress_good (settings W) (by_timeouts v ts)) ⇒ 9
      ∷ []
  refusals lead r (timeout t) =
      not_other t.sender ⇒ 6
      ∷ below_view t.view.0 ⇒ 7
      ∷ above_window t.view.0 ⇒ 8
      ∷ not (timeout_good (settings W) t) ⇒ 9
      ∷ (has W.memory (timeout_row t.view.0) t.sender && same_bytes (kept W.memory (timeout_row t.view.0) timeout_length t.sender) r) ⇒ 10
      ∷ has W.memory (timeout_row t.view.0) t.sender ⇒ 11
      ∷ []
  refusals lead r (proposal j v x y h k) =
      (not_other j || (ltb 0 v && not (eqb j (lead W.memory v)))) ⇒ 6
      ∷ below_view v ⇒ 7
      ∷ leb last_view v ⇒ 8
      ∷ (not (progress_good (settings W) k && eqb (suc (view_of_progress k)) v)) ⇒ 9
      ∷ (eqb (high_vote_view W) v && same_bytes W.counters.high.name x) ⇒ 10
      ∷ (eqb (high_vote_view W) v || held_other (child x y h)) ⇒ 11
      ∷ not (is_held (safe_name k)) ⇒ 12
      ∷ (not (same_bytes y (safe_name k)) || misplaced (child x y h)) ⇒ 13
      ∷ no_room x ⇒ 14
      ∷ []
  refusals lead r (block j x y h) =
      leb (n W) j ⇒ 6
      ∷ held_same (child x y h) ⇒ 10
      ∷ held_other (child x y h) ⇒ 11
      ∷ not (is_held y) ⇒ 12
      ∷ misplaced (child x y h) ⇒ 13
      ∷ no_room x ⇒ 14
      ∷ []
  refusals lead r (release j v x h) = true ⇒ 4 ∷ []

  -- the timer
  unfoldable pub timer_rules : ℕ → List Rule
  timer_rules v =
      below_view v ⇒ 7
      ∷ (ltb (view_now W) v || leb last_view v) ⇒ 8
      ∷ leb (view_now W) (timed W) ⇒ 10
      ∷ []

  -- propose: the block that a name would be, on the safe block of the entry certificate
  abbrev pub next_block : List ℕ → Block
  next_block x =
      let y = safe_name (certificate_of (entry_of W.memory)) in
      child x y (suc (held_block W y).block.height.0)

  unfoldable pub propose_rules : Leading → List ℕ → List Rule
  propose_rules lead x =
      (not (eqb (lead W.memory (view_now W)) (own W)) || (leb (view_now W) (timed W) || (eqb (high_vote_view W) (view_now W) || leb last_view (view_now W)))) ⇒ 15
      ∷ same_bytes x zero_name ⇒ 5
      ∷ is_held x ⇒ 11
      ∷ not (is_held (next_block x).parent) ⇒ 12
      ∷ misplaced (next_block x) ⇒ 13
      ∷ no_room x ⇒ 14
      ∷ []

-- The rules A to D after the event (01: The box), each at one view, and their run in phases. Assumes nothing.
use Rattle.std.specs.Prelude.{ℕ, zero, suc, ◌+◌, ◌-◌, Bool, cond, ◌&&◌, List, ltb, leb, length}
use Rattle.settings.specs.Quorum.{block_quorum, timeout_quorum, slow_quorum, fast_quorum}
use Rattle.wire.specs.Encode.{block_certificate_bytes}
use Rattle.certificate.specs.Rank.{block_certificate, outranks}
use Rattle.blocks.specs.Store.{descends}
use Rattle.memory.specs.declared.decided.Quorums.{Quorums}
use Rattle.memory.specs.Layout.{vote_row, timeout_row}
use Rattle.memory.specs.Kept.{kept_count, tally}
use Rattle.memory.specs.Window.{lowest, highest}
use Rattle.memory.specs.Decided.{Choice, no_choice, next_decided}
use Rattle.memory.specs.Formed.{formed}
use Rattle.counters.specs.Counters.{locks_of}
use Rattle.protocol.specs.Work.{Work, view, settings, n, own, view_now, timed, tip, blocks, held_block, send_timeout, release}
use Rattle.protocol.specs.Events.{progress}

module _ (v : ℕ) (W : Work) where
  -- "A, f+1 timeouts of a view w ≥ view with timed < w: send one for w and set timed to w."
  abbrev pub test_a : Bool
  test_a = leb (view_now W) v && (ltb (timed W) v && leb (suc (settings W).f) (kept_count W.memory (timeout_row v) (n W)))

  unfoldable pub rule_a : Work
  rule_a = cond test_a (send_timeout v W) W

  -- "B, enough timeouts of a view ≥ view: form the certificate of all that are kept for it."
  abbrev pub test_b : Bool
  test_b = leb (view_now W) v && leb (timeout_quorum (settings W)) (kept_count W.memory (timeout_row v) (n W))

  unfoldable pub rule_b : Work
  rule_b = cond test_b (progress (formed W.memory v (n W) (own W)) W) W

  -- "C, enough votes whose certificate outranks the lock: form it, its signers all boxes with that kept vote."
  abbrev pub enough_votes : Quorums
  enough_votes = record { view = view v; n = n W; votes = block_quorum (settings W); commits = suc (n W) }

  abbrev pub formed_block : List ℕ → List ℕ
  formed_block x = block_certificate_bytes (own W) v x (tally W.memory (vote_row v) x (n W)).signers

  unfoldable pub rule_c : Work
  rule_c =
      let x = next_decided W.memory enough_votes no_choice in
      cond (x.some && outranks (block_certificate v x.name 0) (locks_of W.counters).lock)
      (progress (formed_block x.name) W) W

  -- "D, a fast or slow release of a held block above the tip"
  abbrev pub enough_to_release : Quorums
  enough_to_release = record { view = view v; n = n W; votes = fast_quorum (settings W); commits = slow_quorum (settings W) }

  -- the least decided name of the view whose block is held and leads to the tip: at most k names are tried
  unfoldable pub releasable : ℕ → Choice → Choice
  releasable zero after = no_choice
  releasable (suc k) after =
      let x = next_decided W.memory enough_to_release after in
      let b = held_block W x.name in
      let later = releasable k x in
      cond x.some (cond (b.is && descends (tip W) (blocks W) b.block) x later) no_choice

-- a view has at most n kept votes and n kept commits, and so no more names than that
abbrev pub tries : Work → ℕ
tries W = n W + n W + 1

-- the lowest view from v on, of k views, in which a block can be released
pub record Pair : Type 0 where
  pub at : ℕ
  pub name : Choice

unfoldable pub lowest_pair : ℕ → ℕ → Work → Pair
lowest_pair v zero W = record { at = v; name = no_choice }
lowest_pair v (suc k) W =
    let x = releasable v W (tries W) no_choice in
    let later = lowest_pair (suc v) k W in
    cond x.some (record { at = v; name = x }) later

-- the views whose votes and commits are kept, and the views whose timeouts are kept
abbrev pub ballot_views : Work → ℕ
ballot_views W = suc (highest (view_now W)) - lowest (view_now W)

abbrev pub timeout_views : Work → ℕ
timeout_views W = suc (highest (view_now W)) - view_now W

-- one release, if there is one; after a release from the lowest pair again
unfoldable pub rule_d : Work → Work
rule_d W =
    let p = lowest_pair (lowest (view_now W)) (ballot_views W) W in
    cond p.name.some (release p.at (held_block W p.name.name).block W) W

-- a rule at k views, from v on
unfoldable pub each : (ℕ → Work → Work) → ℕ → ℕ → Work → Work
each rule v zero W = W
each rule v (suc k) W = each rule (suc v) k (rule v W)

unfoldable pub again : ℕ → Work → Work
again zero W = W
again (suc k) W = again k (rule_d W)

-- "After the event the first rule that applies is run, again and again": all A, then all B, then all C, views ascending, then D until none applies. Each
-- release takes a block out of the store, so as many turns as there are blocks are enough
unfoldable pub settle : Work → Work
settle W =
    let A = each rule_a (view_now W) (timeout_views W) W in
    let B = each rule_b (view_now A) (timeout_views A) A in
    let C = each rule_c (lowest (view_now B)) (ballot_views B) B in
    again (length (blocks C)) C

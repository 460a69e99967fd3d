-- The rules A to D as 01 states them, one turn of their loop, and the loop's end (01: The box: "After the event the first rule that applies is run, again
-- and again"). `Rules` runs them in phases; that this is the same loop is proved in ../proofs/loop/Loop.antt. Assumes nothing.
use Rattle.std.specs.Prelude.{ℕ, suc, ◌≤◌, ◌<◌, ◌≡◌, true, ◌⊎◌, List}
use Rattle.settings.specs.Quorum.{block_quorum, timeout_quorum, slow_quorum, fast_quorum}
use Rattle.codec.specs.Names.{less_bytes}
use Rattle.wire.specs.Encode.{block_certificate_bytes}
use Rattle.certificate.specs.Rank.{block_certificate, outranks}
use Rattle.blocks.specs.Store.{descends}
use Rattle.memory.specs.Layout.{vote_row, commit_row, timeout_row}
use Rattle.memory.specs.Kept.{kept_count, tally}
use Rattle.memory.specs.Window.{in_ballot_window, in_timeout_window}
use Rattle.memory.specs.Formed.{formed}
use Rattle.counters.specs.Counters.{locks_of}
use Rattle.protocol.specs.Work.{Work, settings, n, own, view_now, timed, tip, blocks, held_block, send_timeout, release}
use Rattle.protocol.specs.Events.{progress}

-- ---- what is kept, of a view w whose row stands in the window
module _ (w : ℕ) (W : Work) where
  abbrev pub timeouts_kept : ℕ
  timeouts_kept = kept_count W.memory (timeout_row w) (n W)

  abbrev pub votes_for : List ℕ → ℕ
  votes_for x = (tally W.memory (vote_row w) x (n W)).count

  abbrev pub commits_for : List ℕ → ℕ
  commits_for x = (tally W.memory (commit_row w) x (n W)).count

  -- "its signers all boxes with that kept vote"
  abbrev pub signers_for : List ℕ → ℕ
  signers_for x = (tally W.memory (vote_row w) x (n W)).signers

-- ---- when a rule applies
-- "A, f+1 timeouts of a view w ≥ view with timed < w"
pub record AppliesA (w : ℕ) (W : Work) : Type 0 where
  pub window : in_timeout_window (view_now W) w ≡ true
  pub untimed : timed W < w
  pub enough : suc (settings W).f ≤ timeouts_kept w W

-- "B, enough timeouts of a view ≥ view"
pub record AppliesB (w : ℕ) (W : Work) : Type 0 where
  pub window : in_timeout_window (view_now W) w ≡ true
  pub enough : timeout_quorum (settings W) ≤ timeouts_kept w W

-- "C, enough votes whose certificate outranks the lock"
pub record AppliesC (w : ℕ) (x : List ℕ) (W : Work) : Type 0 where
  pub window : in_ballot_window (view_now W) w ≡ true
  pub enough : block_quorum (settings W) ≤ votes_for w W x
  pub higher : outranks (block_certificate w x (signers_for w W x)) (locks_of W.counters).lock ≡ true

-- "D, a fast or slow release of a held block above the tip: the box walks from parent to parent down to the released tip". On stores that opening and
-- calls left that walk always ends at the tip
pub record AppliesD (w : ℕ) (x : List ℕ) (W : Work) : Type 0 where
  pub window : in_ballot_window (view_now W) w ≡ true
  pub enough : (fast_quorum (settings W) ≤ votes_for w W x) ⊎ (slow_quorum (settings W) ≤ commits_for w W x)
  pub is_held : (held_block W x).is ≡ true
  pub above_tip : (tip W).height.0 < (held_block W x).block.height.0
  pub leads_down : descends (tip W) (blocks W) (held_block W x).block ≡ true

-- ---- what it does
-- "send one for w and set timed to w"
abbrev pub run_a : ℕ → Work → Work
run_a w W = send_timeout w W

-- "form the certificate of all that are kept for it"; "A formed certificate does what an accepted one does"
abbrev pub run_b : ℕ → Work → Work
run_b w W = progress (formed W.memory w (n W) (own W)) W

-- "form it, its signers all boxes with that kept vote"
abbrev pub run_c : ℕ → List ℕ → Work → Work
run_c w x W = progress (block_certificate_bytes (own W) w x (signers_for w W x)) W

-- "writes the releases upward with the view of the deciding votes or commits, moves the tip, and drops every block that doesn't descend from it"
abbrev pub run_d : ℕ → List ℕ → Work → Work
run_d w x W = release w (held_block W x).block W

-- ---- nowhere
abbrev pub NoA : Work → Type 0
NoA W = (w : ℕ) → AppliesA w W → ⊥

abbrev pub NoB : Work → Type 0
NoB W = (w : ℕ) → AppliesB w W → ⊥

abbrev pub NoC : Work → Type 0
NoC W = (w : ℕ) (x : List ℕ) → AppliesC w x W → ⊥

abbrev pub NoD : Work → Type 0
NoD W = (w : ℕ) (x : List ℕ) → AppliesD w x W → ⊥

-- no rule applies
pub record Done (W : Work) : Type 0 where
  pub no_a : NoA W
  pub no_b : NoB W
  pub no_c : NoC W
  pub no_d : NoD W

-- ---- "Lowest view first, then smaller name."
pub record Lowest (P : ℕ → Type 0) (w : ℕ) : Type 0 where
  pub here : P w
  pub no_lower : (v : ℕ) → v < w → P v → ⊥

pub record First (P : ℕ → List ℕ → Type 0) (w : ℕ) (x : List ℕ) : Type 0 where
  pub here : P w x
  pub no_lower : (v : ℕ) (y : List ℕ) → v < w → P v y → ⊥
  pub no_smaller : (y : List ℕ) → less_bytes y x ≡ true → P w y → ⊥

-- ---- ONE TURN: "the first rule that applies is run"
pub data Turn (W : Work) : Work → Type 0 where
  by_a : (w : ℕ) → Lowest (λ v. AppliesA v W) w → Turn W (run_a w W)
  by_b : (w : ℕ) → NoA W → Lowest (λ v. AppliesB v W) w → Turn W (run_b w W)
  by_c : (w : ℕ) (x : List ℕ) → NoA W → NoB W → First (λ v y. AppliesC v y W) w x → Turn W (run_c w x W)
  by_d : (w : ℕ) (x : List ℕ) → NoA W → NoB W → NoC W → First (λ v y. AppliesD v y W) w x → Turn W (run_d w x W)

-- "again and again": any number of turns
pub data Turns : Work → Work → Type 0 where
  rest : {W : Work} → Turns W W
  turn : {W W₁ W₂ : Work} → Turn W W₁ → Turns W₁ W₂ → Turns W W₂

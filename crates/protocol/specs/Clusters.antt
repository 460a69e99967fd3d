-- WHICH SETTINGS OPEN (01: Settings and thresholds; Refusals, place "opening"; 02: 2.2): what an opening answers to any f, c, k and n. That both statements
-- hold is proofs/call/Clusters.antt. Assumes nothing.
use Rattle.std.specs.Prelude.{ℕ, ◌+◌, ◌*◌, ◌≤◌, ◌<◌, ◌≡◌, false, List, length}
use Rattle.settings.specs.Answer.{accepts, refuses}
use Rattle.settings.specs.Opening.{bad_leaders}
use Rattle.memory.specs.Layout.{memory_length}
use Rattle.protocol.specs.Refusals.{store_length}
use Rattle.protocol.specs.Calls.{Replica, opening_call}

-- "A ring has n = 3f + 2c + k + 1 boxes", and 02: "every k ≥ 0 is taken as long as n is at most 32": nothing else is asked of the four
pub record Cluster (f c k n : ℕ) : Type 0 where
  pub count : n ≡ 3 * f + 2 * c + k + 1
  pub most : n ≤ 32

-- by an own number of the cluster, a list that is taken and regions that are long enough; nothing is written
abbrev pub EveryClusterOpens : Type 0
EveryClusterOpens =
    (r : Replica) (f c k n own : ℕ) (leaders : List ℕ) → Cluster f c k n → own < n → bad_leaders n leaders ≡ false → memory_length ≤ length r.memory → store_length ≤ length r.store
    → (opening_call r f c k n own leaders).reply ≡ accepts 0

-- by any own number and list, over any regions
abbrev pub NothingElseOpens : Type 0
NothingElseOpens = (r : Replica) (f c k n own : ℕ) (leaders : List ℕ) → (Cluster f c k n → ⊥) → (opening_call r f c k n own leaders).reply ≡ refuses 1

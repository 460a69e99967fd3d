-- THE CLUSTER OF ONE (02, 2.2: "a ring of one box included"): (f, c, k) = (0, 0, 0), every quorum is 1, and its replica decides alone. What the first propose and
-- the first timer after an opening answer and write, for any name, any list that is taken and any regions that are long enough; and demand 3's premises, which that
-- propose by itself meets. That all hold is proofs/example/ClusterOfOne.antt. Assumes nothing.
use Rattle.std.specs.Prelude.{ℕ, ◌≤◌, ◌≡◌, Bool, false, List, [], ◌∷◌, eqb, length}
use Rattle.settings.specs.declared.Settings.{Settings}
use Rattle.settings.specs.Answer.{accepts}
use Rattle.settings.specs.Opening.{bad_leaders}
use Rattle.codec.specs.Bytes.{IsBytes}
use Rattle.codec.specs.Names.{zero_name}
use Rattle.digest.specs.Name.{name_of, longest_contents}
use Rattle.wire.specs.declared.Timeout.{Timeout}
use Rattle.wire.specs.Encode.{vote_bytes, block_certificate_bytes, timeout_bytes, timeouts_bytes, proposal_bytes, release_bytes, joined}
use Rattle.wire.specs.Fit.{IsName, All}
use Rattle.memory.specs.Layout.{memory_length}
use Rattle.memory.specs.Leaders.{by_list}
use Rattle.protocol.specs.Typed.{CountersTyped, BlockTyped}
use Rattle.protocol.specs.Refusals.{store_length, output_length}
use Rattle.protocol.specs.Contents.{Contents, none, given}
use Rattle.protocol.specs.Calls.{Replica, Outcome, opening_call, timer_call, propose_call}
use Rattle.protocol.specs.OneCall.{propose, left}
use Rattle.protocol.specs.OneChain.{Entry, calls, written, Premises, OnePlacement, OneDigest, row_of}

abbrev pub one : Settings
one = record { f = 0; c = 0; k = 0 }

-- regions that are long enough, of any content, and a list that is taken
pub record Alone (lent : Replica) (leaders : List ℕ) : Type 0 where
  pub memory : IsBytes lent.memory
  pub store : All BlockTyped lent.store
  pub long : memory_length ≤ length lent.memory
  pub many : store_length ≤ length lent.store
  pub listed : bad_leaders 1 leaders ≡ false

-- what the opening with (0, 0, 0), n 1, own 0 leaves
abbrev pub opened_alone : Replica → List ℕ → Replica
opened_alone lent leaders = left (opening_call lent 0 0 0 1 0 leaders)

-- ---- propose: the proposal on genesis, the own vote, the block certificate of that vote, the commit, the release: kinds 7, 1, 3, 2, 9
abbrev pub decided : List ℕ → List (List ℕ)
decided x =
    proposal_bytes 0 1 x zero_name 1 (block_certificate_bytes 0 0 zero_name 0)
    ∷ vote_bytes 1 0 1 x
    ∷ block_certificate_bytes 0 1 x 1
    ∷ vote_bytes 2 0 1 x
    ∷ release_bytes 0 1 x 1
    ∷ []

pub record Decides (x : List ℕ) (o : Outcome) : Type 0 where
  pub reply : o.reply ≡ accepts 352
  pub writes : written o ≡ joined (decided x)
  pub view : o.counters.view.0 ≡ 2
  pub tip : o.counters.tip.name ≡ x
  pub height : o.counters.tip.height.0 ≡ 1

abbrev pub ProposeDecides : Type 0
ProposeDecides =
    (lent : Replica) (leaders output x : List ℕ) → Alone lent leaders → output_length ≤ length output → IsName x → (x ≡ zero_name → ⊥)
    → Decides x (propose_call by_list (opened_alone lent leaders) output x)

-- ---- timer: the own timeout, without a vote and with the genesis certificate, and the timeout certificate of it alone: kinds 5, 6
abbrev pub own_timeout : Timeout
own_timeout =
    record {
      sender = 0;
      view = record { 0 = 1 };
      high = record { view = record { 0 = 0 }; name = zero_name };
      carried = record { kind = 3; view = record { 0 = 0 }; name = zero_name; signers = 0 };
    }

abbrev pub timed_out_records : List (List ℕ)
timed_out_records = timeout_bytes own_timeout ∷ timeouts_bytes 0 1 (timeout_bytes own_timeout) ∷ []

pub record Enters (o : Outcome) : Type 0 where
  pub reply : o.reply ≡ accepts 248
  pub writes : written o ≡ joined timed_out_records
  pub view : o.counters.view.0 ≡ 2
  pub timed : o.counters.timed.0 ≡ 1

abbrev pub TimerEnters : Type 0
TimerEnters = (lent : Replica) (leaders output : List ℕ) → Alone lent leaders → output_length ≤ length output → Enters (timer_call (opened_alone lent leaders) output 1)

-- ---- demand 3: a run of that propose alone, without contents, or with contents whose digest the name is. Its one replica is honest, since f is 0; the premises are
-- met, with contents that on names in 02's form too, and its row is the block
abbrev pub itself : ℕ → Bool
itself i = eqb i 0

abbrev pub proposes : List ℕ → List ℕ → Contents → List (ℕ × Entry)
proposes output x c = (0, record { output = output; step = calls (propose x c) }) ∷ []

pub record Releases (lent : Replica) (leaders output x : List ℕ) (c : Contents) : Type 0 where
  pub premises : Premises one itself (λ i. opened_alone lent leaders) (proposes output x c) leaders
  pub names : OnePlacement one itself (λ i. opened_alone lent leaders) (proposes output x c)
  pub row : row_of one itself (λ i. opened_alone lent leaders) (proposes output x c) 0 ≡ (x, 1) ∷ []

abbrev pub RunReleases : Type 0
RunReleases =
    (lent : Replica) (leaders output x : List ℕ) → Alone lent leaders → CountersTyped lent.counters → output_length ≤ length output → IsName x → (x ≡ zero_name → ⊥)
    → Releases lent leaders output x none

abbrev pub CheckedReleases : Type 0
CheckedReleases =
    (lent : Replica) (leaders output s : List ℕ) → let x = name_of zero_name 1 s in
    Alone lent leaders → CountersTyped lent.counters → output_length ≤ length output → length s ≤ longest_contents → (x ≡ zero_name → ⊥)
    → Releases lent leaders output x (given s) × OneDigest one itself (λ i. opened_alone lent leaders) (proposes output x (given s))

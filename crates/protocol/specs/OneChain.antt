-- DEMAND 3 (01: A run of the ring; 02: 2.1, 2.2, 2.5): the run, the premises and the claim, each under the sentence of 01 or 02 that it states. No proof is here: it is
-- proofs/chain/Demand3.antt and Checked.antt. It speaks of `record_call_with`, `timer_call`, `propose_call_with` and `opening_call` of Calls.antt, with which the contracts of the calls in code, `replica::hydrangea_*`,
-- are equations (without contents these are `record_call` and `propose_call`: AsBefore.antt): so what is shown here of these definitions holds of the code. Outside lie the host (docs/INTERFACE.md lists its duties, which are the premises), the signatures and the compiler's back end. Assumes nothing.
use Rattle.std.specs.Prelude.{ℕ, zero, suc, ◌+◌, ◌≤◌, ◌<◌, Bool, true, false, cond, List, [], ◌∷◌, ◌++◌, ◌≡◌, T, length, take, drop}
use Rattle.settings.specs.declared.Settings.{Settings}
use Rattle.settings.specs.Answer.{Answer, accepts, refuses}
use Rattle.settings.specs.Quorum.{replicas}
use Rattle.codec.specs.Bytes.{IsBytes}
use Rattle.codec.specs.Names.{zero_name}
use Rattle.digest.specs.Name.{name_of}
use Rattle.wire.specs.Fields.{length_of, progress_of, slots}
use Rattle.wire.specs.Encode.{vote_bytes}
use Rattle.wire.specs.Content.{Certificate, by_block, by_timeouts, timeout_of, Content, vote, commit, certificate, timeout, proposal, block, release, content}
use Rattle.wire.specs.Fit.{All}
use Rattle.certificate.specs.Safe.{signs}
use Rattle.blocks.specs.declared.Block.{Block}
use Rattle.memory.specs.Leaders.{by_list}
use Rattle.safety.specs.Lists.{In}
use Rattle.safety.specs.Count.{count}
use Rattle.safety.specs.Rows.{Begins, Linked}
use Rattle.safety.specs.Run.{Machine, Read, is_vote, is_commit, is_timeout, is_release, is_other, AllAllowed, Earlier, gathered, placements, row}
use Rattle.safety.specs.Certificates as Seen
use Rattle.protocol.specs.Work.{Work, n}
use Rattle.protocol.specs.Typed.{CountersTyped, BlockTyped}
use Rattle.protocol.specs.Refusals.{next_block}
use Rattle.protocol.specs.Contents.{Contents, none, given}
use Rattle.protocol.specs.Calls.{Replica, begin, opening_core, Outcome, opening_call}
use Rattle.protocol.specs.OneCall.{Call, receive, timer, propose, CallTyped, call_on, left}

-- ---- THE RUN
-- "a call on that box: record (any bytes), timer (any view), propose (any name), or an opening that is refused" (the refusal is a premise below). 02, 2.5: a record and a
-- propose with any contents, or with none
pub data Step : Type 0 where
  calls : Call → Step
  -- f, c, k, n, own number, leader list
  reopens : ℕ → ℕ → ℕ → ℕ → ℕ → List ℕ → Step

-- "Each entry names an honest box, an output region of any length and a call on that box": the region and the call; an entry is the box's number with them
pub record Entry : Type 0 where
  pub output : List ℕ
  pub step : Step

-- what the call leaves, on a replica's counters, memory and store. "A box's first entry gets the memory and store that its opening left, each later
-- one what that box's entry before left": `left` of it
unfoldable pub outcome_of : Replica → Entry → Outcome
outcome_of r e = elim e.step [ calls c ↦ call_on by_list r e.output c | reopens f c k m own leaders ↦ opening_call r f c k m own leaders ]

abbrev pub accepted : {A : Type 0} → Answer A → Bool
accepted (accepts a) = true
accepted (refuses a) = false

-- "Answer 0 is acceptance, returned with the number of bytes written": what an accepted call wrote; a refused one wrote nothing
unfoldable pub written : Outcome → List ℕ
written o = elim o.reply [ accepts k ↦ take k o.output | refuses a ↦ [] ]

-- the records that stand in the bytes one after another, each as long as its length field says; the number bounds how many are cut off
unfoldable pub cut_records : ℕ → List ℕ → List (List ℕ)
cut_records zero s = []
cut_records (suc k) [] = []
cut_records (suc k) (x ∷ s) = take (length_of (x ∷ s)) (x ∷ s) ∷ cut_records k (drop (length_of (x ∷ s)) (x ∷ s))

-- "A box makes a record when one of its accepted calls writes it to the output."
unfoldable pub makes : Replica → Entry → List (List ℕ)
makes r e = let s = written (outcome_of r e) in cut_records (length s) s

-- ---- WHAT AN ACCEPTED RECORD SAYS OF OTHERS: who is to have made which record
-- "each honest signer in it, weak certificates included, earlier made the vote (kind 1) for that certificate's view and name": the signers below n
abbrev pub votes_of : ℕ → ℕ → ℕ → List ℕ → List (ℕ × List ℕ)
votes_of zero signers v x = []
votes_of (suc i) signers v x = cond (signs signers i) ((i, vote_bytes 1 i v x) ∷ votes_of i signers v x) (votes_of i signers v x)

-- a timeout, and the signers of the certificate that it carries
abbrev pub timeout_says : ℕ → List ℕ → List (ℕ × List ℕ)
timeout_says n r = let t = timeout_of r in (t.sender, r) ∷ votes_of n t.carried.signers t.carried.view.0 t.carried.name

-- "so too each timeout inside it with an honest sender"
abbrev pub timeouts_say : ℕ → List (List ℕ) → List (ℕ × List ℕ)
timeouts_say n [] = []
timeouts_say n (r ∷ l) = timeout_says n r ++ timeouts_say n l

-- a record of kind 3 or 6, and what it reads as
abbrev pub certificate_says : ℕ → List ℕ → Certificate → List (ℕ × List ℕ)
certificate_says n r (by_block v x g) = votes_of n g v x
certificate_says n r (by_timeouts v ts) = timeouts_say n (slots r)

-- "if it is kind 1, 2, 5 or 7 with an honest sender, that box made it earlier in the list"; "All else is free: the sender of kinds 3, 6 and 8"
abbrev pub record_says : ℕ → List ℕ → Content → List (ℕ × List ℕ)
record_says n r (vote j v x) = (j, r) ∷ []
record_says n r (commit j v x) = (j, r) ∷ []
record_says n r (certificate j k) = certificate_says n r k
record_says n r (timeout t) = timeout_says n r
record_says n r (proposal j v x y h k) = (j, r) ∷ certificate_says n (progress_of r) k
record_says n r (block j x y h) = []
record_says n r (release j v x h) = []

abbrev pub step_says : ℕ → Step → List (ℕ × List ℕ)
step_says n (calls (receive b c)) = record_says n b (content b)
step_says n (calls (timer v)) = []
step_says n (calls (propose x c)) = []
step_says n (reopens f c k m own leaders) = []

-- a call is asked what it says only where it is accepted
unfoldable pub says : Replica → Entry → List (ℕ × List ℕ)
says r e = step_says (n (begin r)) e.step

-- ---- PLACEMENTS: "A name's parent and height are those given by an accepted kind 7 or 8, or by a kind 7 that an honest box made"
pub record Placement : Type 0 where
  pub name : List ℕ
  pub parent : List ℕ
  pub height : ℕ

abbrev pub record_gives : Content → List Placement
record_gives (vote j v x) = []
record_gives (commit j v x) = []
record_gives (certificate j k) = []
record_gives (timeout t) = []
record_gives (proposal j v x y h k) = record { name = x; parent = y; height = h } ∷ []
record_gives (block j x y h) = record { name = x; parent = y; height = h } ∷ []
record_gives (release j v x h) = []

-- no replica makes a kind 8
abbrev pub records_give : List (List ℕ) → List Placement
records_give [] = []
records_give (r ∷ l) = record_gives (content r) ++ records_give l

abbrev pub step_gives : Step → List Placement
step_gives (calls (receive b c)) = record_gives (content b)
step_gives (calls (timer v)) = []
step_gives (calls (propose x c)) = []
step_gives (reopens f c k m own leaders) = []

unfoldable pub gives : Replica → Entry → List Placement
gives r e = cond (accepted (outcome_of r e).reply) (step_gives e.step ++ records_give (makes r e)) []

-- ---- CHECKED BLOCKS (02, 2.5): the blocks that an accepted call takes, of kinds 7 and 8, "own proposals included", each with the contents that it came with
abbrev pub beside : Contents → List Placement → List (Placement × Contents)
beside c [] = []
beside c (b ∷ l) = (b, c) ∷ beside c l

-- an own proposal is "with the safe block and its height plus 1"
abbrev pub own_placement : Block → Placement
own_placement b = record { name = b.name; parent = b.parent; height = b.height.0 }

abbrev pub step_takes : Replica → Step → List (Placement × Contents)
step_takes r (calls (receive b c)) = beside c (record_gives (content b))
step_takes r (calls (timer v)) = []
step_takes r (calls (propose x c)) = beside c (own_placement (next_block (begin r) x) ∷ [])
step_takes r (reopens f c k m own leaders) = []

unfoldable pub takes : Replica → Entry → List (Placement × Contents)
takes r e = cond (accepted (outcome_of r e).reply) (step_takes r e.step) []

-- "parent name, height as u64 little-endian, and the contents", and their digest
pub record Triple : Type 0 where
  pub parent : List ℕ
  pub height : ℕ
  pub contents : List ℕ

abbrev pub digest_of : Triple → List ℕ
digest_of t = name_of t.parent t.height t.contents

-- the triple of a block, and those of some blocks; one that came without contents has none
abbrev pub triple_of : Placement × Contents → List Triple
triple_of (b, none) = []
triple_of (b, given s) = record { parent = b.parent; height = b.height; contents = s } ∷ []

abbrev pub triples_of : List (Placement × Contents) → List Triple
triples_of [] = []
triples_of (p ∷ l) = triple_of p ++ triples_of l

-- it came with contents
abbrev pub Given : Placement × Contents → Type 0
Given (b, none) = ⊥
Given (b, given s) = Unit {0}

-- what is handed over has the types of the interface: any bytes, any view of 64 bits, any name of 32 bytes
abbrev pub StepTyped : Step → Type 0
StepTyped (calls c) = CallTyped c
StepTyped (reopens f c k m own leaders) = Unit {0}

-- "an opening that is refused"
abbrev pub Refused : Step → Replica → Type 0
Refused (calls c) r = Unit {0}
Refused (reopens f c k m own leaders) r = accepted (opening_call r f c k m own leaders).reply ≡ false

-- a replica as a step machine: its records are bytes
abbrev pub replica_machine : Machine
replica_machine = record {
  State = Replica;
  Call = Entry;
  Item = List ℕ;
  Placement = Placement;
  Allowed = λ r e. StepTyped e.step × Refused e.step r;
  accepts = λ r e. accepted (outcome_of r e).reply;
  next = λ r e. left (outcome_of r e);
  makes = makes;
  says = says;
  gives = gives;
}

-- what the argument reads in a record; a release is "each as name and height (views may differ)"
abbrev pub read_of : Content → Read (List ℕ)
read_of (vote j v x) = is_vote v x
read_of (commit j v x) = is_commit v x
read_of (certificate j k) = is_other
read_of (timeout t) = is_timeout (Seen.content t)
read_of (proposal j v x y h k) = is_other
read_of (block j x y h) = is_other
read_of (release j v x h) = is_release x h

abbrev pub reads : List ℕ → Read (List ℕ)
reads r = read_of (content r)

-- ---- THE PREMISES
-- "each opened by one accepted opening, with the same settings and different numbers": over regions of any length and content, number i; 02, 2.1: "rings whose
-- honest boxes were opened with the same list". "one never opened counts as opened and without entries"
pub record Opened (set : Settings) (leaders : List ℕ) (i : ℕ) (r : Replica) : Type 0 where
  pub lent : Replica
  pub counters : CountersTyped lent.counters
  pub memory : IsBytes lent.memory
  pub store : All BlockTyped lent.store
  pub work : Work
  pub opens : opening_core lent set.f set.c set.k (replicas set) i leaders ≡ accepts work
  pub leaves : r ≡ record { counters = work.counters; memory = work.memory; store = work.store }

module _ (set : Settings) (honest : ℕ → Bool) (σ : ℕ → Replica) where
  abbrev M : Machine
  M = replica_machine

  module _ (run : List (ℕ × Entry)) where
    -- all placements of the run, and all blocks that were taken in it
    abbrev pub placed : List Placement
    placed = placements M σ run

    abbrev pub taken : List (Placement × Contents)
    taken = gathered M takes σ run

    -- of a cluster whose leader list is this one
    pub record Premises (leaders : List ℕ) : Type 0 where
      -- "At least n−f boxes of the ring are honest"; "numbered 0 to n−1"
      pub enough : replicas set ≤ set.f + count honest (replicas set)
      pub numbers : (i : ℕ) → T (honest i) → i < replicas set
      pub opened : (i : ℕ) → T (honest i) → Opened set leaders i (σ i)
      -- "Each entry names an honest box"; "The other boxes have no entries."
      pub on_honest : All (λ (e : ℕ × Entry). T (honest e.0)) run
      -- every opening in the list is refused where it stands; what is handed over has its type
      pub allowed : AllAllowed M σ run
      -- "For each accepted record in the list: ... that box made it earlier in the list; so too ...; and each honest signer ... earlier made the vote"
      pub earlier : Earlier M honest σ [] run

    -- THE PREMISE ON NAMES: "by premise no two of these differ"
    abbrev pub OnePlacement : Type 0
    OnePlacement = (a b : Placement) → In a placed → In b placed → a.name ≡ b.name → (a.parent ≡ b.parent) × (a.height ≡ b.height)

    -- and its other form. 02, 2.5: "Where every honest box of the ring takes only checked blocks, own proposals included, the premise about names becomes: no two
    -- different triples in the run have the same digest"
    pub record OneDigest : Type 0 where
      pub checked : All Given taken
      pub one_triple : (a b : Triple) → In a (triples_of taken) → In b (triples_of taken) → digest_of a ≡ digest_of b → a ≡ b

    -- ---- THE CLAIM
    -- "An honest box's row is the kind 9 records it made, its releases, in the order written, each as name and height"
    abbrev pub row_of : ℕ → List (List ℕ × ℕ)
    row_of i = row M σ run reads i

    -- x's parent is y, by a placement of the run
    abbrev pub ParentIs : List ℕ → List ℕ → Type 0
    ParentIs x y = (b : Placement) × In b placed × (b.name ≡ x) × (b.parent ≡ y)

    -- a release says the height of its name, by a placement of the run
    abbrev pub HeightIs : List ℕ × ℕ → Type 0
    HeightIs a = (b : Placement) × In b placed × (b.name ≡ a.0) × (b.height ≡ a.1)

    pub record OneChain : Type 0 where
      -- "The first has genesis as parent, every other one the release before it, and heights run 1, 2, 3 and on."
      pub linked : (i : ℕ) → T (honest i) → Linked ParentIs 1 zero_name (row_of i)
      -- and each is the height that the name was given
      pub heights : (i : ℕ) → T (honest i) → All HeightIs (row_of i)
      -- "Of any two honest boxes' rows the shorter is the beginning of the longer; rows of one length are the same."
      pub shorter : (i j : ℕ) → T (honest i) → T (honest j) → length (row_of i) ≤ length (row_of j) → Begins (row_of i) (row_of j)
      pub same : (i j : ℕ) → T (honest i) → T (honest j) → length (row_of i) ≡ length (row_of j) → row_of i ≡ row_of j

-- DEMAND 3: for every settings, leader list, choice of honest replicas, opened states and list of entries. 02, 2.2: "promised over all these settings with one
-- argument, a ring of one box included": of the settings nothing is asked but that opening takes them
abbrev pub Demand3 : Type 0
Demand3 =
    (set : Settings) (leaders : List ℕ) (honest : ℕ → Bool) (σ : ℕ → Replica) (run : List (ℕ × Entry)) → Premises set honest σ run leaders → OnePlacement set honest σ run
    → OneChain set honest σ run

-- 02, 2.5: the same where all blocks are checked
abbrev pub Demand3Checked : Type 0
Demand3Checked =
    (set : Settings) (leaders : List ℕ) (honest : ℕ → Bool) (σ : ℕ → Replica) (run : List (ℕ × Entry)) → Premises set honest σ run leaders → OneDigest set honest σ run
    → OneChain set honest σ run

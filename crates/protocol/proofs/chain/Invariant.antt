-- The invariant of one replica (`Invariant`): what is true of its state and of the records that it made, where a history says what honest replicas did. In the
-- history of a run it is what demand 3 needs; in the full history, where every claim is true, it is what holds of a replica on any input. It stands
-- apart from the rules of refusal 2. Assumes nothing.
use Prim.Native.Nat.{ℕ, suc, ◌^◌, ◌≤◌, ◌<◌}
use mathlib.Core.Bool.{Bool, true, false}
use mathlib.Core.Logic.{◌⊎◌}
use mathlib.Core.List.{List, []}
use mathlib.Core.Path.{◌≡◌}
use lib.Dec.{T}
use lib.ListN.{length}
use Rattle.settings.specs.declared.Settings.{Settings}
use Rattle.settings.specs.Quorum.{replicas, last_view, last_height}
use Rattle.codec.specs.Names.{zero_name}
use Rattle.wire.specs.declared.Timeout.{Timeout}
use Rattle.wire.specs.Encode.{timeout_bytes, certificate_bytes, encode}
use Rattle.wire.specs.Content.{Content, vote, commit, certificate, timeout, proposal, block, release}
use Rattle.wire.specs.Fit.{All, TimeoutFits, TimeoutProper, CertificateFits, CertificateProper, Fits, Proper}
use Rattle.certificate.specs.declared.Certificate.{Certificate}
use Rattle.certificate.specs.Rank.{highest}
use Rattle.certificate.specs.Safe.{safe_certificate}
use Rattle.blocks.specs.declared.Block.{Block}
use Rattle.blocks.specs.Store.{found, find}
use Rattle.blocks.proofs.Linked.{In}
use Rattle.memory.specs.Layout.{entry_of}
use Rattle.memory.proofs.Apart.{votes, commits, timeouts}
use Rattle.counters.specs.declared.Counters.{Counters}
use Rattle.counters.specs.Counters.{certificate_of, locks_of}
use Rattle.safety.specs.Rank.{Cert, block_of}
use Rattle.safety.specs.Cluster.{Cluster, Signed, Good, Progress, Direct}
use Rattle.safety.specs.Cluster as Seen
use Rattle.safety.specs.Certificates.{cert}
use Rattle.safety.specs.Select.{Fine}
use Rattle.safety.proofs.Certificates.{held}
use Rattle.safety.specs.Rows.{Row, firsts, number}
use Rattle.safety.specs.Run.{released}
use Rattle.safety.specs.Match.{Matches}
use Rattle.safety.specs.Trace as Trace
use Rattle.protocol.specs.Work.{Work, settings, own, view_now, tip, blocks}
use Rattle.protocol.specs.Refusals.{view_of_progress}
use Rattle.protocol.specs.OneChain.{Placement, reads}
use Rattle.protocol.proofs.call.Regular.{Regular}
use Rattle.protocol.proofs.chain.Tables.{HoldsIn}

abbrev pub Name : Type 0
Name = List ℕ

-- a history: what the honest replicas did, and which placements names have
pub record History : Type 1 where
  pub honest : ℕ → Bool
  pub Voted : ℕ → ℕ → Name → Type 0
  pub Committed : ℕ → ℕ → Name → Type 0
  pub TimedOut : ℕ → Seen.Timeout Name → Type 0
  -- a name has its parent and height
  pub Placed : Placement → Type 0

-- of a block of the store
abbrev pub placement_of : Block → Placement
placement_of b = record { name = b.name; parent = b.parent; height = b.height.0 }

abbrev pub cluster_of : Settings → History → Cluster Name
cluster_of set w = record {
  set = set;
  honest = w.honest;
  Parent = λ x y. (b : Placement) × w.Placed b × (b.name ≡ x) × (b.parent ≡ y);
  Voted = w.Voted;
  Committed = w.Committed;
  TimedOut = w.TimedOut;
}

-- ---- A RECORD THAT A REPLICA WRITES: the encoding of a content that fits and passes 3, 4 and 5 in a cluster of n
-- the one exception: a commit after a certificate of view ≥ 1 with the zero name
abbrev pub Passes : ℕ → Content → Type 0
Passes n (vote s v x) = Proper n (vote s v x)
Passes n (commit s v x) = Proper n (commit s v x) ⊎ ((x ≡ zero_name) × (0 < v))
Passes n (certificate s k) = Proper n (certificate s k)
Passes n (timeout t) = Proper n (timeout t)
Passes n (proposal s v x y h k) = Proper n (proposal s v x y h k)
Passes n (block s x y h) = ⊥
-- the host reads it
Passes n (release s v x h) = Unit {0}

pub record Sent (n : ℕ) (r : List ℕ) : Type 0 where
  pub says : Content
  pub is : r ≡ encode says
  pub fits : Fits says
  pub passes : Passes n says

-- timed, high vote, and what its timeouts carry
abbrev pub traced : Counters → Trace.Replica Name
traced c = record { timed = c.timed.0; high_view = c.high.view.0; high_name = c.high.name; top = cert (highest (locks_of c)) }

-- the releases among some records, as name and height
abbrev pub row_in : List (List ℕ) → List (Name × ℕ)
row_in l = released reads l

module _ (set : Settings) (w : History) where
  abbrev pub R : Cluster Name
  R = cluster_of set w

  abbrev pub size : ℕ
  size = replicas set

  -- why a vote was made: the safe certificate of the view before names its parent
  abbrev pub VoteGround : ℕ → Name → Cert Name → Type 0
  VoteGround v x c = (u : ℕ) × (v ≡ suc u) × Progress R u c × R.Parent x c.name

  -- the records made are the acts of a trace that leads to s, and its votes and commits are grounded
  pub record Acted (l : List (List ℕ)) (s : Trace.Replica Name) : Type 0 where
    pub acts : List (Trace.Act Name)
    pub matches : Matches reads l acts
    pub trace : Trace.Trace acts s
    pub vote_on : (v : ℕ) (x : Name) (c : Cert Name) → Trace.Votes acts v x c → VoteGround v x c
    pub commit_on : (v : ℕ) (x : Name) → Trace.Commits acts v x → Signed R (block_of v x)

  -- a good certificate of a view below the limit, with signers below n
  pub record GoodBelow (limit : ℕ) (k : Certificate) : Type 0 where
    pub good : Good R (cert k)
    pub below : k.view.0 < limit
    pub signers : k.signers < 2 ^ size

  -- a progress certificate of view u by the record r, whose sender is j
  pub record Entry (j u : ℕ) (r : List ℕ) : Type 0 where
    pub says : Rattle.wire.specs.Content.Certificate
    pub is : r ≡ certificate_bytes j says
    pub fits : CertificateFits says
    pub proper : CertificateProper size says
    pub of_view : view_of_progress says ≡ u
    pub progress : Progress R u (cert (safe_certificate set says))

  -- certificates are good, and below the limit: the view, or the view that is being entered. j is the own number, r the entry certificate's record
  pub record Certified (limit j : ℕ) (c : Counters) (r : List ℕ) : Type 0 where
    pub view_le : c.view.0 ≤ limit
    pub limit_le : limit ≤ last_view
    pub high_le : c.high.view.0 ≤ limit
    pub high_named : c.high.view.0 ≡ 0 → c.high.name ≡ zero_name
    pub high_viewed : c.high.name ≡ zero_name → c.high.view.0 ≡ 0
    pub lock : GoodBelow limit (certificate_of true c.lock)
    pub weak : GoodBelow limit (certificate_of false c.weak)
    pub before : ℕ
    pub view_is : c.view.0 ≡ suc before
    pub entered : Entry j before r

  -- what is kept of honest replicas is true, and kept timeouts are good records
  pub record VoteKept (v j : ℕ) (x : Name) : Type 0 where
    pub below : v < last_view
    pub truly : T (w.honest j) → w.Voted j v x

  pub record CommitKept (v j : ℕ) (x : Name) : Type 0 where
    pub below : v < last_view
    pub truly : T (w.honest j) → w.Committed j v x

  pub record TimeoutKept (v j : ℕ) (e : List ℕ) : Type 0 where
    pub below : v < last_view
    pub says : Timeout
    pub is : e ≡ timeout_bytes says
    pub fits : TimeoutFits says
    pub proper : TimeoutProper size says
    pub from : says.sender ≡ j
    pub fine : Fine held R v says

  pub record Tables (view : ℕ) (m : List ℕ) : Type 0 where
    pub votes_true : HoldsIn size votes VoteKept view m
    pub commits_true : HoldsIn size commits CommitKept view m
    pub timeouts_fine : HoldsIn size timeouts TimeoutKept view m

  -- the parent of a block is held, one below: the tip, or an entry
  abbrev pub ParentHeld : Block → List Block → Block → Type 0
  ParentHeld tip store b =
      ((b.parent ≡ tip.name) × (b.height.0 ≡ suc tip.height.0))
      ⊎ ((c : Block) × (find b.parent store ≡ found c) × (b.height.0 ≡ suc c.height.0))

  pub record Stored (tip : Block) (store : List Block) (b : Block) : Type 0 where
    pub placed : w.Placed (placement_of b)
    pub height_le : b.height.0 ≤ last_height
    pub over_tip : tip.height.0 < b.height.0
    pub parent_held : ParentHeld tip store b

  -- a release says the height of its name
  abbrev pub Named : Name × ℕ → Type 0
  Named a = (b : Placement) × w.Placed b × (b.name ≡ a.0) × (b.height ≡ a.1)

  -- the row of releases ends in the tip, which is the last direct release; the stored blocks stand above it, one of a name
  pub record Chained (l : List (List ℕ)) (tip : Block) (store : List Block) : Type 0 where
    pub row : Row R.Parent zero_name (firsts (row_in l)) tip.name
    pub direct : (firsts (row_in l) ≡ []) ⊎ ((v : ℕ) × Direct R v tip.name)
    pub numbered : row_in l ≡ number 1 (firsts (row_in l))
    pub tip_height : tip.height.0 ≡ length (row_in l)
    pub named : All Named (row_in l)
    pub tip_le : tip.height.0 ≤ last_height
    pub stored : (b : Block) → In b store → Stored tip store b
    pub single : (a b : Block) → In a store → In b store → a.name ≡ b.name → a ≡ b
    pub tip_apart : (b : Block) → In b store → b.name ≡ tip.name → ⊥

  -- THE INVARIANT of replica i, which made the records l
  pub record Invariant (i limit : ℕ) (W : Work) (l : List (List ℕ)) : Type 0 where
    pub regular : Regular W
    pub set_is : settings W ≡ set
    pub mine : own W ≡ i
    pub sent : All (Sent size) l
    pub acted : Acted l (traced W.counters)
    pub certified : Certified limit (own W) W.counters (entry_of W.memory)
    pub tables : Tables (view_now W) W.memory
    pub chained : Chained l (tip W) (blocks W)

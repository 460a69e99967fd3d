-- One honest replica as the safety argument sees it: the counters that matter, the acts by which they change, and its trace in a run. Assumes nothing.
use Rattle.std.specs.Prelude.{List, [], ◌∷◌, ◌⊎◌, ◌≡◌, ℕ, suc, ◌<◌}
use Rattle.safety.specs.Rank.{Cert, ◌⊑◌, block_of}
use Rattle.safety.specs.Cluster.{Cluster, Timeout, Signed, Progress}

module _ (Name : Type 0) where
  -- 01: a box. Timed, high vote (view 0: none), and the higher of lock and best weak
  pub record Replica : Type 0 where
    pub timed : ℕ
    pub high_view : ℕ
    pub high_name : Name
    pub top : Cert Name

  -- what a replica does, as far as others can come to rely on it
  pub data Act : Type 0 where
    -- a vote in this view for this name, on this safe certificate
    vote : ℕ → Name → Cert Name → Act
    commit : ℕ → Name → Act
    timeout : Timeout Name → Act

module _ {Name : Type 0} where
  -- the rules, for a replica s that is s' afterwards. No act: at most certificates are adopted
  pub record QuietStep (s s' : Replica Name) : Type 0 where
    pub high_view_is : s'.high_view ≡ s.high_view
    pub high_name_is : s'.high_name ≡ s.high_name
    pub timed_is : s'.timed ≡ s.timed
    pub top_up : s.top ⊑ s'.top

  -- a vote: not after a timeout of the view or a vote in it, and the safe certificate is adopted.
  pub record VoteStep (v : ℕ) (x : Name) (c : Cert Name) (s s' : Replica Name) : Type 0 where
    pub vote_in_time : s.timed < v
    pub first : s.high_view < v
    pub high_view_is : s'.high_view ≡ v
    pub high_name_is : s'.high_name ≡ x
    pub timed_is : s'.timed ≡ s.timed
    pub top_up : s.top ⊑ s'.top
    pub adopts : c ⊑ s'.top

  -- a commit: not after a timeout of the view, and the block certificate is adopted
  pub record CommitStep (v : ℕ) (x : Name) (s s' : Replica Name) : Type 0 where
    pub commit_in_time : s.timed < v
    pub quietly : QuietStep s s'
    pub adopts : block_of v x ⊑ s'.top

  -- a timeout: of a later view than the last one, with the replica's high vote and the higher of its lock and best weak
  pub record TimeoutStep (t : Timeout Name) (s s' : Replica Name) : Type 0 where
    pub later : s.timed < t.view
    pub says_view : t.high_view ≡ s.high_view
    pub says_name : t.high_name ≡ s.high_name
    pub carries : t.carried ≡ s.top
    pub timed_is : s'.timed ≡ t.view
    pub high_view_is : s'.high_view ≡ s.high_view
    pub high_name_is : s'.high_name ≡ s.high_name
    pub top_is : s'.top ≡ s.top

  abbrev pub Step : Act Name → Replica Name → Replica Name → Type 0
  Step (vote v x c) s s' = VoteStep v x c s s'
  Step (commit v x) s s' = CommitStep v x s s'
  Step (timeout t) s s' = TimeoutStep t s s'

  -- a replica's acts, the last one first, and where they lead from an opening
  pub data Trace : List (Act Name) → Replica Name → Type 0 where
    opened : {s : Replica Name} → s.timed ≡ 0 → s.high_view ≡ 0 → Trace [] s
    quiet : {l : List (Act Name)} {s s' : Replica Name} → Trace l s → QuietStep s s' → Trace l s'
    does : {l : List (Act Name)} {s s' : Replica Name} → Trace l s → (a : Act Name) → Step a s s' → Trace (a ∷ l) s'

  -- the acts of a list, by kind
  abbrev pub Votes : List (Act Name) → ℕ → Name → Cert Name → Type 0
  Votes [] v x c = ⊥
  Votes (vote u y d ∷ l) v x c = ((v ≡ u) × (x ≡ y) × (c ≡ d)) ⊎ Votes l v x c
  Votes (commit u y ∷ l) v x c = Votes l v x c
  Votes (timeout t ∷ l) v x c = Votes l v x c

  abbrev pub Commits : List (Act Name) → ℕ → Name → Type 0
  Commits [] v x = ⊥
  Commits (vote u y d ∷ l) v x = Commits l v x
  Commits (commit u y ∷ l) v x = ((v ≡ u) × (x ≡ y)) ⊎ Commits l v x
  Commits (timeout t ∷ l) v x = Commits l v x

  abbrev pub Timeouts : List (Act Name) → Timeout Name → Type 0
  Timeouts [] t = ⊥
  Timeouts (vote u y d ∷ l) t = Timeouts l t
  Timeouts (commit u y ∷ l) t = Timeouts l t
  Timeouts (timeout t' ∷ l) t = (t ≡ t') ⊎ Timeouts l t

-- ---- from the replicas' traces to the cluster
module _ {Name : Type 0} (R : Cluster Name) where
  -- Replica i's own part: its acts, in a trace, are what it did in the run. This is shown of each replica by itself and needs no premise on records.
  pub record Traced (i : ℕ) : Type 0 where
    pub acts : List (Act Name)
    pub replica : Replica Name
    pub trace : Trace acts replica
    pub voted : (v : ℕ) (x : Name) → R.Voted i v x → (c : Cert Name) × Votes acts v x c
    pub did_vote : (v : ℕ) (x : Name) (c : Cert Name) → Votes acts v x c → R.Voted i v x
    pub committed : (v : ℕ) (x : Name) → R.Committed i v x → Commits acts v x
    pub timed_out : (t : Timeout Name) → R.TimedOut i t → Timeouts acts t

  -- What the premise on accepted records gives: the certificates on which replica i voted and committed are backed by votes and timeouts of the run.
  pub record Grounded (i : ℕ) (t : Traced i) : Type 0 where
    pub vote_on : (v : ℕ) (x : Name) (c : Cert Name) → Votes t.acts v x c
        → (w : ℕ) × (v ≡ suc w) × Progress R w c × R.Parent x c.name
    pub commit_on : (v : ℕ) (x : Name) → Commits t.acts v x → Signed R (block_of v x)

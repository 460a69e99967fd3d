-- A cluster as the safety argument sees it: what its honest replicas did in a whole run, what a good certificate is, and the facts that a step
-- machine must supply (`Lawful`). There is no time in it: all facts are about the run as a whole. Assumes nothing.
use Rattle.std.specs.Prelude.{Bool, true, ◌⊎◌, ◌≡◌, ℕ, suc, ◌+◌, ◌≤◌, ◌<◌, T}
use Rattle.settings.specs.declared.Settings.{Settings}
use Rattle.settings.specs.Quorum.{replicas, weak_quorum, timeout_quorum, slow_quorum, fast_quorum}
use Rattle.certificate.specs.Good.{signers_needed}
use Rattle.safety.specs.Count.{count}
use Rattle.safety.specs.Rank.{Cert, ◌⊑◌, block_of}

-- a timeout's content: view; high vote, view 0 for none; the certificate carried
pub record Timeout (Name : Type 0) : Type 0 where
  pub view : ℕ
  pub high_view : ℕ
  pub high_name : Name
  pub carried : Cert Name

-- 01: a ring. What its honest replicas did in a run; the relations are read at honest replicas only.
pub record Cluster (Name : Type 0) : Type 1 where
  pub set : Settings
  pub honest : ℕ → Bool
  -- x's parent is y
  pub Parent : Name → Name → Type 0
  -- replica i made a vote, or a commit, of view v for x
  pub Voted : ℕ → ℕ → Name → Type 0
  pub Committed : ℕ → ℕ → Name → Type 0
  -- replica i made this timeout
  pub TimedOut : ℕ → Timeout Name → Type 0

-- x extends a: a is x, or an ancestor of x
pub data Extends {Name : Type 0} (Parent : Name → Name → Type 0) (a : Name) : Name → Type 0 where
  same : Extends Parent a a
  above : {x y : Name} → Parent x y → Extends Parent a y → Extends Parent a x

module _ {Name : Type 0} (R : Cluster Name) where
  abbrev pub size : ℕ
  size = replicas R.set

  abbrev pub EachHonest : (ℕ → Type 0) → Type 0
  EachHonest P = (i : ℕ) → i < size → T (R.honest i) → P i

  -- every honest replica in the set did it
  abbrev pub Truly : (ℕ → Bool) → (ℕ → Type 0) → Type 0
  Truly B Did = EachHonest (λ i. T (B i) → Did i)

  -- at least n - f replicas are honest; the others are Byzantine: whatever they do is left open
  abbrev pub EnoughHonest : Type 0
  EnoughHonest = size ≤ R.set.f + count R.honest size

  -- enough signers, of whom the honest ones made that vote
  pub record Signed (c : Cert Name) : Type 0 where
    pub signers : ℕ → Bool
    pub enough : signers_needed R.set c.block ≤ count signers size
    pub truly : Truly signers (λ i. R.Voted i c.view c.name)

  abbrev pub Good : Cert Name → Type 0
  Good c = (c.view ≡ 0) ⊎ Signed c

  -- A good timeout certificate of view w and a safe certificate of it: a good certificate of a view up to w, and no candidate ranks higher.
  pub record TimeoutCert (w : ℕ) (safe : Cert Name) : Type 0 where
    pub sender : ℕ → Bool
    pub says : ℕ → Timeout Name
    pub enough : timeout_quorum R.set ≤ count sender size
    pub truly : Truly sender (λ i. R.TimedOut i (says i))
    pub of_view : (i : ℕ) → i < size → T (sender i) → (says i).view ≡ w
    pub high_le : (i : ℕ) → i < size → T (sender i) → (says i).high_view ≤ w
    pub safe_good : Good safe
    pub safe_le : safe.view ≤ w
    pub over_carried : (i : ℕ) → i < size → T (sender i) → (says i).carried ⊑ safe
    -- a weak certificate that enough senders' high votes build
    pub over_built : (B : ℕ → Bool) (u : ℕ) (x : Name)
        → ((i : ℕ) → i < size → T (B i) → T (sender i) × ((says i).high_view ≡ u) × ((says i).high_name ≡ x))
        → weak_quorum R.set ≤ count B size → u ≤ safe.view

  -- a good progress certificate of view w whose safe certificate is the second argument
  abbrev pub Progress : ℕ → Cert Name → Type 0
  Progress w safe = ((safe.view ≡ w) × (safe.block ≡ true) × Good safe) ⊎ TimeoutCert w safe

  -- replica i's timeouts of view v and later carry what ranks at least as high as c
  abbrev pub Carries : ℕ → ℕ → Cert Name → Type 0
  Carries i v c = (t : Timeout Name) → R.TimedOut i t → v ≤ t.view → c ⊑ t.carried

  -- why replica i voted for x in view v: its parent is the safe block of the view before, and the replica adopted the safe certificate
  pub record VoteWhy (i v : ℕ) (x : Name) : Type 0 where
    pub before : ℕ
    pub before_is : v ≡ suc before
    pub safe : Cert Name
    pub progress : Progress before safe
    pub parent : R.Parent x safe.name
    pub kept : Carries i v safe

  pub record CommitWhy (i v : ℕ) (x : Name) : Type 0 where
    pub signed : Signed (block_of v x)
    pub kept : Carries i v (block_of v x)

  -- a timeout's high vote is a vote of its replica
  abbrev pub HighVoted : Type 0
  HighVoted = EachHonest (λ i. (t : Timeout Name) → R.TimedOut i t → 0 < t.high_view → R.Voted i t.high_view t.high_name)

  -- THE INTERFACE: what a step machine has to show of a run.
  pub record Lawful : Type 0 where
    pub enough_honest : EnoughHonest
    -- one vote a view
    pub vote_once : EachHonest (λ i. (v : ℕ) (x y : Name) → R.Voted i v x → R.Voted i v y → x ≡ y)
    pub vote_why : EachHonest (λ i. (v : ℕ) (x : Name) → R.Voted i v x → VoteWhy i v x)
    pub commit_why : EachHonest (λ i. (v : ℕ) (x : Name) → R.Committed i v x → CommitWhy i v x)
    -- no vote up to a timeout's view is above its high vote, which is a vote of the replica
    pub high_above : EachHonest (λ i. (t : Timeout Name) → R.TimedOut i t → (v : ℕ) (x : Name) → R.Voted i v x → v ≤ t.view → v ≤ t.high_view)
    pub high_voted : HighVoted

  -- a direct release of x in view v: n - p votes, or 2f + c + 1 commits
  pub record Fast (v : ℕ) (x : Name) : Type 0 where
    pub voters : ℕ → Bool
    pub enough : fast_quorum R.set ≤ count voters size
    pub truly : Truly voters (λ i. R.Voted i v x)

  pub record Slow (v : ℕ) (x : Name) : Type 0 where
    pub committers : ℕ → Bool
    pub enough : slow_quorum R.set ≤ count committers size
    pub truly : Truly committers (λ i. R.Committed i v x)

  abbrev pub Direct : ℕ → Name → Type 0
  Direct v x = Fast v x ⊎ Slow v x

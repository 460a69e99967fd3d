-- 01: a run of the ring. A list of calls on replicas that take turns in any order, the premise that honest replicas made earlier what accepted
-- records say of them, the rows of their releases, and what a step machine has to keep (`Keeps`). Assumes nothing.
use Rattle.std.specs.Prelude.{Bool, cond, List, [], ◌∷◌, ◌++◌, ◌≡◌, ℕ, T, eqb}
use Rattle.settings.specs.declared.Settings.{Settings}
use Rattle.wire.specs.Fit.{All}
use Rattle.safety.specs.Lists.{In}
use Rattle.safety.specs.Cluster.{Cluster, Timeout, EachHonest, HighVoted}
use Rattle.safety.specs.Rows.{firsts, number, Released}
use Rattle.safety.specs.Trace.{Traced, Grounded}

-- A replica as a step machine. Item: a record, as bytes or decoded; Placement: a name with its parent and height. A refused call leaves the state and makes nothing: `next` and `makes` say so themselves.
pub record Machine : Type 1 where
  pub State : Type 0
  pub Call : Type 0
  pub Item : Type 0
  pub Placement : Type 0
  -- which calls a run may hold at a state, whatever the records in them say
  pub Allowed : State → Call → Type 0
  pub accepts : State → Call → Bool
  pub next : State → Call → State
  -- the records that the call writes, in order
  pub makes : State → Call → List Item
  -- who is to have made what, by the records that the call accepts: senders of kinds 1, 2, 5 and 7, inner timeouts, and signers, each with its vote
  pub says : State → Call → List (ℕ × Item)
  -- the placements in accepted kinds 7 and 8, and in kind 7 that it makes
  pub gives : State → Call → List Placement

module _ (M : Machine) where
  abbrev pub Log : Type 0
  Log = List (ℕ × M.Item)

  abbrev pub tag : ℕ → List M.Item → Log
  tag i [] = []
  tag i (q ∷ l) = (i, q) ∷ tag i l

  -- what replica i made
  abbrev pub own : ℕ → Log → List M.Item
  own i [] = []
  own i (e ∷ l) = cond (eqb e.0 i) (e.1 ∷ own i l) (own i l)

  abbrev pub after : (ℕ → M.State) → ℕ → M.Call → ℕ → M.State
  after σ i c j = cond (eqb i j) (M.next (σ i) c) (σ j)

  -- the state of each replica at the end, and all that was made, from states σ and a log L
  abbrev pub end : (ℕ → M.State) → List (ℕ × M.Call) → ℕ → M.State
  end σ [] = σ
  end σ (e ∷ r) = end (after σ e.0 e.1) r

  abbrev pub log : (ℕ → M.State) → Log → List (ℕ × M.Call) → Log
  log σ L [] = L
  log σ L (e ∷ r) = log (after σ e.0 e.1) (L ++ tag e.0 (M.makes (σ e.0) e.1)) r

  -- every call of the list is allowed where it stands
  abbrev pub AllAllowed : (ℕ → M.State) → List (ℕ × M.Call) → Type 0
  AllAllowed σ [] = Unit {0}
  AllAllowed σ (e ∷ r) = M.Allowed (σ e.0) e.1 × AllAllowed (after σ e.0 e.1) r

  -- what is found at each call of the list, where it stands
  abbrev pub gathered : {A : Type 0} → (M.State → M.Call → List A) → (ℕ → M.State) → List (ℕ × M.Call) → List A
  gathered find σ [] = []
  gathered find σ (e ∷ r) = find (σ e.0) e.1 ++ gathered find (after σ e.0 e.1) r

  abbrev pub placements : (ℕ → M.State) → List (ℕ × M.Call) → List M.Placement
  placements = gathered M.gives

module _ (M : Machine) (honest : ℕ → Bool) where
  -- THE PREMISE: what an accepted record says of an honest replica, that replica made earlier
  abbrev pub Earlier : (ℕ → M.State) → Log M → List (ℕ × M.Call) → Type 0
  Earlier σ L [] = Unit {0}
  Earlier σ L (e ∷ r) =
      (T (M.accepts (σ e.0) e.1) → All (λ (s : ℕ × M.Item). T (honest s.0) → In s L) (M.says (σ e.0) e.1))
      × Earlier (after M σ e.0 e.1) (L ++ tag M e.0 (M.makes (σ e.0) e.1)) r

  -- ---- what one call of replica i keeps: F is all that the run makes, B all placements in it, P what each honest replica keeps, by the items that it made and
  -- its state. "Made earlier" is weakened to "made in the run".
  module _ (F : Log M) (B : List M.Placement) (P : ℕ → List M.Item → M.State → Type 0) where
    abbrev pub StepKeeps : Type 0
    StepKeeps = (i : ℕ) → T (honest i) → (l : List M.Item) (s : M.State) (c : M.Call) → M.Allowed s c → P i l s
        → (T (M.accepts s c) → All (λ (a : ℕ × M.Item). T (honest a.0) → In a F) (M.says s c))
        → ((q : M.Item) → In q (M.makes s c) → In (i, q) F)
        → ((b : M.Placement) → In b (M.gives s c) → In b B)
        → P i (l ++ M.makes s c) (M.next s c)

-- ---- what safety reads in a record
pub data Read (Name : Type 0) : Type 0 where
  is_vote : ℕ → Name → Read Name
  is_commit : ℕ → Name → Read Name
  is_timeout : Timeout Name → Read Name
  is_release : Name → ℕ → Read Name
  is_other : Read Name

-- 01: a box's row. The releases among some records, in order
abbrev pub released : {Item Name : Type 0} → (Item → Read Name) → List Item → List (Name × ℕ)
released reads [] = []
released reads (q ∷ l) = elim (reads q) [
  | is_vote v x ↦ released reads l
  | is_commit v x ↦ released reads l
  | is_timeout t ↦ released reads l
  | is_release x h ↦ (x, h) ∷ released reads l
  | is_other ↦ released reads l
]

-- ---- a run from the states σ, by the calls r
module _ (M : Machine) (σ : ℕ → M.State) (r : List (ℕ × M.Call)) where
  -- what replica i made in it
  abbrev pub made : ℕ → List M.Item
  made i = own M i (log M σ [] r)

  module _ {Name : Type 0} (reads : M.Item → Read Name) where
    -- replica i made a record that reads so
    abbrev pub Did : ℕ → Read Name → Type 0
    Did i a = (q : M.Item) × In q (made i) × (reads q ≡ a)

    abbrev pub row : ℕ → List (Name × ℕ)
    row i = released reads (made i)

module _ (M : Machine) (set : Settings) (honest : ℕ → Bool) {Name : Type 0} (reads : M.Item → Read Name) (child parent : M.Placement → Name)
    (σ : ℕ → M.State) (r : List (ℕ × M.Call)) where
  abbrev pub cluster : Cluster Name
  cluster = record {
    set = set;
    honest = honest;
    Parent = λ x y. (b : M.Placement) × In b (placements M σ r) × (child b ≡ x) × (parent b ≡ y);
    Voted = λ i v x. Did M σ r reads i (is_vote v x);
    Committed = λ i v x. Did M σ r reads i (is_commit v x);
    TimedOut = λ i t. Did M σ r reads i (is_timeout t);
  }

  -- what holds of replica i at the end of the run
  abbrev pub AtEnd : Name → ℕ → Type 0
  AtEnd genesis i =
      let l = row M σ r reads i in
      (t : Traced cluster i) × Grounded cluster i t × Released cluster genesis (firsts l) × (l ≡ number 1 (firsts l))

  abbrev pub Kept : (ℕ → List M.Item → M.State → Type 0) → Type 0
  Kept P = StepKeeps M honest (log M σ [] r) (placements M σ r) P

  -- WHAT A MACHINE HAS TO SHOW, call by call: an invariant of each replica by itself that makes it a trace; and, given that honest high votes are votes,
  -- one that has what backs its certificates and its releases
  pub record Keeps (genesis : Name) : Type 1 where
    pub Own : ℕ → List M.Item → M.State → Type 0
    pub own_open : (i : ℕ) → T (honest i) → Own i [] (σ i)
    pub own_step : Kept Own
    pub own_end : EachHonest cluster (λ i. (s : M.State) → Own i (made M σ r i) s → Traced cluster i)
    pub Backed : ℕ → List M.Item → M.State → Type 0
    pub backed_open : (i : ℕ) → T (honest i) → Backed i [] (σ i)
    pub backed_step : HighVoted cluster → Kept Backed
    pub backed_end : EachHonest cluster (λ i. (s : M.State) → Backed i (made M σ r i) s → AtEnd genesis i)

-- DEMAND 3 IS PROVED: over any list of entries that meets the premises of specs/OneChain.antt, all releases lie along one chain. Two passes over the run: in the full
-- history, where every claim is true, the replicas are traces; then the certificates and releases are backed by what the run made. Assumes nothing.
use Prim.Native.Nat.{ℕ}
use mathlib.Core.Bool.{Bool, true, false, cond}
use mathlib.Core.List.{List, [], ◌∷◌, ◌++◌}
use mathlib.Core.Logic.{inl, inr, ⊎_elim}
use mathlib.Core.Path.{◌≡◌, refl, sym, ap, subst, ◌∙◌}
use native.Mathlib.Omega.{arith}
use lib.Dec.{T}
use lib.ListN.{length}
use Rattle.settings.specs.declared.Settings.{Settings}
use Rattle.settings.specs.Answer.{Answer, accepts, refuses}
use Rattle.settings.specs.Quorum.{replicas}
use Rattle.codec.specs.Names.{zero_name}
use Rattle.wire.specs.Content.{Content, vote, commit, certificate, timeout, proposal, block, release, content}
use Rattle.wire.specs.Shape.{shape_rules, shape_of}
use Rattle.wire.specs.Fit.{All, Proper}
use Rattle.wire.proofs.Facts.{off_judge}
use Rattle.wire.proofs.ReadBack.{read_written, read_proper}
use Rattle.safety.specs.Lists.{In}
use Rattle.safety.specs.Cluster.{Cluster, HighVoted}
use Rattle.safety.specs.Rows.{OneParent, nothing, up_to}
use Rattle.safety.proofs.Lists.{in_right, in_append, in_all}
use Rattle.safety.specs.Run.{is_vote, is_commit, Log, AllAllowed, tag, own, after, end, log, placements, made, cluster, AtEnd, Keeps}
use Rattle.safety.proofs.Rank.{needed_honest}
use Rattle.safety.proofs.Safety.{some_honest}
use Rattle.safety.proofs.Run.{honest_high, run_lawful, in_tag, in_own, in_log, by_replica, row_linked, one_chain, one_length}
use Rattle.safety.proofs.Match.{traced}
use Rattle.memory.specs.Leaders.{by_list}
use Rattle.protocol.specs.Work.{Work, n}
use Rattle.protocol.specs.Refusals.{region_rules, refusals}
use Rattle.protocol.specs.Calls.{Replica, begin, record_core, opening_call, Outcome, outcome}
use Rattle.protocol.specs.OneCall.{Call, receive, timer, propose, CallTyped, call_on}
use Rattle.protocol.specs.OneChain.{Placement, Step, calls, reopens, Entry, outcome_of, accepted, makes, record_gives, records_give, step_gives, gives, StepTyped, replica_machine, reads, read_of, Premises, OnePlacement, OneChain, Demand3}
use Rattle.protocol.proofs.call.Contents.{quiet_append, record_checked}
use Rattle.protocol.proofs.call.OneCall.{core_of, call_is}
use Rattle.protocol.proofs.chain.Invariant.{Name, History, R, Passes, Sent}
use Rattle.protocol.proofs.chain.Says.{ActOf, ActIn}
use Rattle.protocol.proofs.chain.Run.{ReplicaInvariant, call_keeps, opening_establishes}

-- ---- names in the placements of a call: none is genesis
-- in what a replica made
passes_named : (m : ℕ) (c : Content) → Passes m c → (b : Placement) → In b (record_gives c) → b.name ≡ zero_name → ⊥
unfolding Proper
passes_named m (vote j v x) k b q z = q
passes_named m (commit j v x) k b q z = q
passes_named m (certificate j s) k b q z = q
passes_named m (timeout t) k b q z = q
passes_named m (proposal j v x y h s) k b (inl e) z = k.0 (sym (ap (λ (c : Placement). c.name) e) ∙ z)
passes_named m (proposal j v x y h s) k b (inr q) z = q
passes_named m (block j x y h) k b q z = k
passes_named m (release j v x h) k b q z = q

sent_named : (m : ℕ) (r : List ℕ) → Sent m r → (b : Placement) → In b (record_gives (content r)) → b.name ≡ zero_name → ⊥
sent_named m r S b p z = passes_named m S.says S.passes b (subst (λ (c : Content). In b (record_gives c)) (ap content S.is ∙ read_written S.says S.fits) p) z

-- a vote that it made is for a name
not_zero : (m : ℕ) (c : Content) → Passes m c → (v : ℕ) → read_of c ≡ is_vote v zero_name → ⊥
unfolding Proper
not_zero m (vote s u x) k v e = k (let z : x ≡ zero_name = cc in z)
not_zero m (commit s u x) k v e = let z : ◌≡◌ {A = ℕ} 0 1 = cc in absurd (omega arith)
not_zero m (certificate s c) k v e = let z : ◌≡◌ {A = ℕ} 0 1 = cc in absurd (omega arith)
not_zero m (timeout t) k v e = let z : ◌≡◌ {A = ℕ} 0 1 = cc in absurd (omega arith)
not_zero m (proposal s u x y h c) k v e = let z : ◌≡◌ {A = ℕ} 0 1 = cc in absurd (omega arith)
not_zero m (block s x y h) k v e = k
not_zero m (release s u x h) k v e = let z : ◌≡◌ {A = ℕ} 0 1 = cc in absurd (omega arith)

all_named : (m : ℕ) (l : List (List ℕ)) → ((r : List ℕ) → In r l → Sent m r) → (b : Placement) → In b (records_give l) → b.name ≡ zero_name → ⊥
all_named m [] f b p z = p
all_named m (r ∷ l) f b p z = ⊎_elim (λ q. sent_named m r (f r (inl refl)) b q z) (λ q. all_named m l (λ s k. f s (inr k)) b q z) (in_append b (record_gives (content r)) (records_give l) p)

-- in a record that is accepted
proper_named : (m : ℕ) (c : Content) → Proper m c → (b : Placement) → In b (record_gives c) → b.name ≡ zero_name → ⊥
unfolding Proper
proper_named m (vote j v x) p b q z = q
proper_named m (commit j v x) p b q z = q
proper_named m (certificate j k) p b q z = q
proper_named m (timeout t) p b q z = q
proper_named m (proposal j v x y h k) p b (inl e) z = p.0 (sym (ap (λ (c : Placement). c.name) e) ∙ z)
proper_named m (proposal j v x y h k) p b (inr q) z = q
proper_named m (block j x y h) p b (inl e) z = p (sym (ap (λ (c : Placement). c.name) e) ∙ z)
proper_named m (block j x y h) p b (inr q) z = q
proper_named m (release j v x h) p b q z = q

core_named : (s : Replica) (room : ℕ) (c : Call) (W : Work) → CallTyped c → core_of s room c ≡ accepts W → (b : Placement) → In b (step_gives (calls c)) → b.name ≡ zero_name → ⊥
unfolding core_of record_core shape_of
core_named s room (receive r c) W t e b p z =
    let W₀ = begin s in
    let j = (off_judge _ _ W).0 (record_checked by_list s room r c W e).accepted in
    let k = quiet_append (region_rules W₀ room) _ j.0 in
    let q = quiet_append (shape_rules (n W₀) r) (refusals W₀ by_list r (content r)) k.1 in
    let ok : shape_of (n W₀) r ≡ accepts tt = (off_judge (shape_rules (n W₀) r) tt tt).1 (q.0, refl) in
    proper_named (n W₀) (content r) (read_proper (n W₀) r t ok) b p z
core_named s room (timer v) W t e b p z = p
core_named s room (propose x c) W t e b p z = p

core_cases : (s : Replica) (output : List ℕ) (c : Call) → CallTyped c → (l : List Placement) (b : Placement) → (In b l → ⊥) → (core : Answer Work) → core_of s (length output) c ≡ core
    → In b (cond (accepted (outcome s output core).reply) (step_gives (calls c) ++ l) []) → b.name ≡ zero_name → ⊥
unfolding outcome
core_cases s output c t l b k (accepts W) e p z = ⊎_elim (λ q. core_named s (length output) c W t e b q z) k (in_append b (step_gives (calls c)) l p)
core_cases s output c t l b k (refuses a) e p z = p

call_named : (s : Replica) (output : List ℕ) (c : Call) → CallTyped c → (l : List Placement) (b : Placement) → (In b l → ⊥)
    → In b (cond (accepted (call_on by_list s output c).reply) (step_gives (calls c) ++ l) []) → b.name ≡ zero_name → ⊥
call_named s output c t l b k p z =
    go (core_of s (length output) c) refl (subst (λ (o : Outcome). In b (cond (accepted o.reply) (step_gives (calls c) ++ l) [])) (call_is s output c) p)
  where
    go : (core : Answer Work) → core_of s (length output) c ≡ core → In b (cond (accepted (outcome s output core).reply) (step_gives (calls c) ++ l) []) → ⊥
    go core e p = core_cases s output c t l b k core e p z

open-named : (t : Bool) (l : List Placement) (b : Placement) → (In b l → ⊥) → In b (cond t ([] ++ l) []) → ⊥
open-named true l b k p = k p
open-named false l b k p = p

-- in any call
step_named : (s : Replica) (e : Entry) → StepTyped e.step → {m : ℕ} → ((r : List ℕ) → In r (makes s e) → Sent m r) → (b : Placement) → In b (gives s e) → b.name ≡ zero_name → ⊥
unfolding gives outcome_of
step_named s e t {m} f b p z = go e.step t (λ q. all_named m (makes s e) f b q z) p
  where
    go : (st : Step) → StepTyped st → (In b (records_give (makes s e)) → ⊥)
        → (let o : Outcome = elim st [ calls c ↦ call_on by_list s e.output c | reopens f c k m own leaders ↦ opening_call s f c k m own leaders ] in In b (cond (accepted o.reply) (step_gives st ++ records_give (makes s e)) [])) → ⊥
    go (calls c) t k p = call_named s e.output c t (records_give (makes s e)) b k p z
    go (reopens f c k' m own leaders) t k p = open-named (accepted (opening_call s f c k' m own leaders).reply) (records_give (makes s e)) b k p

module _ (set : Settings) (honest : ℕ → Bool) (σ : ℕ → Replica) (run : List (ℕ × Entry)) where
  abbrev F : Log replica_machine
  F = log replica_machine σ [] run

  abbrev B : List Placement
  B = placements replica_machine σ run

  abbrev RunCluster : Cluster Name
  RunCluster = cluster replica_machine set honest reads (λ b. b.name) (λ b. b.parent) σ run

  -- the history of the run, and the full one, where every claim is true
  abbrev run_history : History
  run_history = record { honest = honest; Voted = RunCluster.Voted; Committed = RunCluster.Committed; TimedOut = RunCluster.TimedOut; Placed = λ b. In b B }

  abbrev pub full_history : History
  full_history = record { honest = honest; Voted = λ i v x. Unit {0}; Committed = λ i v x. Unit {0}; TimedOut = λ i t. Unit {0}; Placed = λ b. Unit {0} }

  act_in_run : (j : ℕ) (q : List ℕ) → In (j, q) F → ActIn run_history j q
  act_in_run j q p = go (content q) refl
    where
      go : (c : Content) → content q ≡ c → ActOf run_history j c
      go (vote k v x) e = (q, in_own replica_machine j q F p, ap read_of e)
      go (commit k v x) e = (q, in_own replica_machine j q F p, ap read_of e)
      go (certificate k s) e = tt
      go (timeout t) e = (q, in_own replica_machine j q F p, ap read_of e)
      go (proposal k v x y h s) e = tt
      go (block k x y h) e = tt
      go (release k v x h) e = tt

  pub act_in_full : (j : ℕ) (q : List ℕ) → In (j, q) F → ActIn full_history j q
  act_in_full j q p = go (content q)
    where
      go : (c : Content) → ActOf full_history j c
      go (vote k v x) = tt
      go (commit k v x) = tt
      go (certificate k s) = tt
      go (timeout t) = tt
      go (proposal k v x y h s) = tt
      go (block k x y h) = tt
      go (release k v x h) = tt

  pub full_high : HighVoted (R set full_history)
  full_high i b h t q m = tt

  module _ (leaders : List ℕ) (P : Premises set honest σ run leaders) where
    at_end : (i : ℕ) (s : Replica) → ReplicaInvariant set run_history i (made replica_machine σ run i) s → AtEnd replica_machine set honest reads (λ b. b.name) (λ b. b.parent) σ run zero_name i
    unfolding traced
    at_end i s X =
        let C = X.chained in (
          traced replica_machine set honest reads (λ b. b.name) (λ b. b.parent) σ run i X.acted.acts _ X.acted.matches X.acted.trace,
          record { vote_on = X.acted.vote_on; commit_on = X.acted.commit_on },
          ⊎_elim (λ d. rw d nothing) (λ d. up_to C.row d.1) C.direct,
          C.numbered,
        )

    -- what a machine has to show
    pub keeps : Keeps replica_machine set honest reads (λ b. b.name) (λ b. b.parent) σ run zero_name
    keeps = record {
      Own = ReplicaInvariant set full_history;
      own_open = λ i t. opening_establishes set leaders full_history i (σ i) (P.opened i t);
      own_step = call_keeps set full_history full_high F B act_in_full (λ b q. tt);
      own_end = λ i b h s X. traced replica_machine set honest reads (λ b. b.name) (λ b. b.parent) σ run i X.acted.acts _ X.acted.matches X.acted.trace;
      Backed = ReplicaInvariant set run_history;
      backed_open = λ i t. opening_establishes set leaders run_history i (σ i) (P.opened i t);
      backed_step = λ H. call_keeps set run_history H F B act_in_run (λ b q. q);
      backed_end = λ i b h s X. at_end i s X;
    }

    -- ---- no placement is of the genesis name
    all_sent : (i : ℕ) → T (honest i) → All (Sent (replicas set)) (own replica_machine i F)
    unfolding keeps
    all_sent i t =
        (by_replica replica_machine honest F B keeps.Own keeps.own_step run σ [] refl (λ b q. q) P.earlier P.allowed keeps.own_open i t).sent

    placed_named : (rest : List (ℕ × Entry)) (τ : ℕ → Replica) (L : Log replica_machine) → log replica_machine τ L rest ≡ F → AllAllowed replica_machine τ rest
        → All (λ (e : ℕ × Entry). T (honest e.0)) rest → (b : Placement) → In b (placements replica_machine τ rest) → b.name ≡ zero_name → ⊥
    unfolding All
    placed_named [] τ L e f h b p z = p
    placed_named (a ∷ rest) τ L e f h b p z =
        let s = τ a.0 in
        let new = makes s a.1 in
        ⊎_elim
        (λ q. step_named s a.1 f.0.0
        (λ r k. in_all (Sent (replicas set)) r (own replica_machine a.0 F) (all_sent a.0 h.0)
        (in_own replica_machine a.0 r F (rw (← e) (in_log replica_machine (a.0, r) (after replica_machine τ a.0 a.1) (L ++ tag replica_machine a.0 new) rest
        (in_right (a.0, r) L (tag replica_machine a.0 new) (in_tag replica_machine a.0 r new k)))))) b q z)
        (λ q. placed_named rest (after replica_machine τ a.0 a.1) (L ++ tag replica_machine a.0 new) e f.1 h.1 b q z)
        (in_append b (gives s a.1) (placements replica_machine (after replica_machine τ a.0 a.1) rest) p)

    one_parent : OnePlacement set honest σ run → OneParent RunCluster.Parent zero_name
    one_parent N = record {
      one = λ x y z p q. sym p.3 ∙ (N p.0 q.0 p.1 q.1 (p.2 ∙ sym q.2)).0 ∙ q.3;
      top = λ y p. placed_named run σ [] refl P.allowed P.on_honest p.0 p.1 p.2;
    }

    -- ---- the premises rule out the one record that would not pass 5: a commit for the zero name
    vote_named : (q : List ℕ) → Sent (replicas set) q → (v : ℕ) → reads q ≡ is_vote v zero_name → ⊥
    vote_named q S v e = not_zero (replicas set) S.says S.passes v (sym (ap read_of (ap content S.is ∙ read_written S.says S.fits)) ∙ e)

    pub no_zero_commit : (i : ℕ) → T (honest i) → (q : List ℕ) → In q (made replica_machine σ run i) → (v : ℕ) → reads q ≡ is_commit v zero_name → ⊥
    no_zero_commit i h q p v e =
        let L = run_lawful replica_machine set honest reads (λ b. b.name) (λ b. b.parent) σ run zero_name P.earlier P.allowed keeps P.enough in
        let c = (L.commit_why i (P.numbers i h) h v zero_name (q, p, e)).signed in
        let w = some_honest RunCluster L c.signers (omega (arith, c.enough, needed_honest set true)) in
        let d = c.truly w.at w.below w.honest w.inside in
        vote_named d.0 (in_all (Sent (replicas set)) d.0 (own replica_machine w.at F) (all_sent w.at w.honest) d.1) v d.2

    -- the invariant of an honest replica at the end of the run
    at_end_of : (i : ℕ) → T (honest i) → ReplicaInvariant set run_history i (made replica_machine σ run i) (end replica_machine σ run i)
    unfolding keeps
    at_end_of i h =
        by_replica replica_machine honest F B keeps.Backed (keeps.backed_step (honest_high replica_machine set honest reads (λ b. b.name) (λ b. b.parent) σ run zero_name P.earlier P.allowed keeps))
        run σ [] refl (λ b q. q) P.earlier P.allowed keeps.backed_open i h

    chain : OnePlacement set honest σ run → OneChain set honest σ run
    chain N = record {
      linked = λ i h. row_linked replica_machine set honest reads (λ b. b.name) (λ b. b.parent) σ run zero_name P.earlier P.allowed keeps i (P.numbers i h) h;
      heights = λ i h. (at_end_of i h).chained.named;
      shorter = λ i j hi hj. one_chain replica_machine set honest reads (λ b. b.name) (λ b. b.parent) σ run zero_name P.earlier P.allowed keeps P.enough (one_parent N) i (P.numbers i hi) hi j (P.numbers j hj) hj;
      same = λ i j hi hj. one_length replica_machine set honest reads (λ b. b.name) (λ b. b.parent) σ run zero_name P.earlier P.allowed keeps P.enough (one_parent N) i (P.numbers i hi) hi j (P.numbers j hj) hj;
    }

-- THE THEOREM
pub demand_3 : Demand3
demand_3 set leaders honest σ run P N = chain set honest σ run leaders P N

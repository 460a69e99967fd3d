-- Every call of a run keeps the invariant of its replica, and an accepted opening establishes it. Assumes nothing.
use Prim.Native.Nat.{ℕ, ◌≤◌}
use mathlib.Core.Bool.{Bool, true, false, cond, true≢false, false≢true}
use mathlib.Core.List.{List, [], ◌∷◌, ◌++◌, append-nil}
use mathlib.Core.Logic.{inl, inr}
use mathlib.Core.Path.{◌≡◌, refl, sym, ap, subst, ◌∙◌}
use native.Mathlib.Omega.{arith}
use lib.Dec.{T, lit<, lit≤}
use lib.ListN.{length, take, drop}
use lib.Seq.{take-append_seam}
use Rattle.settings.specs.declared.Settings.{Settings}
use Rattle.settings.specs.Answer.{Answer, accepts, refuses}
use Rattle.settings.specs.Quorum.{replicas}
use Rattle.codec.specs.Bytes.{IsBytes}
use Rattle.codec.specs.Names.{zero_name}
use Rattle.wire.specs.Encode.{joined, block_certificate_bytes, certificate_bytes}
use Rattle.wire.specs.Content.{by_block, Content, vote, commit, certificate, timeout, proposal, block, release, content}
use Rattle.wire.specs.Fit.{All, CertificateFits, CertificateProper}
use Rattle.wire.proofs.Slots.{all_impl}
use Rattle.certificate.specs.Safe.{safe_certificate}
use Rattle.blocks.specs.declared.Block.{Block}
use Rattle.memory.specs.Layout.{memory_length, own_of, entry_of}
use Rattle.memory.proofs.Apart.{Table, votes, commits, timeouts}
use Rattle.counters.specs.Counters.{opened, certificate_of}
use Rattle.safety.specs.Lists.{In}
use Rattle.safety.proofs.Lists.{in_left, in_right}
use Rattle.safety.specs.Cluster.{HighVoted, Progress}
use Rattle.safety.specs.Certificates.{cert}
use Rattle.safety.specs.Rows.{none}
use Rattle.safety.specs.Match.{start}
use Rattle.safety.specs.Trace as Trace
use Rattle.safety.specs.Run.{StepKeeps, Log}
use Rattle.memory.specs.Leaders.{by_list}
use Rattle.protocol.specs.Work.{Work, n, view_now, blocks}
use Rattle.protocol.specs.Typed.{BlockTyped}
use Rattle.protocol.specs.Refusals.{store_length}
use Rattle.protocol.specs.Calls.{Replica, begin, opening_core, opening_call, Outcome, outcome}
use Rattle.protocol.specs.OneCall.{Call, CallTyped, call_on, left}
use Rattle.protocol.specs.OneChain.{Placement, Step, calls, reopens, outcome_of, accepted, written, cut_records, makes, step_says, says, record_gives, records_give, step_gives, gives, StepTyped, Refused, replica_machine, Opened}
use Rattle.protocol.proofs.call.Typing.{zero_is_name}
use Rattle.protocol.proofs.call.Opening.{Openable, opened_work, opening_accepts, opened_settings, opened_own, opened_count, opened_entry, opened_none, opened_regular}
use Rattle.protocol.proofs.call.OneCall.{begin_regular, core_of, call_is}
use Rattle.protocol.proofs.chain.Invariant.{History, R, size, Sent, GoodBelow, Named, VoteKept, CommitKept, TimeoutKept, Invariant}
use Rattle.protocol.proofs.chain.Tables.{HoldsIn}
use Rattle.protocol.proofs.chain.Formed.{pow_positive}
use Rattle.protocol.proofs.chain.Progress.{RecordOf, RecordIn}
use Rattle.protocol.proofs.chain.Says.{ActOf, ActIn, Says}
use Rattle.protocol.proofs.chain.Call.{cut_joined, core_sound}

-- the invariant of a replica between calls
abbrev pub ReplicaInvariant : Settings → History → ℕ → List (List ℕ) → Replica → Type 0
ReplicaInvariant set w i l r = Invariant set w i (view_now (begin r)) (begin r) l

-- what was written is no part of it
pub forget_out : (set : Settings) (w : History) (i : ℕ) (l : List (List ℕ)) (W : Work) → Invariant set w i (view_now W) W l
    → ReplicaInvariant set w i l (record { counters = W.counters; memory = W.memory; store = W.store })
forget_out set w i l W X = record {
  regular = begin_regular W X.regular;
  set_is = X.set_is;
  mine = X.mine;
  sent = X.sent;
  acted = X.acted;
  certified = X.certified;
  tables = X.tables;
  chained = X.chained;
}

-- ---- lists
all_of_in : {A : Type 0} (P : A → Type 0) (l : List A) → ((a : A) → In a l → P a) → All P l
unfolding All
all_of_in P [] f = tt
all_of_in P (a ∷ l) f = (f a (inl refl), all_of_in P l (λ b p. f b (inr p)))

gives_in : (l : List (List ℕ)) (r : List ℕ) (b : Placement) → In r l → In b (record_gives (content r)) → In b (records_give l)
gives_in [] r b p q = absurd p
gives_in (s ∷ l) r b (inl e) q = in_left b (record_gives (content s)) (records_give l) (rw e at q)
gives_in (s ∷ l) r b (inr p) q = in_right b (record_gives (content s)) (records_give l) (gives_in l r b p q)

-- ---- one call of a run
module _ (set : Settings) (w : History) (H : HighVoted (R set w)) (F : Log replica_machine) (B : List Placement)
    (acted : (j : ℕ) (q : List ℕ) → In (j, q) F → ActIn w j q) (placed : (b : Placement) → In b B → w.Placed b) where
  -- what a replica made in the run, and which placements it gave, shows what the record says
  recorded : (i : ℕ) (q : List ℕ) → In (i, q) F → ((b : Placement) → In b (record_gives (content q)) → In b B) → RecordIn w i q
  recorded i q p g = go (content q) (acted i q p) g
    where
      go : (c : Content) → ActOf w i c → ((b : Placement) → In b (record_gives c) → In b B) → RecordOf w i c
      go (vote j v x) t g = t
      go (commit j v x) t g = t
      go (certificate j k) t g = tt
      go (timeout s) t g = t
      go (proposal j v x y h k) t g = placed (record { name = x; parent = y; height = h }) (g (record { name = x; parent = y; height = h }) (inl refl))
      go (block j x y h) t g = tt
      go (release j v x h) t g = tt

  abbrev cut_of : Outcome → List (List ℕ)
  cut_of o = cut_records (length (written o)) (written o)

  module _ (i : ℕ) (l : List (List ℕ)) (s : Replica) (K : ReplicaInvariant set w i l s) where
    -- what is to be shown of an outcome of the step st
    abbrev Goal : Step → Outcome → Type 0
    Goal st o = (T (accepted o.reply) → All (λ (a : ℕ × List ℕ). T (w.honest a.0) → In a F) (step_says (n (begin s)) st))
        → ((q : List ℕ) → In q (cut_of o) → In (i, q) F)
        → ((b : Placement) → In b (cond (accepted o.reply) (step_gives st ++ records_give (cut_of o)) []) → In b B)
        → ReplicaInvariant set w i (l ++ cut_of o) (left o)

    accepted_goal : (c : Call) (output : List ℕ) (W : Work) → CallTyped c → core_of s (length output) c ≡ accepts W → Goal (calls c) (outcome s output (accepts W))
    unfolding outcome written
    accepted_goal c output W t e says made gave =
        let cut_is : take (length W.out) (W.out ++ drop (length W.out) output) ≡ W.out = take-append_seam W.out (drop (length W.out) output) in
        let said : Says w (step_says (n (begin s)) (calls c)) = all_impl _ _ (step_says (n (begin s)) (calls c)) (λ a f h. acted a.0 a.1 (f h)) (says tt) in
        let placed-all : All w.Placed (step_gives (calls c)) = all_of_in w.Placed (step_gives (calls c)) (λ b p. placed b (gave b (in_left b (step_gives (calls c)) (records_give (cut_of (outcome s output (accepts W)))) p))) in
        let S = core_sound set w H i l s K c (length output) W t e said placed-all in
        let same : cut_records (length W.out) W.out ≡ S.made = ap (λ (o : List ℕ). cut_records (length o) o) S.out_is ∙ cut_joined S.made S.framed (length (joined S.made)) (omega arith) in
        let whole : cut_of (outcome s output (accepts W)) ≡ S.made = ap (λ (o : List ℕ). cut_records (length o) o) cut_is ∙ same in
        let seen : All (RecordIn w i) S.made = all_of_in (RecordIn w i) S.made (λ q p.
        let q-in : In q (cut_of (outcome s output (accepts W))) = subst (In q) (sym whole) p in
        recorded i q (made q q-in) (λ b g. gave b (in_right b (step_gives (calls c)) (records_give (cut_of (outcome s output (accepts W)))) (gives_in (cut_of (outcome s output (accepts W))) q b q-in g)))) in
        subst (λ (m : List (List ℕ)). ReplicaInvariant set w i (l ++ m) (record { counters = W.counters; memory = W.memory; store = W.store })) (sym whole) (forget_out set w i (l ++ S.made) W (S.invariant seen))

    refused_goal : (st : Step) (output : List ℕ) (a : ℕ) → Goal st (outcome s output (refuses a))
    unfolding outcome written cut_records
    refused_goal st output a says made gave = rw append-nil K

    not_opened : (st : Step) (core : Answer Work) → accepted (outcome s [] core).reply ≡ false → Goal st (outcome s [] core)
    unfolding outcome
    not_opened st (accepts W) e = absurd (true≢false e)
    not_opened st (refuses a) e = refused_goal st [] a

    call_goal : (c : Call) (output : List ℕ) → CallTyped c → Goal (calls c) (call_on by_list s output c)
    call_goal c output t = subst (Goal (calls c)) (sym (call_is s output c)) (go (core_of s (length output) c) refl)
      where
        go : (core : Answer Work) → core_of s (length output) c ≡ core → Goal (calls c) (outcome s output core)
        go (accepts W) e = accepted_goal c output W t e
        go (refuses a) e = refused_goal (calls c) output a

    open-goal : (f c k m own : ℕ) (leaders : List ℕ) → accepted (opening_call s f c k m own leaders).reply ≡ false → Goal (reopens f c k m own leaders) (opening_call s f c k m own leaders)
    unfolding opening_call
    open-goal f c k m own leaders e = not_opened (reopens f c k m own leaders) (opening_core s f c k m own leaders) e

  -- EVERY CALL OF A RUN KEEPS THE INVARIANT
  pub call_keeps : StepKeeps replica_machine w.honest F B (ReplicaInvariant set w)
  unfolding outcome_of makes says gives
  call_keeps i t l s e ok K = go e.step ok.0 ok.1
    where
      go : (st : Step) → StepTyped st → Refused st s → (let o : Outcome = elim st [ calls c ↦ call_on by_list s e.output c | reopens f c k m own leaders ↦ opening_call s f c k m own leaders ] in Goal i l s K st o)
      go (calls c) typed r = call_goal i l s K c e.output typed
      go (reopens f c k m own leaders) typed r = open-goal i l s K f c k m own leaders r

-- ---- WHAT AN ACCEPTED OPENING LEAVES
module _ (set : Settings) (w : History) (i : ℕ) (m : List ℕ) (st : List Block) (leaders : List ℕ) (o : Openable set i leaders) (bytes : IsBytes m) (typed : All BlockTyped st) (long : memory_length ≤ length m) (room : store_length ≤ length st) where
  abbrev W₀ : Work
  W₀ = opened_work m st set i leaders

  genesis_good : (b : Bool) → GoodBelow set w 1 (certificate_of b (record { view = record { 0 = 0 }; name = zero_name; signers = 0 }))
  unfolding certificate_of
  genesis_good b = record { good = inl refl; below = omega arith; signers = pow_positive (size set w) }

  -- no row has an entry
  nothing_kept : (P : ℕ → ℕ → List ℕ → Type 0) (t : Table) → HoldsIn (size set w) t P 1 W₀.memory
  nothing_kept P t v j a l is = absurd (false≢true (sym (opened_none m set i leaders o long t v j) ∙ is))

  no_blocks : blocks W₀ ≡ []
  no_blocks = rw (opened_count m set i leaders o long)

  fits₀ : CertificateFits (by_block 0 zero_name 0)
  unfolding CertificateFits
  fits₀ = (lit< tt, zero_is_name, lit< tt)

  proper₀ : CertificateProper (size set w) (by_block 0 zero_name 0)
  unfolding CertificateProper
  proper₀ = pow_positive (size set w)

  backed₀ : Progress (R set w) 0 (cert (safe_certificate set (by_block 0 zero_name 0)))
  unfolding safe_certificate
  backed₀ = inl (refl, refl, inl refl)

  entry₀_is : entry_of W₀.memory ≡ certificate_bytes (own_of W₀.memory) (by_block 0 zero_name 0)
  unfolding certificate_bytes
  entry₀_is = opened_entry m set i leaders o long ∙ ap (λ (j : ℕ). block_certificate_bytes j 0 zero_name 0) (sym (opened_own m set i leaders o long))

  nothing_named : All (Named set w) []
  unfolding All
  nothing_named = tt

  nothing_sent : All (Sent (size set w)) []
  unfolding All
  nothing_sent = tt

  pub opened_invariant : Invariant set w i 1 W₀ []
  unfolding opened
  opened_invariant = record {
    regular = opened_regular m st set i leaders o bytes typed long room;
    set_is = opened_settings m set i leaders o long;
    mine = opened_own m set i leaders o long;
    sent = nothing_sent;
    acted = record { acts = []; matches = start; trace = Trace.opened refl refl; vote_on = λ v x c p. absurd p; commit_on = λ v x p. absurd p };
    certified = record {
      view_le = omega arith;
      limit_le = lit≤ tt;
      high_le = omega arith;
      high_named = λ e. refl;
      high_viewed = λ e. refl;
      lock = genesis_good true;
      weak = genesis_good false;
      before = 0;
      view_is = refl;
      entered = record { says = by_block 0 zero_name 0; is = entry₀_is; fits = fits₀; proper = proper₀; of_view = refl; progress = backed₀ };
    };
    tables = record { votes_true = nothing_kept (VoteKept set w) votes; commits_true = nothing_kept (CommitKept set w) commits; timeouts_fine = nothing_kept (TimeoutKept set w) timeouts };
    chained = rw no_blocks (record {
      row = none;
      direct = inl refl;
      numbered = refl;
      tip_height = refl;
      named = nothing_named;
      tip_le = omega arith;
      stored = λ b p. absurd p;
      single = λ a b p q e. absurd p;
      tip_apart = λ b p e. p;
    });
  }

-- the state of an opened replica
pub opening_establishes : (set : Settings) (leaders : List ℕ) (w : History) (i : ℕ) (r : Replica) → Opened set leaders i r → ReplicaInvariant set w i [] r
unfolding opened
opening_establishes set leaders w i r O =
    let A = opening_accepts O.lent set.f set.c set.k (replicas set) i leaders O.work O.opens in
    let X = opened_invariant set w i O.lent.memory O.lent.store leaders A.openable O.memory O.store A.memory A.store in
    let is : r ≡ record { counters = opened; memory = (opened_work O.lent.memory O.lent.store set i leaders).memory; store = O.lent.store } =
    O.leaves ∙ ap (λ (W : Work). let s : Replica = record { counters = W.counters; memory = W.memory; store = W.store } in s) A.left in
    subst (ReplicaInvariant set w i []) (sym is) X

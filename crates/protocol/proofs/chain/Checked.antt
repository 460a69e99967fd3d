-- DEMAND 3 WHERE ALL BLOCKS ARE CHECKED (02, 2.5): a placement of the run is that of a block that an accepted call took, since only propose makes a kind 7; and the name
-- of a block that was taken with contents is their digest. So two placements of one name have triples of one digest, and 01's premise on names follows. Assumes nothing.
use Prim.Native.Nat.{ℕ}
use mathlib.Core.Bool.{Bool, cond, true≢false}
use mathlib.Core.List.{List, [], ◌∷◌, ◌++◌, append-nil}
use mathlib.Core.Logic.{inl, inr, ⊎_elim}
use mathlib.Core.Path.{◌≡◌, refl, sym, ap, subst, ◌∙◌}
use borrow.Author.Tests.{not-false}
use lib.Dec.{T, eqb}
use lib.ListN.{length}
use Rattle.settings.specs.declared.Settings.{Settings}
use Rattle.settings.specs.Answer.{Answer, accepts, refuses}
use Rattle.codec.proofs.Order.{same_eq}
use Rattle.digest.specs.Name.{name_of}
use Rattle.wire.specs.Content.{Content, vote, commit, certificate, timeout, proposal, block, release, content}
use Rattle.wire.specs.Fit.{All}
use Rattle.wire.proofs.Facts.{Quiet}
use Rattle.blocks.specs.declared.Block.{Block}
use Rattle.memory.specs.Leaders.{by_list}
use Rattle.safety.specs.Lists.{In}
use Rattle.safety.specs.Run.{AllAllowed, after, gathered, placements}
use Rattle.safety.proofs.Lists.{in_left, in_right, in_append, in_all}
use Rattle.protocol.specs.Work.{Work}
use Rattle.protocol.specs.Refusals.{child, next_block}
use Rattle.protocol.specs.Contents.{Contents, none, given, digest_rule, record_digest_rule}
use Rattle.protocol.specs.Calls.{Replica, begin, opening_call, Outcome, outcome}
use Rattle.protocol.specs.OneCall.{Call, receive, timer, propose, CallTyped, call_on, left}
use Rattle.protocol.specs.OneChain.{Step, calls, reopens, Entry, outcome_of, accepted, written, cut_records, makes, Placement, record_gives, records_give, step_gives, gives, beside, own_placement, step_takes, takes, Triple, digest_of, triple_of, triples_of, Given, StepTyped, Refused, replica_machine, Premises, OnePlacement, OneDigest, Demand3Checked}
use Rattle.protocol.proofs.Branch.{by_cases}
use Rattle.protocol.proofs.call.Contents.{record_checked, propose_checked}
use Rattle.protocol.proofs.call.OneCall.{RegularReplica, core_of, call_is, call_keeps, opening_refused}
use Rattle.protocol.proofs.call.Whole.{single_history}
use Rattle.protocol.proofs.call.Making.{cut, record_places_none, timer_places_none, propose_places_one}
use Rattle.protocol.proofs.chain.Call.{written_out}
use Rattle.protocol.proofs.chain.Run.{opening_establishes}
use Rattle.protocol.proofs.chain.Demand3.{demand_3}

-- ---- a block's name is the digest of what it came with, if it came with anything
abbrev Named : Placement × Contents → Type 0
Named (b, none) = Unit {0}
Named (b, given s) = b.name ≡ name_of b.parent b.height s

rule_named : (b : Block) (c : Contents) → Quiet (digest_rule b c) → Named (own_placement b, c)
rule_named b none q = tt
rule_named b (given s) q = same_eq _ _ (not-false _ q.0)

only_named : (b : Placement) (c : Contents) → Named (b, c) → (p : Placement × Contents) → In p ((b, c) ∷ []) → Named p
only_named b c h p (inl e) = subst Named (sym e) h
only_named b c h p (inr q) = absurd q

record_named : (W : Work) (q : Content) (c : Contents) → Quiet (record_digest_rule W q c) → (p : Placement × Contents) → In p (beside c (record_gives q)) → Named p
record_named W (vote j v x) c h p i = absurd i
record_named W (commit j v x) c h p i = absurd i
record_named W (certificate j k) c h p i = absurd i
record_named W (timeout t) c h p i = absurd i
record_named W (proposal j v x y g k) c h p i = only_named _ c (rule_named (child W x y g) c h) p i
record_named W (block j x y g) c h p i = only_named _ c (rule_named (child W x y g) c h) p i
record_named W (release j v x g) c h p i = absurd i

-- ---- one accepted call
taken_named : (s : Replica) (room : ℕ) (c : Call) (W : Work) → core_of s room c ≡ accepts W → (p : Placement × Contents) → In p (step_takes s (calls c)) → Named p
unfolding core_of
taken_named s room (receive b c) W e p i = record_named (begin s) (content b) c (record_checked by_list s room b c W e).named p i
taken_named s room (timer v) W e p i = absurd i
taken_named s room (propose x c) W e p i = only_named _ c (rule_named _ c (propose_checked by_list s room x c W e).named) p i

in-beside : (c : Contents) (b : Placement) (l : List Placement) → In b l → In (b, c) (beside c l)
in-beside c b [] i = i
in-beside c b (a ∷ l) (inl e) = inl (ap (λ (z : Placement). (z, c)) e)
in-beside c b (a ∷ l) (inr i) = inr (in-beside c b l i)

-- what it gives as placements, in the record that it accepts and in those that it makes, it took
given_taken : (s : Replica) → RegularReplica s → (room : ℕ) (c : Call) (W : Work) → CallTyped c → core_of s room c ≡ accepts W
    → (b : Placement) → In b (step_gives (calls c) ++ records_give (cut W)) → (k : Contents) × In (b, k) (step_takes s (calls c))
unfolding core_of
given_taken s R room (receive r c) W t e b i =
    let made = record_places_none s room r W R t (record_checked by_list s room r c W e).accepted in
    (c, in-beside c b (record_gives (content r)) (rw (made, append-nil) at i))
given_taken s R room (timer v) W t e b i = absurd (rw (timer_places_none s room v W R t e) at i)
given_taken s R room (propose x c) W t e b i =
    let made = propose_places_one s room x W R t (propose_checked by_list s room x c W e).accepted in
    (c, in-beside c b (own_placement (next_block (begin s) x) ∷ []) (rw made at i))

-- ---- one entry of a run
pub record Taken (l : List (Placement × Contents)) (b : Placement) : Type 0 where
  pub contents : Contents
  pub taken : In (b, contents) l
  pub named : Named (b, contents)

abbrev cut_of : Outcome → List (List ℕ)
cut_of o = cut_records (length (written o)) (written o)

module _ (s : Replica) (R : RegularReplica s) (b : Placement) where
  -- of an outcome of the step
  abbrev Shown : Step → Outcome → Type 0
  Shown st o = In b (cond (accepted o.reply) (step_gives st ++ records_give (cut_of o)) []) → Taken (cond (accepted o.reply) (step_takes s st) []) b

  accepted_shown : (c : Call) (output : List ℕ) (W : Work) → CallTyped c → core_of s (length output) c ≡ accepts W → Shown (calls c) (outcome s output (accepts W))
  unfolding outcome
  accepted_shown c output W t e i =
      let j : In b (step_gives (calls c) ++ records_give (cut W)) = subst (λ (o : List ℕ). In b (step_gives (calls c) ++ records_give (cut_records (length o) o))) (written_out s output W) i in
      let k = given_taken s R (length output) c W t e b j in
      record { contents = k.0; taken = k.1; named = taken_named s (length output) c W e (b, k.0) k.1 }

  refused_shown : (st : Step) (output : List ℕ) (a : ℕ) → Shown st (outcome s output (refuses a))
  unfolding outcome
  refused_shown st output a i = absurd i

  call_shown : (c : Call) (output : List ℕ) → CallTyped c → Shown (calls c) (call_on by_list s output c)
  call_shown c output t = subst (Shown (calls c)) (sym (call_is s output c)) (go (core_of s (length output) c) refl)
    where
      go : (core : Answer Work) → core_of s (length output) c ≡ core → Shown (calls c) (outcome s output core)
      go (accepts W) e = accepted_shown c output W t e
      go (refuses a) e = refused_shown (calls c) output a

  entry_shown : (e : Entry) → StepTyped e.step → Refused e.step s → In b (gives s e) → Taken (takes s e) b
  unfolding gives takes makes outcome_of
  entry_shown e t r = go e.step t r
    where
      go : (st : Step) → StepTyped st → Refused st s → (let o : Outcome = elim st [ calls c ↦ call_on by_list s e.output c | reopens f c k m own leaders ↦ opening_call s f c k m own leaders ] in Shown st o)
      go (calls c) t r = call_shown c e.output t
      go (reopens f c k m own leaders) t r = λ i. absurd (rw r at i)

-- a replica stays regular, whatever the entry
entry_keeps : (s : Replica) (e : Entry) → StepTyped e.step → Refused e.step s → RegularReplica s → RegularReplica (left (outcome_of s e))
unfolding outcome_of
entry_keeps s e t r R = go e.step t r
  where
    go : (st : Step) → StepTyped st → Refused st s → RegularReplica (left (elim st [ calls c ↦ call_on by_list s e.output c | reopens f c k m own leaders ↦ opening_call s f c k m own leaders ]))
    go (calls c) t r = call_keeps s e.output c t R
    go (reopens f c k m own leaders) t r = by_reply (opening_call s f c k m own leaders).reply refl
      where
        by_reply : (a : Answer ℕ) → (opening_call s f c k m own leaders).reply ≡ a → RegularReplica (left (opening_call s f c k m own leaders))
        by_reply (accepts k) e = absurd (true≢false (sym (ap accepted e) ∙ r))
        by_reply (refuses a) e = subst RegularReplica (sym (opening_refused s f c k m own leaders a e).replica) R

-- ---- the run
in-triples : (b : Placement) (s : List ℕ) (l : List (Placement × Contents)) → In (b, given s) l → In (record { parent = b.parent; height = b.height; contents = s }) (triples_of l)
in-triples b s [] i = i
in-triples b s (p ∷ l) (inl e) =
    let t : Triple = record { parent = b.parent; height = b.height; contents = s } in
    in_left t (triple_of p) (triples_of l) (subst (λ (z : Placement × Contents). In t (triple_of z)) e (inl refl))
in-triples b s (p ∷ l) (inr i) = in_right _ (triple_of p) (triples_of l) (in-triples b s l i)

module _ (set : Settings) (leaders : List ℕ) (honest : ℕ → Bool) where
  all_taken : (run : List (ℕ × Entry)) (τ : ℕ → Replica) → ((i : ℕ) → T (honest i) → RegularReplica (τ i)) → AllAllowed replica_machine τ run
      → All (λ (e : ℕ × Entry). T (honest e.0)) run → (b : Placement) → In b (placements replica_machine τ run) → Taken (gathered replica_machine takes τ run) b
  unfolding All
  all_taken [] τ R f h b i = absurd i
  all_taken (a ∷ run) τ R f h b i =
      let s = τ a.0 in
      let next = after replica_machine τ a.0 a.1 in
      let kept : (j : ℕ) → T (honest j) → RegularReplica (next j) = λ j t. by_cases RegularReplica (eqb a.0 j) _ _ (λ e. entry_keeps s a.1 f.0.0 f.0.1 (R a.0 h.0)) (λ e. R j t) in
      ⊎_elim
      (λ p. let k = entry_shown s (R a.0 h.0) b a.1 f.0.0 f.0.1 p in record { contents = k.contents; taken = in_left _ (takes s a.1) _ k.taken; named = k.named })
      (λ p. let k = all_taken run next kept f.1 h.1 b p in record { contents = k.contents; taken = in_right _ (takes s a.1) _ k.taken; named = k.named })
      (in_append b (gives s a.1) (placements replica_machine next run) i)

  module _ (σ : ℕ → Replica) (run : List (ℕ × Entry)) (P : Premises set honest σ run leaders) (D : OneDigest set honest σ run) where
    -- the triple of a placement of the run, whose digest is the name
    pub record Tripled (b : Placement) : Type 0 where
      pub triple : Triple
      pub among : In triple (triples_of (gathered replica_machine takes σ run))
      pub digest : b.name ≡ digest_of triple
      pub parent : triple.parent ≡ b.parent
      pub height : triple.height ≡ b.height

    tripled : (b : Placement) → In b (placements replica_machine σ run) → Tripled b
    tripled b i = let t = all_taken run σ (λ j h. (opening_establishes set leaders single_history j (σ j) (P.opened j h)).regular) P.allowed P.on_honest b i in go t.contents t.taken t.named
      where
        go : (c : Contents) → In (b, c) (gathered replica_machine takes σ run) → Named (b, c) → Tripled b
        go none i n = absurd (in_all Given (b, none) (gathered replica_machine takes σ run) D.checked i)
        go (given s) i n = record { triple = record { parent = b.parent; height = b.height; contents = s }; among = in-triples b s (gathered replica_machine takes σ run) i; digest = n; parent = refl; height = refl }

    -- 01's PREMISE ON NAMES
    pub one_placement : OnePlacement set honest σ run
    one_placement a b p q e =
        let s = tripled a p in
        let t = tripled b q in
        let same = D.one_triple s.triple t.triple s.among t.among (sym s.digest ∙ e ∙ t.digest) in
        (sym s.parent ∙ ap (λ (x : Triple). x.parent) same ∙ t.parent, sym s.height ∙ ap (λ (x : Triple). x.height) same ∙ t.height)

-- THE THEOREM
pub demand_3_checked : Demand3Checked
demand_3_checked set leaders honest σ run P D = demand_3 set leaders honest σ run P (one_placement set leaders honest σ run P D)

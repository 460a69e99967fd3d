-- What a call writes is a row of whole records, from every state that an opening and calls left; and what holds of one replica on any input, with no premise on
-- records. Assumes nothing.
use Prim.Native.Nat.{ℕ}
use mathlib.Core.Bool.{true, false}
use mathlib.Core.List.{List, [], ◌∷◌, ◌++◌, append-nil}
use mathlib.Core.Logic.{◌⊎◌, inl, inr}
use mathlib.Core.Path.{◌≡◌, refl, sym, ap, subst, ◌∙◌}
use lib.ListN.{length, drop}
use lib.Seq.{take-append_seam}
use Rattle.settings.specs.declared.Settings.{Settings}
use Rattle.settings.specs.Answer.{Answer, accepts, refuses}
use Rattle.settings.specs.Quorum.{replicas}
use Rattle.wire.specs.Encode.{encode, joined}
use Rattle.wire.specs.Content.{Content, vote, commit, certificate, timeout, proposal, block, release, content}
use Rattle.wire.specs.Shape.{shape_of, release_shape}
use Rattle.wire.specs.Fit.{All, Fits}
use Rattle.wire.proofs.Slots.{all_impl}
use Rattle.wire.proofs.ReadBack.{read_written, shape_written, release_written}
use Rattle.safety.specs.Cluster.{HighVoted}
use Rattle.blocks.specs.declared.Block.{Block}
use Rattle.blocks.specs.Store.{descends}
use Rattle.blocks.proofs.Linked.{In}
use Rattle.memory.specs.Leaders.{by_list}
use Rattle.protocol.specs.Work.{Work, n, tip, blocks}
use Rattle.protocol.specs.Calls.{Replica, begin, Outcome, outcome}
use Rattle.protocol.specs.OneCall.{Call, CallTyped, call_on, left, Handing, HandingTyped, after}
use Rattle.protocol.specs.Whole.{ZeroCommit, WholeRecord}
use Rattle.protocol.specs.OneChain.{calls, written, step_says, step_gives, Opened}
use Rattle.protocol.proofs.call.OneCall.{core_of, call_is}
use Rattle.protocol.proofs.chain.Invariant.{History, R, Passes, Sent}
use Rattle.protocol.proofs.chain.Store.{stored_descends}
use Rattle.protocol.proofs.chain.Progress.{RecordOf, RecordIn, all_right}
use Rattle.protocol.proofs.chain.Call.{core_sound}
use Rattle.protocol.proofs.chain.Run.{ReplicaInvariant, forget_out, opening_establishes}

-- ---- a record that a replica sends is whole
whole : (m : ℕ) (r : List ℕ) → Sent m r → WholeRecord m r
whole m r S = record {
  says = S.says;
  is = S.is;
  reads = ap content S.is ∙ read_written S.says S.fits;
  passes = subst (λ (s : List ℕ). (shape_of m s ≡ accepts tt) ⊎ ((release_shape s ≡ accepts tt) ⊎ ZeroCommit S.says)) (sym S.is) (by_kind S.says S.fits S.passes);
}
  where
    by_kind : (c : Content) → Fits c → Passes m c → (shape_of m (encode c) ≡ accepts tt) ⊎ ((release_shape (encode c) ≡ accepts tt) ⊎ ZeroCommit c)
    by_kind (vote s v x) f p = inl (shape_written m (vote s v x) f p)
    by_kind (commit s v x) f (inl p) = inl (shape_written m (commit s v x) f p)
    by_kind (commit s v x) f (inr p) = inr (inr p)
    by_kind (certificate s k) f p = inl (shape_written m (certificate s k) f p)
    by_kind (timeout t) f p = inl (shape_written m (timeout t) f p)
    by_kind (proposal s v x y h k) f p = inl (shape_written m (proposal s v x y h k) f p)
    by_kind (block s x y h) f p = absurd p
    by_kind (release s v x h) f p = inr (inl (release_written s v x h f))

-- ---- one replica by itself: no replica counts as honest and every claim is true, so that nothing is asked of records
abbrev pub single_history : History
single_history = record { honest = λ j. false; Voted = λ i v x. Unit {0}; Committed = λ i v x. Unit {0}; TimedOut = λ i t. Unit {0}; Placed = λ b. Unit {0} }

single_high : (set : Settings) → HighVoted (R set single_history)
single_high set i b h t q m = tt

all_free : {A : Type 0} (P : A → Type 0) (l : List A) → ((a : A) → P a) → All P l
unfolding All
all_free P [] f = tt
all_free P (a ∷ l) f = (f a, all_free P l f)

single_record_in : (i : ℕ) (r : List ℕ) → RecordIn single_history i r
single_record_in i r = go (content r)
  where
    go : (c : Content) → RecordOf single_history i c
    go (vote j v x) = tt
    go (commit j v x) = tt
    go (certificate j k) = tt
    go (timeout t) = tt
    go (proposal j v x y h k) = tt
    go (block j x y h) = tt
    go (release j v x h) = tt

module _ (set : Settings) (i : ℕ) where
  -- a call: the records that it writes, and what it keeps
  pub record Wrote (l : List (List ℕ)) (o : Outcome) : Type 0 where
    pub made : List (List ℕ)
    pub is : written o ≡ joined made
    pub sent : All (Sent (replicas set)) made
    pub keeping : ReplicaInvariant set single_history i (l ++ made) (left o)

  single_core : (l : List (List ℕ)) (r : Replica) (output : List ℕ) (c : Call) → CallTyped c → ReplicaInvariant set single_history i l r → (core : Answer Work) → core_of r (length output) c ≡ core
      → Wrote l (outcome r output core)
  unfolding outcome written joined All
  single_core l r output c t K (accepts W) e =
      let S = core_sound set single_history (single_high set) i l r K c (length output) W t e (all_free _ (step_says (n (begin r)) (calls c)) (λ a f. absurd f)) (all_free _ (step_gives (calls c)) (λ b. tt)) in
      let X = S.invariant (all_free (RecordIn single_history i) S.made (single_record_in i)) in
      record {
        made = S.made;
        is = take-append_seam W.out (drop (length W.out) output) ∙ S.out_is;
        sent = all_right (Sent (replicas set)) l S.made X.sent;
        keeping = forget_out set single_history i (l ++ S.made) W X;
      }
  single_core l r output c t K (refuses a) e = record { made = []; is = refl; sent = tt; keeping = rw append-nil K }

  pub single_call : (l : List (List ℕ)) (r : Replica) (output : List ℕ) (c : Call) → CallTyped c → ReplicaInvariant set single_history i l r → Wrote l (call_on by_list r output c)
  single_call l r output c t K = subst (Wrote l) (sym (call_is r output c)) (single_core l r output c t K (core_of r (length output) c) refl)

  -- a list of calls
  pub single_calls : (l : List (List ℕ)) (r : Replica) (ts : List Handing) → All HandingTyped ts → ReplicaInvariant set single_history i l r → (m : List (List ℕ)) × ReplicaInvariant set single_history i m (after by_list r ts)
  unfolding All after
  single_calls l r [] h K = (l, K)
  single_calls l r (t ∷ ts) h K =
      let W = single_call l r t.output t.call h.0 K in
      single_calls (l ++ W.made) (left (call_on by_list r t.output t.call)) ts h.1 W.keeping

  -- WHAT HOLDS OF A REPLICA that was opened as number i, on any list of calls
  pub always : (leaders : List ℕ) (r : Replica) → Opened set leaders i r → (ts : List Handing) → All HandingTyped ts → (m : List (List ℕ)) × ReplicaInvariant set single_history i m (after by_list r ts)
  always leaders r O ts h = single_calls [] r ts h (opening_establishes set leaders single_history i r O)

  -- so rule D's test that a held block leads to the tip always passes: what is held and isn't the tip descends from it
  pub always_leads : (leaders : List ℕ) (r : Replica) → Opened set leaders i r → (ts : List Handing) → All HandingTyped ts → (b : Block) → In b (blocks (begin (after by_list r ts)))
      → descends (tip (begin (after by_list r ts))) (blocks (begin (after by_list r ts))) b ≡ true
  always_leads leaders r O ts h b p =
      let K = always leaders r O ts h in
      let W = begin (after by_list r ts) in
      stored_descends set single_history K.0 (tip W) (blocks W) K.1.chained b p

  -- WHAT A CALL WRITES: whole records one after another
  pub writes_whole : (leaders : List ℕ) (r : Replica) → Opened set leaders i r → (ts : List Handing) → All HandingTyped ts → (output : List ℕ) (c : Call) → CallTyped c
      → (l : List (List ℕ)) × (written (call_on by_list (after by_list r ts) output c) ≡ joined l) × All (WholeRecord (replicas set)) l
  writes_whole leaders r O ts h output c t =
      let K = always leaders r O ts h in
      let W = single_call K.0 (after by_list r ts) output c t K.1 in
      (W.made, W.is, all_impl _ _ W.made (λ q s. whole (replicas set) q s) W.sent)

-- A whole call keeps the invariant: an accepted one by its event and the rules, and what it made is what is cut from the bytes that it wrote. Assumes nothing.
use Prim.Native.Nat.{ℕ, zero, suc, ◌≤◌}
use mathlib.Core.List.{List, [], ◌∷◌, ◌++◌, append-nil}
use mathlib.Core.Path.{◌≡◌, refl, ap, subst, ◌∙◌}
use native.Mathlib.Omega.{arith}
use lib.ListN.{length, drop, length-append}
use lib.Seq.{take-append_seam, drop-append_seam}
use Rattle.settings.specs.declared.Settings.{Settings}
use Rattle.settings.specs.Answer.{accepts}
use Rattle.codec.specs.Bytes.{part}
use Rattle.wire.specs.Fields.{length_of}
use Rattle.wire.specs.Encode.{joined}
use Rattle.wire.specs.Content.{content}
use Rattle.wire.specs.Shape.{shape_rules, shape_of}
use Rattle.wire.specs.Fit.{All}
use Rattle.wire.proofs.Facts.{Framed, off_judge}
use Rattle.wire.proofs.ReadBack.{written_read, read_fits, read_proper}
use Rattle.safety.specs.Cluster.{HighVoted}
use Rattle.memory.specs.Leaders.{by_list}
use Rattle.protocol.specs.Work.{Work, n, view_now}
use Rattle.protocol.specs.Refusals.{region_rules, refusals}
use Rattle.protocol.specs.Events.{on_record, on_timer, on_propose}
use Rattle.protocol.specs.Rules.{settle}
use Rattle.protocol.specs.Calls.{Replica, begin, record_core, timer_core, propose_core, outcome}
use Rattle.protocol.specs.OneCall.{Call, receive, timer, propose, CallTyped}
use Rattle.protocol.specs.OneChain.{calls, written, step_says, step_gives, cut_records}
use Rattle.protocol.proofs.call.Regular.{Regular}
use Rattle.protocol.proofs.call.Events.{record_done, timer_done, propose_done}
use Rattle.protocol.proofs.call.Contents.{quiet_append, record_checked, propose_checked}
use Rattle.protocol.proofs.call.OneCall.{core_of}
use Rattle.protocol.proofs.chain.Invariant.{History, R, Invariant}
use Rattle.protocol.proofs.chain.Progress.{Sound}
use Rattle.protocol.proofs.chain.Says.{Says}
use Rattle.protocol.proofs.chain.Rules.{settle_sound}
use Rattle.protocol.proofs.chain.OnRecord.{by_kind}
use Rattle.protocol.proofs.chain.OnTimerPropose.{timer_sound, propose_sound}

-- ---- whole records one after another are cut where they end
first_length : (r rest : List ℕ) → 4 ≤ length r → length_of (r ++ rest) ≡ length_of r
unfolding part
first_length [] rest h = absurd (omega arith)
first_length (a ∷ []) rest h = absurd (omega arith)
first_length (a ∷ b ∷ []) rest h = absurd (omega arith)
first_length (a ∷ b ∷ c ∷ []) rest h = absurd (omega arith)
first_length (a ∷ b ∷ c ∷ d ∷ r) rest h = refl

cut_one : (k : ℕ) (r rest : List ℕ) → Framed r → cut_records (suc k) (r ++ rest) ≡ r ∷ cut_records k rest
unfolding cut_records
cut_one k [] rest f = absurd (omega (arith, f.0))
cut_one k (x ∷ r) rest f =
    let e : length_of ((x ∷ r) ++ rest) ≡ length (x ∷ r) = first_length (x ∷ r) rest (omega (arith, f.0)) ∙ f.1 in
    rw (e, take-append_seam (x ∷ r) rest, drop-append_seam (x ∷ r) rest)

pub cut_joined : (l : List (List ℕ)) → All Framed l → (k : ℕ) → length (joined l) ≤ k → cut_records k (joined l) ≡ l
unfolding All joined cut_records
cut_joined [] a zero h = refl
cut_joined [] a (suc k) h = refl
cut_joined (r ∷ l) a zero h = absurd (omega (arith, h, length-append r (joined l), a.0.0))
cut_joined (r ∷ l) a (suc k) h =
    cut_one k r (joined l) a.0
    ∙ ap (λ (m : List (List ℕ)). r ∷ m) (cut_joined l a.1 k (omega (arith, h, length-append r (joined l), a.0.0)))

-- what an accepted call wrote
pub written_out : (r : Replica) (output : List ℕ) (W : Work) → written (outcome r output (accepts W)) ≡ W.out
unfolding outcome written
written_out r output W = take-append_seam W.out (drop (length W.out) output)

-- ---- an accepted core
module _ (set : Settings) (w : History) (H : HighVoted (R set w)) (i : ℕ) (l₀ : List (List ℕ)) (r : Replica) (K : Invariant set w i (view_now (begin r)) (begin r) l₀) where
  begin_sound : Sound set w i l₀ (begin r)
  unfolding All joined
  begin_sound = record { made = []; out_is = refl; framed = tt; invariant = λ a. rw append-nil K }

  typed_regular : Regular (begin r)
  typed_regular = K.regular

  settled : (W₀ : Work) → Regular W₀ → Sound set w i l₀ W₀ → (W : Work) → settle W₀ ≡ W → Sound set w i l₀ W
  settled W₀ R₀ S W e = subst (Sound set w i l₀) e (settle_sound set w H i l₀ W₀ R₀ S)

  pub core_sound : (c : Call) (room : ℕ) (W : Work) → CallTyped c → core_of r room c ≡ accepts W → Says w (step_says (n (begin r)) (calls c)) → All w.Placed (step_gives (calls c))
      → Sound set w i l₀ W
  unfolding core_of record_core timer_core propose_core shape_of
  core_sound (receive b c) room W t e s g =
      let W₀ = begin r in
      let j = (off_judge _ _ W).0 (record_checked by_list r room b c W e).accepted in
      let p = quiet_append (region_rules W₀ room) _ j.0 in
      let q = quiet_append (shape_rules (n W₀) b) (refusals W₀ by_list b (content b)) p.1 in
      let ok : shape_of (n W₀) b ≡ accepts tt = (off_judge (shape_rules (n W₀) b) tt tt).1 (q.0, refl) in
      settled (on_record b (content b) W₀) (record_done W₀ b t q.0 q.1 typed_regular).regular
      (by_kind set w H i l₀ W₀ begin_sound b t (content b) refl (written_read (n W₀) b t ok) (read_fits (n W₀) b t ok) (read_proper (n W₀) b t ok) q.1 s g) W j.1
  core_sound (timer v) room W t e s g =
      let W₀ = begin r in
      let j = (off_judge _ _ W).0 e in
      let p = quiet_append (region_rules W₀ room) _ j.0 in
      settled (on_timer v W₀) (timer_done W₀ v t typed_regular).regular (timer_sound set w H i l₀ v W₀ typed_regular begin_sound p.1) W j.1
  core_sound (propose x c) room W t e s g =
      let W₀ = begin r in
      let j = (off_judge _ _ W).0 (propose_checked by_list r room x c W e).accepted in
      let p = quiet_append (region_rules W₀ room) _ j.0 in
      settled (on_propose x W₀) (propose_done W₀ x t p.1 typed_regular).regular (propose_sound set w H i l₀ x W₀ typed_regular begin_sound t p.1) W j.1

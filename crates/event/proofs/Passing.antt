-- A record that passed the places 3 to 14 has what `on_record` asks of it. Assumes nothing.
use Prim.Native.Nat.{ℕ, suc, ◌<◌}
use native.Mathlib.Omega.{arith}
use mathlib.Core.Path.{◌≡◌, refl, sym, ap, subst, ◌∙◌}
use mathlib.Core.Bool.{Bool, true, false, cond, ◌||◌}
use mathlib.Core.List.{List}
use borrow.Author.Tests.{leb-false, eqb-true, not-false, ne_eqb}
use lib.Dec.{eqb}
use lib.ListN.{length}
use Rattle.settings.specs.Quorum.{last_view}
use Rattle.codec.specs.Bytes.{IsBytes}
use Rattle.codec.proofs.Order.{and_true}
use Rattle.wire.specs.Fields.{kind_of, sender_of, view_of, name_of, progress_of, block_name_of, release_height_of}
use Rattle.wire.specs.Content.{Certificate, by_block, by_timeouts, certificate_of, Content, certificate, timeout, release, content, timeout_of}
use Rattle.wire.specs.Encode.{encode}
use Rattle.wire.specs.Fit.{Fits, Proper}
use Rattle.wire.specs.Shape.{shape_rules}
use Rattle.wire.proofs.Tables.{Stands, stands_encode, encode_stands, length_stands}
use Rattle.wire.proofs.Lengths.{length_timeout}
use Rattle.wire.proofs.Contents.{content_stands}
use Rattle.wire.proofs.Accepted.{taken}
use Rattle.wire.proofs.Facts.{Quiet}
use Rattle.certificate.specs.Good.{progress_good}
use Rattle.memory.specs.Leaders.{by_list}
use Rattle.protocol.specs.Work.{Work, settings, n}
use Rattle.protocol.specs.Refusals.{not_other, view_of_progress, no_room, refusals}
use Rattle.protocol.proofs.call.Events.{stands_form}
use Rattle.protocol.proofs.call.Proposals.{room_free}
use Rattle.act.specs.Progress.{IsProgress}
use Rattle.event.specs.Event.{HeldIs, Asked, Taken, HasRoom}
use Rattle.event.proofs.Records.{content-vote, content-commit, content-timeout, content-proposal, content-block}

or_left : (p q : Bool) → (p || q) ≡ false → p ≡ false
or_left true q e = e
or_left false q e = refl

other_low : (W : Work) (j : ℕ) → not_other W j ≡ false → j < n W
other_low W j e = leb-false _ _ (or_left _ _ e)

-- a certificate's view is below the last
certificate_view : (W : Work) (r : List ℕ) (j : ℕ) (k : Certificate) → Quiet (refusals W by_list r (certificate j k)) → view_of_progress k < last_view
unfolding refusals
certificate_view W r j (by_block v x g) q = leb-false _ _ q.1.0
certificate_view W r j (by_timeouts v ts) q = leb-false _ _ q.1.1.0

-- a record of another kind than 1, 2, 5, 7, 8
content_other : (r : List ℕ) → (kind_of r ≡ 1 → ⊥) → (kind_of r ≡ 2 → ⊥) → (kind_of r ≡ 5 → ⊥) → (kind_of r ≡ 7 → ⊥) → (kind_of r ≡ 8 → ⊥) → (t : Bool) → eqb (kind_of r) 9 ≡ t
    → content r ≡ cond t (release (sender_of r) (view_of r) (name_of r) (release_height_of r)) (certificate (sender_of r) (certificate_of r))
unfolding content
content_other r a b c d e t h = rw (ne_eqb _ _ a, ne_eqb _ _ b, ne_eqb _ _ c, ne_eqb _ _ d, ne_eqb _ _ e, h)

-- what stands in a record, at the content that its kind gives
record Said (W : Work) (r : List ℕ) (x : Content) : Type 0 where
  stands : Stands r x
  fits : Fits x
  proper : Proper (n W) x
  quiet : Quiet (refusals W by_list r x)

module _ (W : Work) (r : List ℕ) (b : IsBytes r) (s : Quiet (shape_rules (n W) r)) (q : Quiet (refusals W by_list r (content r))) where
  said : (x : Content) → content r ≡ x → Said W r x
  said x e =
      let (y, h, f, p) = taken (n W) r b s in
      let w : y ≡ x = sym (content_stands r y f h) ∙ e in
      record { stands = rw w at h; fits = rw w at f; proper = rw w at p; quiet = rw e at q }

  vote_ok : kind_of r ≡ 1 → (length r ≡ 48) × (sender_of r < n W)
  unfolding refusals
  vote_ok k = let a = said _ (content-vote r k) in (length_stands r _ a.stands, other_low W (sender_of r) a.quiet.0)

  commit_ok : kind_of r ≡ 2 → (length r ≡ 48) × (sender_of r < n W)
  unfolding refusals
  commit_ok k = let a = said _ (content-commit r k) in (length_stands r _ a.stands, other_low W (sender_of r) a.quiet.0)

  timeout_ok : kind_of r ≡ 5 → (length r ≡ 112) × (sender_of r < n W)
  unfolding refusals timeout_of Fits encode
  timeout_ok k =
      let a = said _ (content-timeout r k) in
      (ap length (sym (encode_stands r (timeout (timeout_of r)) b a.stands)) ∙ length_timeout (timeout_of r) a.fits, other_low W (sender_of r) a.quiet.0)

  -- refusal 14 did not answer
  room_ok : (x : List ℕ) (t : Bool) → HeldIs x t W → no_room W x ≡ false → HasRoom W.memory t
  room_ok x t h e z = room_free W x e (h ∙ z)

  proposal_ok : (t : Bool) → Asked r t W → kind_of r ≡ 7 → IsProgress (n W) (progress_of r) × HasRoom W.memory t
  unfolding refusals Fits Proper encode
  proposal_ok t g z =
      let a = said _ (content-proposal r z) in
      let k = certificate_of (progress_of r) in
      let f = a.fits in
      let u = a.quiet in
      let inner : Stands (progress_of r) (certificate (sender_of r) k) =
      subst (λ (z : List ℕ). Stands z (certificate (sender_of r) k)) (sym a.stands.rest) (stands_encode (certificate (sender_of r) k) (f.0, f.5)) in
      let e = stands_form W (progress_of r) (sender_of r) k f.5 a.proper.2 inner in
      let before : suc (view_of_progress k) ≡ view_of r = eqb-true _ _ (and_true (progress_good (settings W) k) (eqb (suc (view_of_progress k)) (view_of r)) (not-false _ u.1.1.1.0)).1 in
      let low : view_of r < last_view = leb-false _ _ u.1.1.0 in
      (record { form = e.0; view = omega (arith, e.1, before, low) }, room_ok (name_of r) t (g.proposal z) u.1.1.1.1.1.1.1.1.0)

  block_ok : (t : Bool) → Asked r t W → kind_of r ≡ 8 → (length r ≡ 80) × HasRoom W.memory t
  unfolding refusals
  block_ok t g z = let a = said _ (content-block r z) in (length_stands r _ a.stands, room_ok (block_name_of r) t (g.block z) a.quiet.1.1.1.1.1.0)

  certificate_ok : (kind_of r ≡ 1 → ⊥) → (kind_of r ≡ 2 → ⊥) → (kind_of r ≡ 5 → ⊥) → (kind_of r ≡ 7 → ⊥) → (kind_of r ≡ 8 → ⊥) → IsProgress (n W) r
  unfolding Fits Proper
  certificate_ok h₁ h₂ h₅ h₇ h₈ = go (eqb (kind_of r) 9) refl
    where
      go : (t : Bool) → eqb (kind_of r) 9 ≡ t → IsProgress (n W) r
      go true e = absurd (said (release (sender_of r) (view_of r) (name_of r) (release_height_of r)) (content_other r h₁ h₂ h₅ h₇ h₈ true e)).proper
      go false e =
          let a = said (certificate (sender_of r) (certificate_of r)) (content_other r h₁ h₂ h₅ h₇ h₈ false e) in
          let x = stands_form W r (sender_of r) (certificate_of r) a.fits.1 a.proper a.stands in
          record { form = x.0; view = omega (arith, x.1, certificate_view W r (sender_of r) (certificate_of r) a.quiet) }

  -- THE LAW
  pub passed_taken : (t : Bool) → Asked r t W → Taken W.memory r t
  passed_taken t g = record { vote = vote_ok; commit = commit_ok; timeout = timeout_ok; proposal = proposal_ok t g; block = block_ok t g; certificate = certificate_ok }

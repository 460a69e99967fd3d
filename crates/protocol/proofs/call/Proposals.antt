-- Taking a proposal: its certificate leaves the held blocks, holding and voting keep a replica regular, and what that writes. Assumes nothing.
use Prim.Native.Nat.{ℕ, suc, ◌+◌, ◌<◌}
use native.Mathlib.Omega.{arith}
use mathlib.Core.Path.{◌≡◌, refl, ap, ◌∙◌}
use mathlib.Core.Bool.{Bool, true, false, cond, not, ◌&&◌}
use mathlib.Core.List.{List}
use borrow.Author.Tests.{leb-false, eq-eqb}
use lib.Dec.{eqb, leb}
use lib.ListN.{length, take}
use Rattle.settings.specs.Quorum.{largest}
use Rattle.codec.specs.Bytes.{IsBytes}
use Rattle.codec.specs.Names.{name_length}
use Rattle.wire.specs.Fields.{vote_length}
use Rattle.wire.specs.Content.{Certificate, by_block, by_timeouts, certificate_of}
use Rattle.wire.specs.Fit.{IsU64, CertificateFits}
use Rattle.certificate.specs.declared.Certificate.{Certificate as Adoptable}
use Rattle.blocks.specs.declared.Block.{Block}
use Rattle.blocks.specs.Store.{held}
use Rattle.memory.specs.Layout.{entry_room, block_count_of}
use Rattle.memory.specs.Window.{entered}
use Rattle.memory.proofs.Apart.{commits}
use Rattle.memory.proofs.Entering.{entered_head}
use Rattle.memory.proofs.Header.{same_header, keep_head, entry_block_count}
use Rattle.counters.specs.Counters.{adopting, with_locks, entering}
use Rattle.protocol.specs.Work.{Work, n, own, view_now, tip, held_block, send, adopt, enter_by, hold, keep_commit, send_vote, send_commit}
use Rattle.protocol.specs.Typed.{BlockTyped}
use Rattle.protocol.specs.Refusals.{store_length, view_of_progress, no_room}
use Rattle.protocol.specs.Events.{may_commit, may_vote, safe_in, with_sender, commit_after, progress, proposition_of}
use Rattle.protocol.proofs.call.Regular.{EntryForm, Regular, Still, ProgressForm, still_trans, send_regular, adopt_still, enter_regular, hold_regular}
use Rattle.protocol.proofs.call.Actions.{vote_regular}
use Rattle.protocol.proofs.call.Certificates.{form_fits, form_view, sender_bytes, sender_form}
use Rattle.protocol.proofs.call.Rules.{adopts_regular, progress_regular}
use Rattle.protocol.proofs.call.Written.{Grows, vote_out, adopt-out, hold-out, progress_out}

-- regular afterwards, settings, own number and lengths as before, and at most c bytes more written
pub record Done (c : ℕ) (W W' : Work) : Type 0 where
  pub regular : Regular W'
  pub still : Still W W'
  pub written : Grows c W W'

-- ---- the held blocks stay
pub record SameHeld (W W' : Work) : Type 0 where
  pub count : block_count_of W'.memory ≡ block_count_of W.memory
  pub store : W'.store ≡ W.store
  pub tip : W'.counters.tip ≡ W.counters.tip

held_trans : (W W₁ W₂ : Work) → SameHeld W W₁ → SameHeld W₁ W₂ → SameHeld W W₂
held_trans W W₁ W₂ a b = record { count = b.count ∙ a.count; store = b.store ∙ a.store; tip = b.tip ∙ a.tip }

adopt_held : (W : Work) (k : Adoptable) → SameHeld W (adopt W k)
unfolding adopt adopting with_locks
adopt_held W k = record { count = refl; store = refl; tip = refl }

send_held : (W : Work) (r : List ℕ) → SameHeld W (send W r)
send_held W r = record { count = refl; store = refl; tip = refl }

enter_held : (W : Work) (v : ℕ) (r : List ℕ) → SameHeld W (enter_by W v r)
unfolding enter_by entering
enter_held W v r =
    record {
      count = entry_block_count (entered W.memory (view_now W) v) r ∙ (same_header W.memory _ (entered_head W.memory (view_now W) v)).block_count;
      store = refl;
      tip = refl;
    }

commit_held : (W : Work) (v : ℕ) (x : List ℕ) → length x ≡ name_length → own W < largest → SameHeld W (send_commit v x W)
unfolding send_commit keep_commit
commit_held W v x l h = record { count = (same_header W.memory _ (keep_head W.memory commits v (own W) x l h)).block_count; store = refl; tip = refl }

held_if : (W A B : Work) (t : Bool) → SameHeld W A → SameHeld W B → SameHeld W (cond t A B)
held_if W A B true a b = a
held_if W A B false a b = b

commit_after_held : (k : Certificate) (W : Work) → CertificateFits k → own W < largest → SameHeld W (commit_after k W)
unfolding CertificateFits
commit_after_held (by_block v x g) W f h = held_if W _ _ (may_commit v W) (commit_held W v x f.1.size h) (record { count = refl; store = refl; tip = refl })
commit_after_held (by_timeouts v ts) W f h = record { count = refl; store = refl; tip = refl }

pub progress_held : (W : Work) (r : List ℕ) → ProgressForm (n W) r → Regular W → SameHeld W (progress r W)
unfolding progress adopt
progress_held W r f R =
    let k = certificate_of r in
    let s = with_sender (own W) r in
    let W₁ = adopt W (safe_in W k) in
    let R₁ : Regular W₁ = adopts_regular W r f.bytes f.form R in
    let W₂ = send W₁ s in
    let W₃ = enter_by W₂ (suc (view_of_progress k)) s in
    let r₃ = enter_regular W₂ (suc (view_of_progress k)) s (omega arith) (omega (arith, form_view W r, f.view)) (sender_bytes (own W) r f.bytes) (sender_form (own W) r (n W) f.form) (send_regular W₁ s R₁) in
    let low : own W₃ < largest = omega (arith, r₃.0.member, r₃.0.few) in
    held_if W (commit_after k W₃) W₁ (leb (view_now W) (view_of_progress k))
    (held_trans W W₃ _ (held_trans W W₂ W₃ (held_trans W W₁ W₂ (adopt_held W _) (send_held W₁ s)) (enter_held W₂ _ s)) (commit_after_held k W₃ (form_fits (n W) r f.bytes f.form) low))
    (adopt_held W _)

room_same : (x : List ℕ) (c c' : ℕ) (l l' : List Block) (t t' : Block) → c' ≡ c → l' ≡ l → t' ≡ t
    → (not (held t (take c l) x).is && leb store_length c) ≡ false → (not (held t' (take c' l') x).is && leb store_length c') ≡ false
room_same x c c' l l' t t' p q r e = rw (p, q, r) e

-- a name that was new and had room still has
pub room_still : (W W' : Work) (x : List ℕ) → SameHeld W W' → no_room W x ≡ false → no_room W' x ≡ false
room_still W W' x s e = room_same x _ _ _ _ _ _ s.count s.store s.tip e

pub room_free : (W : Work) (x : List ℕ) → no_room W x ≡ false → (held_block W x).is ≡ false → block_count_of W.memory < store_length
room_free W x e h = leb-false _ _ (rw h at e)

-- ---- "hold the block; ... vote for it"
abbrev hold_vote : ℕ → Block → Work → Work
hold_vote v b W = let W₂ = hold W b in cond (may_vote v W₂) (send_vote v b.name W₂) W₂

hold_vote_lem : (W : Work) (v : ℕ) (b : Block) → IsU64 v → BlockTyped b → no_room W b.name ≡ false → Regular W → Done vote_length W (hold_vote v b W)
hold_vote_lem W v b hv hb free R =
    let W₂ = hold W b in
    let h = hold_regular W b hb (room_free W b.name free) R in
    let r = vote_regular W₂ v b.name hv hb.name h.0 in
    go (may_vote v W₂)
    (record { regular = r.0; still = still_trans W W₂ _ h.1 r.1; written = omega (arith, vote_out W₂ v b.name hb.name, ap length (hold-out W b)) })
    (record { regular = h.0; still = h.1; written = omega (arith, ap length (hold-out W b)) })
  where
    go : (t : Bool) → Done vote_length W (send_vote v b.name (hold W b)) → Done vote_length W (hold W b) → Done vote_length W (cond t (send_vote v b.name (hold W b)) (hold W b))
    go true p q = p
    go false p q = q

done_then : (c d : ℕ) (W W₁ W₂ : Work) → Regular W₁ × Still W W₁ → Grows c W W₁ → Done d W₁ W₂ → Done (c + d) W W₂
done_then c d W W₁ W₂ r g h = record { regular = h.regular; still = still_trans W W₁ W₂ r.1 h.still; written = omega (arith, g, h.written) }

-- ---- a proposal of the current view: its certificate is only adopted
pub proposal_now : (W : Work) (b : Block) (r : List ℕ) → BlockTyped b → IsBytes r → EntryForm (n W) r → no_room W b.name ≡ false → Regular W
    → Done vote_length W (proposition_of (view_now W) b r W)
unfolding proposition_of
proposal_now W b r hb br f free R =
    let W₁ = adopt W (safe_in W (certificate_of r)) in
    rw (eq-eqb (view_now W) (view_now W) refl)
    (let d = done_then 0 vote_length W W₁ _ (adopts_regular W r br f R, adopt_still W _) (omega (arith, ap length (adopt-out W (safe_in W (certificate_of r)))))
    (hold_vote_lem W₁ (view_now W) b (omega (arith, R.view_last)) hb (room_still W W₁ b.name (adopt_held W _) free) (adopts_regular W r br f R)) in
    record { regular = d.regular; still = d.still; written = omega (arith, d.written) })

-- of any view: its certificate may do everything
pub proposal_any : (W : Work) (v : ℕ) (b : Block) (r : List ℕ) → IsU64 v → BlockTyped b → ProgressForm (n W) r → no_room W b.name ≡ false → Regular W
    → Done (entry_room + vote_length) W (proposition_of v b r W)
unfolding proposition_of
proposal_any W v b r hv hb f free R = go (eqb v (view_now W))
  where
    adopted : Work
    adopted = adopt W (safe_in W (certificate_of r))

    go : (t : Bool) → Done (entry_room + vote_length) W (hold_vote v b (cond t adopted (progress r W)))
    go true =
        let R₁ = adopts_regular W r f.bytes f.form R in
        done_then entry_room vote_length W adopted _ (R₁, adopt_still W _) (omega (arith, ap length (adopt-out W (safe_in W (certificate_of r)))))
        (hold_vote_lem adopted v b hv hb (room_still W adopted b.name (adopt_held W _) free) R₁)
    go false =
        let p = progress_regular W r f R in
        done_then entry_room vote_length W (progress r W) _ p (progress_out W r f R.few)
        (hold_vote_lem (progress r W) v b hv hb (room_still W (progress r W) b.name (progress_held W r f R) free) p.0)

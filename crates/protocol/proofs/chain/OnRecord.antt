-- An accepted record keeps the invariant, whatever its kind. Assumes nothing.
use Prim.Native.Nat.{ℕ, suc, ◌^◌, ◌≤◌, ◌<◌}
use mathlib.Core.Bool.{true, false, true≢false}
use mathlib.Core.List.{List, [], ◌∷◌, ◌++◌}
use mathlib.Core.Path.{◌≡◌, refl, sym, ap, subst, ◌∙◌}
use native.Mathlib.Omega.{arith}
use borrow.Author.Tests.{leb-false, ltb-false, eqb-true, not-false}
use lib.Dec.{T, leb}
use lib.ListN.{length}
use Rattle.settings.specs.declared.Settings.{Settings}
use Rattle.settings.specs.Quorum.{largest, last_view, last_height, replicas}
use Rattle.codec.specs.Bytes.{IsBytes}
use Rattle.codec.proofs.Order.{and_true, same_eq}
use Rattle.wire.specs.Fields.{progress_of}
use Rattle.wire.specs.Encode.{timeout_bytes, certificate_bytes, encode}
use Rattle.wire.specs.Content.{Certificate, by_block, by_timeouts, certificate_of, Content, vote, commit, certificate, timeout, proposal, block, release, content}
use Rattle.wire.specs.Fit.{IsName, IsU64, All, TimeoutProper, CertificateFits, CertificateProper, Fits, Proper}
use Rattle.wire.proofs.Frames.{or_false}
use Rattle.wire.proofs.Facts.{Quiet, Framed}
use Rattle.wire.proofs.Lengths.{length_timeout}
use Rattle.wire.proofs.Tables.{stands_encode}
use Rattle.wire.proofs.Contents.{certificate_back}
use Rattle.certificate.specs.Rank.{block_certificate}
use Rattle.certificate.specs.Safe.{safe_certificate}
use Rattle.certificate.specs.Good.{is_good, timeout_good, progress_good}
use Rattle.blocks.specs.declared.Block.{Block}
use Rattle.memory.specs.Layout.{block_count_of}
use Rattle.safety.specs.Cluster.{HighVoted}
use Rattle.memory.specs.Leaders.{by_list}
use Rattle.protocol.specs.Work.{Work, settings, n, view_now, tip, blocks, held_block}
use Rattle.protocol.specs.Typed.{BlockTyped}
use Rattle.protocol.specs.Refusals.{store_length, view_of_progress, misplaced, no_room, safe_name, child, refusals}
use Rattle.protocol.specs.Events.{progress, proposition_of, on_record}
use Rattle.protocol.specs.OneChain.{Placement, timeout_says, certificate_says, record_says, record_gives}
use Rattle.protocol.proofs.chain.Invariant.{Name, History, R, size, ParentHeld, placement_of}
use Rattle.protocol.proofs.chain.Actions.{few}
use Rattle.protocol.proofs.chain.Records.{encode_framed}
use Rattle.protocol.proofs.chain.Progress.{Sound, Recorded, TakenAt, progressed}
use Rattle.protocol.proofs.chain.Says.{ActOf, Says, timeout_fine, certificate_accepted}
use Rattle.protocol.proofs.chain.Accepted.{other_is, above_is, below_is, parent_is, held-parent, count_is, vote_sound, commit_sound, kept_sound, hold_sound, ready_any, proposition_sound}

module _ (set : Settings) (w : History) (H : HighVoted (R set w)) (i : ℕ) (l₀ : List (List ℕ)) where
  abbrev Snd : Work → Type 0
  Snd W = Sound set w i l₀ W

  -- ---- ACCEPTED RECORDS: r, which reads as q
  module _ (W : Work) (S : Snd W) (r : List ℕ) (bytes : IsBytes r) where
    abbrev Sn : Type 0
    Sn = Recorded set w i l₀ S

    set_is : Sn → settings W ≡ set
    set_is a = (S.invariant a).set_is

    few_all : Sn → size set w ≤ largest
    few_all a = few set w i (view_now W) W (l₀ ++ S.made) (S.invariant a)

    -- n, as the invariant has it
    with_size : (P : ℕ → Type 0) → Sn → P (n W) → P (size set w)
    with_size P a p = subst (λ (t : Settings). P (replicas t)) (set_is a) p

    -- a certificate's record p, which says k
    taken : (p : List ℕ) (j : ℕ) (k : Certificate) → j < 2 ^ 16 → view_of_progress k < last_view → CertificateFits k → CertificateProper (n W) k → progress_good (settings W) k ≡ true
        → p ≡ certificate_bytes j k → Says w (certificate_says (n W) p k) → Sn → TakenAt set w (view_of_progress (certificate_of p)) p
    taken p j k low small f proper good is s a =
        let back : certificate_of p ≡ k = ap certificate_of is ∙ certificate_back j k low f in
        rw back (certificate_accepted set w H (few_all a) W j k low small f (with_size (λ m. CertificateProper m k) a proper) (subst (λ (t : Settings). progress_good t k ≡ true) (set_is a) good) p is
        (with_size (λ m. Says w (certificate_says m p k)) a s))

    cert_framed : (p : List ℕ) (j : ℕ) (k : Certificate) → j < 2 ^ 16 → CertificateFits k → p ≡ certificate_bytes j k → Framed p
    unfolding encode Fits
    cert_framed p j k low f is = subst Framed (sym is) (encode_framed (certificate j k) (low, f))

    cert_sound : (j : ℕ) (k : Certificate) → j < 2 ^ 16 → view_of_progress k < last_view → CertificateFits k → CertificateProper (n W) k → progress_good (settings W) k ≡ true
        → r ≡ certificate_bytes j k → Says w (certificate_says (n W) r k) → Snd (progress r W)
    cert_sound j k low small f proper good is s =
        let back : certificate_of r ≡ k = ap certificate_of is ∙ certificate_back j k low f in
        (progressed set w i l₀ r W S (taken r j k low small f proper good is s) (cert_framed r j k low f is) (rw back f)).sound

    first_act : (j : ℕ) (more : List (ℕ × List ℕ)) (q : Content) → content r ≡ q → Says w ((j, r) ∷ more) → T (w.honest j) → ActOf w j q
    unfolding All
    first_act j more q e s h = subst (ActOf w j) e (s.0 h)

    -- what a record of kind 7 or 8 gives a name
    given : (b : Placement) → All w.Placed (b ∷ []) → w.Placed b
    unfolding All
    given b a = a.0

    child_typed : (x y : Name) (h : ℕ) → IsName x → IsName y → IsU64 h → BlockTyped (child W x y h)
    child_typed x y h nx ny ih = record { name = nx; parent = ny; height = ih }

    room_is : (x : Name) → no_room W x ≡ false → (held_block W x).is ≡ false → Sn → length (blocks W) < store_length
    room_is x e new a =
        let c = count_is set w H i l₀ W (S.invariant a).regular in
        let full : leb store_length (block_count_of W.memory) ≡ false = rw new at e in
        omega (arith, c, leb-false store_length (block_count_of W.memory) full)

    placed : (b : Block) → misplaced W b ≡ false → ParentHeld set w (tip W) (blocks W) b × (b.height.0 ≤ last_height)
    placed b e = let p = parent_is W b e in (held-parent set w (tip W) (blocks W) b p.0.0 p.0.1, p.1)

    good_block : (v : ℕ) (x : Name) (g : ℕ) → is_good (settings W) (block_certificate v x g) ≡ true → progress_good (settings W) (by_block v x g) ≡ true
    unfolding progress_good
    good_block v x g e = e

    -- the certificate's record inside a proposal
    inner_is : (j v : ℕ) (x y : Name) (h : ℕ) (k : Certificate) → Fits (proposal j v x y h k) → encode (proposal j v x y h k) ≡ r → progress_of r ≡ certificate_bytes j k
    inner_is j v x y h k f is = ap progress_of (sym is) ∙ (stands_encode (proposal j v x y h k) f).rest

    proposed : (j v : ℕ) (x y : Name) (h : ℕ) (k : Certificate) → encode (proposal j v x y h k) ≡ r → Fits (proposal j v x y h k) → Proper (n W) (proposal j v x y h k)
        → Quiet (refusals W by_list r (proposal j v x y h k)) → Says w (record_says (n W) r (proposal j v x y h k)) → All w.Placed (record_gives (proposal j v x y h k))
        → Snd (proposition_of v (child W x y h) (progress_of r) W)
    unfolding refusals Fits Proper All
    proposed j v x y h k is f p t s b =
        let d = below_is W v t.1.0 in
        let small = leb-false last_view v t.1.1.0 in
        let good = and_true _ _ (not-false _ t.1.1.1.0) in
        let next = eqb-true (suc (view_of_progress k)) v good.1 in
        let inner = inner_is j v x y h k f is in
        let back : certificate_of (progress_of r) ≡ k = ap certificate_of inner ∙ certificate_back j k f.0 f.5 in
        let place = or_false _ _ t.1.1.1.1.1.1.1.0 in
        let parent = same_eq y (safe_name W k) (not-false _ place.0) in
        let F = taken (progress_of r) j k f.0 (omega (arith, next, small)) f.5 p.2 good.0 inner s.1 in
        let after : suc (view_of_progress (certificate_of (progress_of r))) ≡ v = rw back next in
        proposition_sound set w H i l₀ W S v (child W x y h) (progress_of r) (ready_any set w H i l₀ W S v (progress_of r) F (cert_framed (progress_of r) j k f.0 f.5 inner) (rw back f.5) after d.0) F
        (λ a. after) small (λ a. child_typed x y h f.2 f.3 f.4) f.2.size p.0 (λ a. given (placement_of (child W x y h)) b)
        (λ a. rw back (parent ∙ ap (λ (z : Settings). (safe_certificate z k).name) (set_is a)))
        (λ new a. room_is x t.1.1.1.1.1.1.1.1.0 new a) (λ a. placed (child W x y h) place.1)

    pub by_kind : (q : Content) → content r ≡ q → encode q ≡ r → Fits q → Proper (n W) q → Quiet (refusals W by_list r q) → Says w (record_says (n W) r q) → All w.Placed (record_gives q)
        → Snd (on_record r q W)
    unfolding refusals on_record Fits Proper encode
    by_kind (vote j v x) e is f p t s b =
        let k = above_is W v t.1.1.0 in
        vote_sound set w H i l₀ W S j v x (other_is W j t.0) (record { first = ltb-false _ _ t.1.0; last = k.0 }) k.1 f.2 (first_act j [] (vote j v x) e s)
    by_kind (commit j v x) e is f p t s b =
        let k = above_is W v t.1.1.0 in
        commit_sound set w H i l₀ W S j v x (other_is W j t.0) (record { first = ltb-false _ _ t.1.0; last = k.0 }) k.1 f.2 (first_act j [] (commit j v x) e s)
    by_kind (certificate j (by_block v x g)) e is f p t s b =
        cert_sound j (by_block v x g) f.0 (leb-false _ _ t.1.0) f.1 p (good_block v x g (not-false _ t.1.1.0)) (sym is) s
    by_kind (certificate j (by_timeouts v ts)) e is f p t s b =
        cert_sound j (by_timeouts v ts) f.0 (leb-false _ _ t.1.1.0) f.1 p (not-false _ t.1.1.1.0) (sym is) s
    by_kind (timeout t) e is f p q s b =
        let k = above_is W t.view.0 q.1.1.0 in
        let j = below_is W t.view.0 q.1.0 in
        kept_sound set w H i l₀ W S t.view.0 t.sender r (other_is W t.sender q.0) (record { first = j.0; last = k.0 }) bytes (sym (ap length is) ∙ length_timeout t f)
        (λ a. record {
          below = k.1;
          says = t;
          is = sym is;
          fits = f;
          proper = with_size (λ m. TimeoutProper m t) a p;
          from = refl;
          fine = timeout_fine set w H (few_all a) t.view.0 t refl f (with_size (λ m. TimeoutProper m t) a p)
              (subst (λ (z : Settings). timeout_good z t ≡ true) (set_is a) (not-false _ q.1.1.1.0))
              (with_size (λ m. Says w (timeout_says m (timeout_bytes t))) a (subst (λ (z : List ℕ). Says w (timeout_says (n W) z)) (sym is) s));
        })
    by_kind (proposal j v x y h k) e is f p t s b = proposed j v x y h k is f p t s b
    by_kind (block j x y h) e is f p t s b =
        hold_sound set w H i l₀ W S (child W x y h) (λ a. child_typed x y h f.1 f.2 f.3)
        (λ a new. let k = placed (child W x y h) t.1.1.1.1.0 in (room_is x t.1.1.1.1.1.0 new a, given (placement_of (child W x y h)) b, k.1, k.0))
    by_kind (release j v x h) e is f p t s b = absurd (true≢false t.0)

-- What the tests of accepted calls leave, and the events that they allow: what others sent is kept, a block is held, a proposal is taken. Assumes nothing.
use Prim.Native.Nat.{ℕ, suc, ◌+◌, ◌≤◌, ◌<◌}
use mathlib.Core.Bool.{Bool, true, false, cond}
use mathlib.Core.List.{List, [], ◌∷◌, ◌++◌}
use mathlib.Core.Logic.{inl, inr, ⊎_elim}
use mathlib.Core.Path.{◌≡◌, refl, sym, ap, subst, ◌∙◌}
use native.Mathlib.Omega.{arith}
use borrow.Author.Tests.{leb-false, ltb-true, ltb-false, eqb-true, eqb-false, not-false}
use lib.Dec.{T, leb, ltb, eqb}
use lib.ListN.{length, length-take}
use Rattle.settings.specs.declared.Settings.{Settings}
use Rattle.settings.specs.Quorum.{last_view, last_height}
use Rattle.codec.specs.Bytes.{IsBytes}
use Rattle.codec.specs.Names.{name_length, same_bytes, zero_name}
use Rattle.codec.proofs.Order.{and_true, same_eq, which}
use Rattle.wire.specs.Fields.{timeout_length}
use Rattle.wire.specs.Encode.{encode}
use Rattle.wire.specs.Content.{certificate_of, vote, block}
use Rattle.wire.specs.Fit.{IsName, CertificateFits, Fits}
use Rattle.wire.proofs.Facts.{Framed}
use Rattle.wire.proofs.Frames.{or_false}
use Rattle.certificate.specs.Safe.{safe_certificate}
use Rattle.blocks.specs.declared.Block.{Block}
use Rattle.blocks.specs.Store.{Found, found, find, held}
use Rattle.memory.specs.Layout.{block_count_of}
use Rattle.memory.proofs.Apart.{votes, commits, timeouts}
use Rattle.memory.proofs.Entering.{Windowed}
use Rattle.counters.specs.declared.Counters.{Counters}
use Rattle.counters.specs.Counters.{adopting, with_locks, voting}
use Rattle.safety.specs.Rank.{Cert, ◌⊑◌}
use Rattle.safety.specs.Cluster.{HighVoted}
use Rattle.safety.specs.Certificates.{cert}
use Rattle.safety.specs.Trace as Trace
use Rattle.protocol.specs.Work.{vote_record, Work, n, own, view_now, timed, high_vote_view, tip, blocks, held_block, adopt, hold, keep_vote, keep_commit, keep_timeout, send_vote}
use Rattle.protocol.specs.Typed.{BlockTyped}
use Rattle.protocol.specs.Refusals.{store_length, not_other, below_view, above_window, view_of_progress, misplaced}
use Rattle.protocol.specs.Events.{may_vote, safe_in, progress, proposition_of}
use Rattle.protocol.proofs.call.Regular.{Regular}
use Rattle.protocol.proofs.Branch.{by_cases}
use Rattle.protocol.proofs.chain.Invariant.{Name, History, R, size, traced, TimeoutKept, ParentHeld, VoteGround, Invariant, placement_of}
use Rattle.protocol.proofs.chain.Store.{as_found}
use Rattle.protocol.proofs.chain.Records.{joined_more, vote_framed}
use Rattle.protocol.proofs.chain.Actions.{size_is, few, vote_invariant, commit_invariant, timeout_invariant}
use Rattle.protocol.proofs.chain.Acts.{voted_invariant}
use Rattle.protocol.proofs.chain.Blocks.{hold_invariant}
use Rattle.protocol.proofs.chain.Progress.{framed_more, all_left, all_right, all_head, RecordIn, record_of, Sound, Recorded, grown, TakenAt, over_safe, adopted_invariant, progressed}

-- ---- what the tests leave
pub other_is : (W : Work) (j : ℕ) → not_other W j ≡ false → j < n W
other_is W j e = leb-false (n W) j (or_false (leb (n W) j) (eqb j (own W)) e).0

pub above_is : (W : Work) (v : ℕ) → above_window W v ≡ false → (v ≤ view_now W + 3) × (v < last_view)
above_is W v e = let p = or_false (ltb (view_now W + 3) v) (leb last_view v) e in (ltb-false _ _ p.0, leb-false _ _ p.1)

pub below_is : (W : Work) (v : ℕ) → below_view W v ≡ false → (view_now W ≤ v) × (0 < v)
below_is W v e =
    let p = or_false (ltb v (view_now W)) (eqb v 0) e in
    let z = eqb-false v 0 p.1 in
    (ltb-false _ _ p.0, omega arith)

-- a parent that is held, one below
pub parent_is : (W : Work) (b : Block) → misplaced W b ≡ false → (((held_block W b.parent).is ≡ true) × (b.height.0 ≡ suc (held_block W b.parent).block.height.0)) × (b.height.0 ≤ last_height)
parent_is W b e =
    let p = or_false _ _ e in
    let q = and_true _ _ (not-false _ p.0) in
    ((q.0, eqb-true b.height.0 (suc (held_block W b.parent).block.height.0) q.1), ltb-false last_height b.height.0 p.1)

module _ (set : Settings) (w : History) where
  pub held-parent : (tip : Block) (store : List Block) (b : Block) → (held tip store b.parent).is ≡ true → b.height.0 ≡ suc (held tip store b.parent).block.height.0
      → ParentHeld set w tip store b
  unfolding held
  held-parent tip store b is high = go (same_bytes tip.name b.parent) refl is high
    where
      go : (t : Bool) → same_bytes tip.name b.parent ≡ t → (cond t (found tip) (find b.parent store)).is ≡ true
          → b.height.0 ≡ suc (cond t (found tip) (find b.parent store)).block.height.0 → ParentHeld set w tip store b
      go true e is high = inl (sym (same_eq tip.name b.parent e), high)
      go false e is high = inr ((find b.parent store).block, as_found (find b.parent store) is, high)

module _ (set : Settings) (w : History) (H : HighVoted (R set w)) (i : ℕ) (l₀ : List (List ℕ)) where
  abbrev Snd : Work → Type 0
  Snd W = Sound set w i l₀ W

  module _ (W : Work) (S : Snd W) where
    abbrev l : List (List ℕ)
    l = l₀ ++ S.made

    nset : Recorded set w i l₀ S → n W ≡ size set w
    nset a = size_is set w i (view_now W) W l (S.invariant a)

    -- ---- what others sent is kept
    pub vote_sound : (j v : ℕ) (x : Name) → j < n W → Windowed votes (view_now W) v → v < last_view → IsName x → (T (w.honest j) → w.Voted j v x) → Snd (keep_vote W v j x)
    unfolding keep_vote
    vote_sound j v x low k small name acted = record {
      made = S.made;
      out_is = S.out_is;
      framed = S.framed;
      invariant = λ a. vote_invariant set w i (view_now W) W l v j x name.bytes (omega (arith, nset a, low)) (S.invariant a) name.size k (record { below = small; truly = acted });
    }

    pub commit_sound : (j v : ℕ) (x : Name) → j < n W → Windowed commits (view_now W) v → v < last_view → IsName x → (T (w.honest j) → w.Committed j v x) → Snd (keep_commit W v j x)
    unfolding keep_commit
    commit_sound j v x low k small name acted = record {
      made = S.made;
      out_is = S.out_is;
      framed = S.framed;
      invariant = λ a. commit_invariant set w i (view_now W) W l v j x name.bytes (omega (arith, nset a, low)) (S.invariant a) name.size k (record { below = small; truly = acted });
    }

    pub kept_sound : (v j : ℕ) (e : List ℕ) → j < n W → Windowed timeouts (view_now W) v → IsBytes e → length e ≡ timeout_length → (Recorded set w i l₀ S → TimeoutKept set w v j e) → Snd (keep_timeout W v j e)
    unfolding keep_timeout
    kept_sound v j e low k bytes long acted = record {
      made = S.made;
      out_is = S.out_is;
      framed = S.framed;
      invariant = λ a. timeout_invariant set w i (view_now W) W l v j e bytes (omega (arith, nset a, low)) (S.invariant a) long k (acted a);
    }

  -- ---- holding a block
  hold-out : (W : Work) (b : Block) → (hold W b).out ≡ W.out
  unfolding hold
  hold-out W b = by_cases (λ (X : Work). X.out ≡ W.out) (held_block W b.name).is _ _ (λ e. refl) (λ e. refl)

  hold-counters : (W : Work) (b : Block) → (hold W b).counters ≡ W.counters
  unfolding hold
  hold-counters W b = by_cases (λ (X : Work). X.counters ≡ W.counters) (held_block W b.name).is _ _ (λ e. refl) (λ e. refl)

  hold_view : (W : Work) (b : Block) → view_now (hold W b) ≡ view_now W
  hold_view W b = ap (λ (c : Counters). c.view.0) (hold-counters W b)

  -- as many blocks are held as the memory says
  pub count_is : (W : Work) → Regular W → block_count_of W.memory ≡ length (blocks W)
  count_is W r = omega (arith, length-take (block_count_of W.memory) W.store, r.room, r.store_long)

  module _ (W : Work) (S : Snd W) (b : Block) (typed : Recorded set w i l₀ S → BlockTyped b)
      (ready : Recorded set w i l₀ S → (held_block W b.name).is ≡ false → (length (blocks W) < store_length) × w.Placed (placement_of b) × (b.height.0 ≤ last_height) × ParentHeld set w (tip W) (blocks W) b) where
    pub hold_sound : Snd (hold W b)
    hold_sound = record {
      made = S.made;
      out_is = hold-out W b ∙ S.out_is;
      framed = S.framed;
      invariant = λ a.
          let X = S.invariant a in
          subst (λ (r : ℕ). Invariant set w i r (hold W b) (l₀ ++ S.made)) (sym (hold_view W b))
          (hold_invariant set w i (view_now W) W (l₀ ++ S.made) X b (typed a)
          (λ e. let k = ready a e in (omega (arith, count_is W X.regular, k.0), k.1, k.2, k.3)));
    }

  -- ---- A PROPOSAL of view v for the block b, on the certificate whose record is r: what its certificate does comes first
  module _ (W : Work) (S : Snd W) (v : ℕ) (r : List ℕ) where
    abbrev u : ℕ
    u = view_of_progress (certificate_of r)

    abbrev c : Cert Name
    c = cert (safe_certificate set (certificate_of r))

    -- the certificate is adopted, store and tip are as they were, and the replica is in view v
    pub record Ready (W₁ : Work) : Type 0 where
      pub sound : Snd W₁
      pub recorded : Recorded set w i l₀ sound → Recorded set w i l₀ S
      pub blocks_same : Recorded set w i l₀ sound → blocks W₁ ≡ blocks W
      pub tip_same : tip W₁ ≡ tip W
      pub over : Recorded set w i l₀ sound → c ⊑ (traced W₁.counters).top
      pub view_is : view_now W₁ ≡ v

    abbrev pub W₁ : Work
    W₁ = cond (eqb v (view_now W)) (adopt W (safe_in W (certificate_of r))) (progress r W)

    adopted_here : v ≡ view_now W → (Recorded set w i l₀ S → TakenAt set w u r) → (Recorded set w i l₀ S → u < view_now W) → Ready (adopt W (safe_in W (certificate_of r)))
    unfolding adopt adopting with_locks
    adopted_here q F below = record {
      sound = record { made = S.made; out_is = S.out_is; framed = S.framed; invariant = λ a. adopted_invariant set w i l₀ r W S u F (view_now W) (omega arith) (below a) (S.invariant a).certified.limit_le a };
      recorded = λ a. a;
      blocks_same = λ a. refl;
      tip_same = refl;
      over = over_safe set w i l₀ r W S u F;
      view_is = sym q;
    }

    -- in the current view it is only adopted
    pub ready_now : v ≡ view_now W → (Recorded set w i l₀ S → TakenAt set w u r) → (Recorded set w i l₀ S → u < view_now W) → Ready W₁
    ready_now q F below = by_cases Ready (eqb v (view_now W)) _ _ (λ e. adopted_here q F below) (λ e. absurd (eqb-false v (view_now W) e q))

    pub ready_any : (Recorded set w i l₀ S → TakenAt set w u r) → Framed r → CertificateFits (certificate_of r) → suc u ≡ v → view_now W ≤ v → Ready W₁
    ready_any F whole fit next le = by_cases Ready (eqb v (view_now W)) _ _
        (λ e. let q = eqb-true v (view_now W) e in adopted_here q F (λ a. omega (arith, q, next)))
        (λ e. let q = eqb-false v (view_now W) e in
        let G = progressed set w i l₀ r W S F whole fit in
        let lt : view_now W ≤ u = ⊎_elim (λ h. omega (arith, h, next)) (⊎_elim (λ h. absurd (q (sym h))) (λ h. absurd (omega (arith, h, le)))) (which (view_now W) v) in
        record { sound = G.sound; recorded = G.recorded; blocks_same = G.blocks_same; tip_same = G.tip_same; over = G.over; view_is = G.views lt ∙ next })

  -- then the block is held, and voted for if that may be
  module _ (W : Work) (S : Snd W) (v : ℕ) (b : Block) (r : List ℕ) (ready : Ready W S v r (W₁ W S v r)) (F : Recorded set w i l₀ S → TakenAt set w (view_of_progress (certificate_of r)) r)
      (next : Recorded set w i l₀ S → suc (view_of_progress (certificate_of r)) ≡ v) (small : v < last_view) (typed : Recorded set w i l₀ S → BlockTyped b) (long : length b.name ≡ name_length) (named : b.name ≡ zero_name → ⊥)
      (placed : Recorded set w i l₀ S → w.Placed (placement_of b)) (on : Recorded set w i l₀ S → b.parent ≡ (safe_certificate set (certificate_of r)).name)
      (room : (held_block W b.name).is ≡ false → Recorded set w i l₀ S → length (blocks W) < store_length)
      (place : Recorded set w i l₀ S → ParentHeld set w (tip W) (blocks W) b × (b.height.0 ≤ last_height)) where
    abbrev X₁ : Work
    X₁ = W₁ W S v r

    abbrev k : Cert Name
    k = cert (safe_certificate set (certificate_of r))

    abbrev S₁ : Snd X₁
    S₁ = ready.sound

    back : Recorded set w i l₀ S₁ → Recorded set w i l₀ S
    back = ready.recorded

    held_same_lem : Recorded set w i l₀ S₁ → (x : Name) → held_block X₁ x ≡ held_block W x
    held_same_lem a x = rw (ready.tip_same, ready.blocks_same a)

    abbrev W₂ : Work
    W₂ = hold X₁ b

    S₂ : Snd W₂
    S₂ = hold_sound X₁ S₁ b (λ a. typed (back a)) (λ a e.
        let z = back a in
        let p = place z in
        let same = ready.blocks_same a in
        let t = ready.tip_same in
        (rw same (room (sym (ap (λ (f : Found). f.is) (held_same_lem a b.name)) ∙ e) z), placed z, p.1, rw (same, t) p.0))

    view₂ : view_now W₂ ≡ v
    view₂ = hold_view X₁ b ∙ ready.view_is

    -- the certificate ranks no higher than what is adopted
    back₂ : Recorded set w i l₀ S₂ → Recorded set w i l₀ S₁
    unfolding S₂ hold_sound
    back₂ a = a

    over₂ : Recorded set w i l₀ S₂ → k ⊑ (traced W₂.counters).top
    over₂ a = subst (λ (d : Counters). k ⊑ (traced d).top) (sym (hold-counters X₁ b)) (ready.over (back₂ a))

    vote_ground : Recorded set w i l₀ S₂ → VoteGround set w v b.name k
    vote_ground a = let z = back (back₂ a) in (view_of_progress (certificate_of r), sym (next z), (F z).backed, (placement_of b, placed z, refl, on z))

    abbrev q : List ℕ
    q = vote_record W₂ v b.name

    did : (a : Recorded set w i l₀ S₂) → RecordIn w i q → w.Voted i v b.name
    unfolding encode Fits
    did a z =
        let r = (S₂.invariant a).regular in
        record_of w i (vote (own W₂) v b.name) (omega (arith, r.member, r.few), omega (arith, small), (typed (back (back₂ a))).name) z

    vote_out : (send_vote v b.name W₂).out ≡ W₂.out ++ q
    unfolding send_vote keep_vote
    vote_out = refl

    vote_view : view_now (send_vote v b.name W₂) ≡ view_now W₂
    unfolding send_vote keep_vote voting
    vote_view = refl

    voted_sound : timed W₂ < v → high_vote_view W₂ < v → Snd (send_vote v b.name W₂)
    voted_sound late first = record {
      made = S₂.made ++ (q ∷ []);
      framed = framed_more S₂.made q S₂.framed (vote_framed 1 (own W₂) v b.name long);
      out_is = vote_out ∙ ap (λ (o : List ℕ). o ++ q) S₂.out_is ∙ sym (joined_more S₂.made q);
      invariant = λ a.
          let y = all_left (RecordIn w i) S₂.made (q ∷ []) a in
          let z = all_head (RecordIn w i) q [] (all_right (RecordIn w i) S₂.made (q ∷ []) a) in
          grown set w i l₀ (λ m. Invariant set w i (view_now (send_vote v b.name W₂)) (send_vote v b.name W₂) m) S₂.made q
          (subst (λ (k : ℕ). Invariant set w i k (send_vote v b.name W₂) ((l₀ ++ S₂.made) ++ (q ∷ []))) (sym vote_view)
          (voted_invariant set w i (view_now W₂) W₂ (l₀ ++ S₂.made) (S₂.invariant y) v b.name small (typed (back (back₂ y))).name named k late first (omega (arith, view₂))
          (record { first = omega (arith, view₂, first); last = omega (arith, view₂) }) (over₂ y) (vote_ground y) (did y z)));
    }

    pub proposition_sound : Snd (proposition_of v b r W)
    unfolding proposition_of
    proposition_sound =
        by_cases Snd (may_vote v W₂) (send_vote v b.name W₂) W₂
        (λ e. let p = and_true _ _ e in voted_sound (ltb-true (timed W₂) v p.0) (ltb-true (high_vote_view W₂) v p.1))
        (λ e. S₂)

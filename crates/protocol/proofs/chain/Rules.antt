-- One turn of the rules keeps the invariant, and so does their run. Assumes nothing.
use Prim.Native.Nat.{ℕ, ◌^◌, ◌≤◌, ◌<◌}
use mathlib.Core.Bool.{Bool, true, false}
use mathlib.Core.List.{List, [], ◌∷◌, ◌++◌, map, append_assoc}
use mathlib.Core.Logic.{◌⊎◌}
use mathlib.Core.Path.{◌≡◌, refl, sym, ap, subst, ◌∙◌}
use native.Mathlib.Omega.{arith}
use Rattle.settings.specs.declared.Settings.{Settings}
use Rattle.settings.specs.Quorum.{last_view, replicas, timeout_quorum, block_quorum, fast_quorum, slow_quorum}
use Rattle.codec.specs.Names.{same_bytes}
use Rattle.codec.proofs.Order.{same_eq}
use Rattle.wire.specs.Encode.{timeout_bytes, block_certificate_bytes, encode, joined, release_bytes}
use Rattle.wire.specs.Content.{certificate_of, timeout}
use Rattle.wire.specs.Fields.{timeout_length}
use Rattle.wire.specs.Fit.{All, CertificateFits, Fits}
use Rattle.wire.proofs.Facts.{Framed}
use Rattle.blocks.specs.declared.Block.{Block}
use Rattle.blocks.specs.Store.{held, ancestry, releases}
use Rattle.blocks.proofs.Linked.{held_in, ancestry_last}
use Rattle.memory.specs.Layout.{vote_row, commit_row, timeout_row}
use Rattle.memory.specs.Kept.{kept_count, gathered, tally}
use Rattle.memory.proofs.Rows.{gathered_le}
use Rattle.memory.specs.Formed.{formed}
use Rattle.memory.proofs.Apart.{timeouts, row_fits}
use Rattle.memory.proofs.Entering.{Windowed}
use Rattle.counters.specs.Counters.{timing, releasing}
use Rattle.safety.specs.Certificates as Safety
use Rattle.safety.specs.Cluster.{HighVoted, Direct}
use Rattle.protocol.specs.Work.{Work, n, own, view_now, timed, tip, blocks, held_block, keep_timeout, own_timeout, send_timeout, release}
use Rattle.protocol.specs.Typed.{BlockTyped}
use Rattle.protocol.specs.Refusals.{view_of_progress}
use Rattle.protocol.specs.Events.{progress}
use Rattle.protocol.specs.Rules.{settle}
use Rattle.protocol.specs.Applies.{AppliesA, AppliesB, AppliesC, AppliesD, run_a, run_d, signers_for, Turn, by_a, by_b, by_c, by_d, Turns, rest, turn}
use Rattle.protocol.proofs.call.Typing.{all_append}
use Rattle.protocol.proofs.call.Regular.{Regular}
use Rattle.protocol.proofs.call.Actions.{own_timeout_fits}
use Rattle.protocol.proofs.call.Certificates.{form_view, form_fits, formed_form, tally_u64}
use Rattle.protocol.proofs.loop.Formed.{formed_read, block_view, block_read}
use Rattle.protocol.proofs.loop.Advance.{timeout_window, ballot_window}
use Rattle.protocol.proofs.loop.RuleD.{applied_in}
use Rattle.protocol.proofs.loop.Loop.{settle_is_the_loop}
use Rattle.protocol.proofs.loop.Settle.{voted_name, turn_regular}
use Rattle.protocol.proofs.chain.Invariant.{Name, History, R, size, Invariant}
use Rattle.protocol.proofs.chain.Records.{joined_more, joined_append, encode_framed, release_framed, block_framed, timeouts_framed}
use Rattle.protocol.proofs.chain.Actions.{size_is, few, all_one}
use Rattle.protocol.proofs.chain.Acts.{timed_invariant}
use Rattle.protocol.proofs.chain.Blocks.{held_typed, row_typed, release_invariant}
use Rattle.protocol.proofs.chain.Progress.{framed_more, all_left, all_right, all_head, RecordIn, record_of, Sound, Recorded, TakenAt, progressed}
use Rattle.protocol.proofs.chain.Formed.{formed_taken, block_taken, direct}

-- releases of typed blocks are whole records
releases_framed : (j v : ℕ) (row : List Block) → All BlockTyped row → All Framed (map (λ (c : Block). release_bytes j v c.name c.height.0) row)
unfolding All
releases_framed j v [] a = tt
releases_framed j v (c ∷ row) a = (release_framed j v c.name c.height.0 a.0.name.size, releases_framed j v row a.1)

-- the record formed of kept timeouts is whole, on any content of the memory
pub formed_framed : (W : Work) → Regular W → (v : ℕ) → Framed (formed W.memory v (n W) (own W))
unfolding formed
formed_framed W reg v =
    let row = gathered W.memory (timeout_row v) timeout_length 0 (n W) in
    timeouts_framed (own W) v row (omega (arith, reg.few, gathered_le W.memory (timeout_row v) timeout_length 0 (n W) (n W) (omega arith) (omega (arith, row_fits timeouts v, reg.memory_long, reg.few))))

held_tip : (tip : Block) (store : List Block) (x : Name) → same_bytes tip.name x ≡ true → (held tip store x).block.name ≡ x
unfolding held
held_tip tip store x e = rw e (same_eq tip.name x e)

module _ (set : Settings) (w : History) (H : HighVoted (R set w)) (i : ℕ) (l₀ : List (List ℕ)) where
  -- ---- a timeout is sent
  module _ (v : ℕ) (W : Work) (reg : Regular W) (S : Sound set w i l₀ W) where
    abbrev q : List ℕ
    q = timeout_bytes (own_timeout W v)

    timeout_view : view_now (send_timeout v W) ≡ view_now W
    unfolding send_timeout keep_timeout timing
    timeout_view = refl

    timeout_out : (send_timeout v W).out ≡ W.out ++ q
    unfolding send_timeout keep_timeout
    timeout_out = refl

    q_framed : v < last_view → Framed q
    unfolding encode Fits
    q_framed small = encode_framed (timeout (own_timeout W v)) (own_timeout_fits W v (omega (arith, small)) reg)

    did : (a : Recorded set w i l₀ S) → v < last_view → RecordIn w i q → w.TimedOut i (Safety.content (own_timeout W v))
    unfolding encode Fits
    did a small z = record_of w i (timeout (own_timeout W v)) (own_timeout_fits W v (omega (arith, small)) (S.invariant a).regular) z

    pub timeout_sound : v < last_view → timed W < v → Windowed timeouts (view_now W) v → Sound set w i l₀ (send_timeout v W)
    timeout_sound small late in_window = record {
      made = S.made ++ (q ∷ []);
      framed = framed_more S.made q S.framed (q_framed small);
      out_is = timeout_out ∙ ap (λ (o : List ℕ). o ++ q) S.out_is ∙ sym (joined_more S.made q);
      invariant = λ a.
          let b = all_left (RecordIn w i) S.made (q ∷ []) a in
          let z = all_head (RecordIn w i) q [] (all_right (RecordIn w i) S.made (q ∷ []) a) in
          subst (λ (l : List (List ℕ)). Invariant set w i (view_now (send_timeout v W)) (send_timeout v W) l) (append_assoc l₀ S.made (q ∷ []))
          (subst (λ (r : ℕ). Invariant set w i r (send_timeout v W) ((l₀ ++ S.made) ++ (q ∷ []))) (sym timeout_view)
          (timed_invariant set w i (view_now W) W (l₀ ++ S.made) (S.invariant b) v small (omega (arith, in_window.first)) late in_window (did b small z)));
    }

  -- ---- what applies, in the words of the invariant
  module _ (W : Work) (reg : Regular W) (S : Sound set w i l₀ W) where
    a_sound : (v : ℕ) → AppliesA v W → Sound set w i l₀ (run_a v W)
    a_sound v a =
        let k = timeout_window (view_now W) v a.window in
        timeout_sound v W reg S k.below a.untimed (record { first = k.from; last = k.to })

    low : (a : Recorded set w i l₀ S) → own W < 2 ^ 16
    low a = omega (arith, (S.invariant a).regular.member, (S.invariant a).regular.few)

    -- n, as the memory says it
    nset : (a : Recorded set w i l₀ S) → n W ≡ size set w
    nset a = size_is set w i (view_now W) W (l₀ ++ S.made) (S.invariant a)

    b_taken : (v : ℕ) → AppliesB v W → Recorded set w i l₀ S → TakenAt set w v (formed W.memory v (n W) (own W))
    b_taken v a z =
        let X = S.invariant z in
        let k = timeout_window (view_now W) v a.window in
        let e = nset z in
        let s = X.set_is in
        subst (λ (k : ℕ). TakenAt set w v (formed W.memory v k (own W))) (sym e) (formed_taken set w H W.memory v (λ j h b. X.tables.timeouts_fine v j (record { first = k.from; last = k.to }) h b) (own W) (low z)
        (few set w i (view_now W) W (l₀ ++ S.made) X) k.below
        (subst (λ (t : Settings). timeout_quorum t ≤ kept_count W.memory (timeout_row v) (replicas t)) s a.enough))

    c_taken : (v : ℕ) (x : Name) → AppliesC v x W → Recorded set w i l₀ S
        → TakenAt set w v (block_certificate_bytes (own W) v x (signers_for v W x))
    c_taken v x a z =
        let X = S.invariant z in
        let k = ballot_window (view_now W) v a.window in
        let e = nset z in
        let s = X.set_is in
        let name = voted_name W X.regular v x a in
        subst (λ (k : ℕ). TakenAt set w v (block_certificate_bytes (own W) v x (tally W.memory (vote_row v) x k).signers)) (sym e)
        (block_taken set w H W.memory v x (own W) (low z) (few set w i (view_now W) W (l₀ ++ S.made) X) k.below name
        (λ j h b. X.tables.votes_true v j (record { first = k.from; last = k.to }) h b)
        (subst (λ (t : Settings). block_quorum t ≤ (tally W.memory (vote_row v) x (replicas t)).count) s a.enough))

    -- a certificate formed of view v, which its record says
    progress_sound : (v : ℕ) (r : List ℕ) → view_of_progress (certificate_of r) ≡ v → (Recorded set w i l₀ S → TakenAt set w v r) → Framed r → CertificateFits (certificate_of r)
        → Sound set w i l₀ (progress r W)
    progress_sound v r e F whole fit = (progressed set w i l₀ r W S (λ z. rw e (F z)) whole fit).sound

    -- the block that is released has the name that was decided
    held_name : (v : ℕ) (x : Name) → AppliesD v x W → (held_block W x).block.name ≡ x
    held_name v x a = go (same_bytes (tip W).name x) refl
      where
        go : (t : Bool) → same_bytes (tip W).name x ≡ t → (held_block W x).block.name ≡ x
        go true e = held_tip (tip W) (blocks W) x e
        go false e = (held_in (tip W) (blocks W) x e a.is_held).1

    released_by : (v : ℕ) (x : Name) → AppliesD v x W → Recorded set w i l₀ S → Direct (R set w) v (held_block W x).block.name
    released_by v x a z =
        let X = S.invariant z in
        let k = ballot_window (view_now W) v a.window in
        rw (held_name v x a) (direct set w H W.memory v x
        (λ j h b. X.tables.votes_true v j (record { first = k.from; last = k.to }) h b)
        (λ j h b. X.tables.commits_true v j (record { first = k.from; last = k.to }) h b)
        (subst (λ (t : Settings). (fast_quorum t ≤ (tally W.memory (vote_row v) x (replicas t)).count) ⊎ (slow_quorum t ≤ (tally W.memory (commit_row v) x (replicas t)).count)) X.set_is a.enough))

    -- the records of a release
    abbrev rows : ℕ → Name → List (List ℕ)
    rows v x = map (λ (c : Block). release_bytes (own W) v c.name c.height.0) (ancestry (tip W) (blocks W) (held_block W x).block)

    rows_framed : (v : ℕ) (x : Name) → AppliesD v x W → All Framed (rows v x)
    rows_framed v x a =
        let b = (held_block W x).block in
        let r = ancestry_last (tip W) (blocks W) b a.leads_down in
        releases_framed (own W) v (ancestry (tip W) (blocks W) b)
        (rw r.1.0 (all_append BlockTyped r.0 (b ∷ []) (row_typed W reg r.0 r.1.1) (all_one BlockTyped b (held_typed W reg b (applied_in v x W a)))))

    release_view : (v : ℕ) (b : Block) → view_now (release v b W) ≡ view_now W
    unfolding release releasing
    release_view v b = refl

    release_out : (v : ℕ) (x : Name) → (run_d v x W).out ≡ W.out ++ joined (rows v x)
    unfolding release releases
    release_out v x = refl

    d_sound : (v : ℕ) (x : Name) → AppliesD v x W → Sound set w i l₀ (run_d v x W)
    d_sound v x a =
        let k = ballot_window (view_now W) v a.window in
        let b = (held_block W x).block in
        record {
          made = S.made ++ rows v x;
          framed = all_append Framed S.made (rows v x) S.framed (rows_framed v x a);
          out_is = release_out v x ∙ ap (λ (o : List ℕ). o ++ joined (rows v x)) S.out_is ∙ sym (joined_append S.made (rows v x));
          invariant = λ z.
              let y = all_left (RecordIn w i) S.made (rows v x) z in
              subst (λ (l : List (List ℕ)). Invariant set w i (view_now (release v b W)) (release v b W) l) (append_assoc l₀ S.made (rows v x))
              (subst (λ (r : ℕ). Invariant set w i r (release v b W) ((l₀ ++ S.made) ++ rows v x)) (sym (release_view v b))
              (release_invariant set w i (view_now W) W (l₀ ++ S.made) (S.invariant y) v k.below b (applied_in v x W a) a.leads_down (released_by v x a y)));
        }

  -- the view that a formed certificate says
  formed_view : (W : Work) (v : ℕ) → AppliesB v W → view_of_progress (certificate_of (formed W.memory v (n W) (own W))) ≡ v
  formed_view W v a = ap (view_of_progress) (formed_read W.memory v (n W) (own W) (timeout_window (view_now W) v a.window).below)

  block_says : (W : Work) (v : ℕ) (x : Name) → AppliesC v x W → view_of_progress (certificate_of (block_certificate_bytes (own W) v x (signers_for v W x))) ≡ v
  block_says W v x a = form_view W _ ∙ block_view (own W) v x (signers_for v W x) (ballot_window (view_now W) v a.window).below

  -- it says a certificate that fits, on any content of the memory
  formed_fit : (W : Work) → Regular W → (v : ℕ) → AppliesB v W → CertificateFits (certificate_of (formed W.memory v (n W) (own W)))
  formed_fit W reg v a =
      let f = formed_form W.memory v (n W) (own W) reg.typed.memory reg.memory_long reg.few reg.member (timeout_window (view_now W) v a.window).below in
      form_fits (n W) (formed W.memory v (n W) (own W)) f.bytes f.form

  block_fit : (W : Work) → Regular W → (v : ℕ) (x : Name) → AppliesC v x W → CertificateFits (certificate_of (block_certificate_bytes (own W) v x (signers_for v W x)))
  unfolding CertificateFits
  block_fit W r v x a =
      let name = voted_name W r v x a in
      let small = (ballot_window (view_now W) v a.window).below in
      let word = tally_u64 W.memory (vote_row v) x (n W) r.few in
      rw (block_read (own W) v x (signers_for v W x) (omega (arith, r.member, r.few)) small name word) (omega (arith, small), name, word)

  -- ONE TURN, and any number of them
  turn_sound : (W W' : Work) → Regular W → Turn W W' → Sound set w i l₀ W → Sound set w i l₀ W'
  turn_sound W W' reg (by_a v a) S = a_sound W reg S v a.here
  turn_sound W W' reg (by_b v n a) S =
      progress_sound W reg S v _ (formed_view W v a.here) (b_taken W reg S v a.here) (formed_framed W reg v) (formed_fit W reg v a.here)
  turn_sound W W' reg (by_c v x n m a) S =
      progress_sound W reg S v _ (block_says W v x a.here) (c_taken W reg S v x a.here) (block_framed (own W) v x (signers_for v W x) (voted_name W reg v x a.here).size) (block_fit W reg v x a.here)
  turn_sound W W' reg (by_d v x n m o a) S = d_sound W reg S v x a.here

  turns_sound : (W W' : Work) → Regular W → Turns W W' → Sound set w i l₀ W → Sound set w i l₀ W'
  turns_sound W W' reg rest S = S
  turns_sound W W' reg (turn {W₁ = W₁} t more) S = turns_sound W₁ W' (turn_regular W W₁ reg t).0 more (turn_sound W W₁ reg t S)

  -- THE RULES KEEP THE INVARIANT: their run is such turns
  pub settle_sound : (W : Work) → Regular W → Sound set w i l₀ W → Sound set w i l₀ (settle W)
  settle_sound W r = turns_sound W (settle W) r (settle_is_the_loop W r)

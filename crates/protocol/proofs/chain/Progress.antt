-- A replica in the middle of a call (`Sound`): once the records written so far in this call are in the run, the invariant holds; so no step looks ahead. What a
-- progress certificate does keeps it. Assumes nothing.
use Prim.Native.Nat.{ℕ, suc, ◌^◌, ◌≤◌, ◌<◌}
use mathlib.Core.List.{List, [], ◌∷◌, ◌++◌, append_assoc}
use mathlib.Core.Logic.{inl, inr}
use mathlib.Core.Path.{◌≡◌, refl, sym, ap, subst, ◌∙◌}
use native.Mathlib.Omega.{arith}
use borrow.Author.Tests.{leb-true, leb-false, ltb-true}
use lib.Dec.{leb}
use lib.ListN.{length}
use Rattle.settings.specs.declared.Settings.{Settings}
use Rattle.settings.specs.Quorum.{last_view}
use Rattle.codec.specs.Names.{name_length}
use Rattle.wire.specs.Encode.{certificate_bytes, encode, joined}
use Rattle.wire.specs.Content.{Certificate, by_block, by_timeouts, certificate_of, Content, vote, commit, certificate, timeout, proposal, block, release, content}
use Rattle.wire.specs.Fit.{IsName, All, CertificateFits, CertificateProper, Fits, Proper}
use Rattle.wire.proofs.ReadBack.{read_written}
use Rattle.wire.proofs.Facts.{Framed}
use Rattle.certificate.specs.Safe.{safe_certificate}
use Rattle.memory.specs.Layout.{block_count_of, with_entry}
use Rattle.memory.specs.Window.{entered}
use Rattle.memory.specs.Kept.{keep}
use Rattle.memory.proofs.Header.{same_header, keep_head, entry_block_count}
use Rattle.memory.proofs.Entering.{entered_head}
use Rattle.memory.proofs.Apart.{commits, row_of, width_of}
use Rattle.counters.specs.Counters.{entering, adopting, with_locks, locks_of}
use Rattle.safety.specs.Rank.{Cert, ◌⊑◌, block_of}
use Rattle.safety.specs.Cluster.{Good, Signed, Progress}
use Rattle.safety.specs.Certificates.{cert}
use Rattle.safety.specs.Certificates as Safety
use Rattle.safety.specs.Trace as Trace
use Rattle.safety.specs.Run.{is_other}
use Rattle.protocol.specs.Work.{commit_record, Work, own, view_now, timed, tip, blocks, send, adopt, enter_by, keep_commit, send_commit}
use Rattle.protocol.specs.Typed.{CertificateTyped}
use Rattle.protocol.specs.Refusals.{view_of_progress}
use Rattle.protocol.specs.Events.{may_commit, safe_in, with_sender, commit_after, progress}
use Rattle.protocol.specs.OneChain.{reads}
use Rattle.protocol.proofs.call.Typing.{all_append}
use Rattle.protocol.proofs.Branch.{by_cases}
use Rattle.protocol.proofs.chain.Invariant.{Name, History, R, size, Sent, traced, Invariant}
use Rattle.protocol.proofs.chain.Records.{reads-encode, with_sender_lem, joined_more, vote_framed, sender_framed}
use Rattle.protocol.proofs.chain.Actions.{all_one, sent_invariant, raised, adopt-top, adopt_invariant, entered_invariant}
use Rattle.protocol.proofs.chain.Acts.{committed_invariant}

pub all_left : {A : Type 0} (P : A → Type 0) (l m : List A) → All P (l ++ m) → All P l
unfolding All
all_left P [] m a = tt
all_left P (x ∷ l) m a = (a.0, all_left P l m a.1)

pub all_right : {A : Type 0} (P : A → Type 0) (l m : List A) → All P (l ++ m) → All P m
unfolding All
all_right P [] m a = a
all_right P (x ∷ l) m a = all_right P l m a.1

pub all_head : {A : Type 0} (P : A → Type 0) (x : A) (l : List A) → All P (x ∷ l) → P x
unfolding All
all_head P x l a = a.0

pub framed_more : (l : List (List ℕ)) (r : List ℕ) → All Framed l → Framed r → All Framed (l ++ (r ∷ []))
framed_more l r a f = all_append Framed l (r ∷ []) a (all_one Framed r f)

-- ---- what a record of replica i says is in the history: its vote, commit or timeout, and the placement that its proposal gives
abbrev pub RecordOf : History → ℕ → Content → Type 0
RecordOf w i (vote j v x) = w.Voted i v x
RecordOf w i (commit j v x) = w.Committed i v x
RecordOf w i (certificate j k) = Unit {0}
RecordOf w i (timeout t) = w.TimedOut i (Safety.content t)
RecordOf w i (proposal j v x y h k) = w.Placed (record { name = x; parent = y; height = h })
RecordOf w i (block j x y h) = Unit {0}
RecordOf w i (release j v x h) = Unit {0}

abbrev pub RecordIn : History → ℕ → List ℕ → Type 0
RecordIn w i r = RecordOf w i (content r)

pub record_of : (w : History) (i : ℕ) (q : Content) → Fits q → RecordIn w i (encode q) → RecordOf w i q
record_of w i q f s = subst (RecordOf w i) (read_written q f) s

module _ (set : Settings) (w : History) where
  -- ---- a progress certificate that passes the tests, or is formed: r is its record, from replica `from`
  pub record Taken (r : List ℕ) : Type 0 where
    pub from : ℕ
    pub from_low : from < 2 ^ 16
    pub is : r ≡ certificate_bytes from (certificate_of r)
    pub fits : CertificateFits (certificate_of r)
    pub proper : CertificateProper (size set w) (certificate_of r)
    pub typed : CertificateTyped (safe_certificate set (certificate_of r))
    pub good : Good (R set w) (cert (safe_certificate set (certificate_of r)))
    pub signers : (safe_certificate set (certificate_of r)).signers < 2 ^ size set w

  -- its view u is below the last, and its safe certificate is at most of that view
  pub record TakenAt (u : ℕ) (r : List ℕ) : Type 0 where
    pub taken : Taken r
    pub below : u < last_view
    pub of_view : view_of_progress (certificate_of r) ≡ u
    pub backed : Progress (R set w) u (cert (safe_certificate set (certificate_of r)))
    pub safe_le : (safe_certificate set (certificate_of r)).view.0 ≤ u

module _ (set : Settings) (w : History) (i : ℕ) (l₀ : List (List ℕ)) where
  -- THE INVARIANT in the middle of a call, before which the records l₀ were made
  pub record Sound (W : Work) : Type 0 where
    pub made : List (List ℕ)
    pub out_is : W.out ≡ joined made
    pub framed : All Framed made
    pub invariant : All (RecordIn w i) made → Invariant set w i (view_now W) W (l₀ ++ made)

  -- the records that the call has made so far are in the history
  abbrev pub Recorded : {W : Work} → Sound W → Type 0
  Recorded S = All (RecordIn w i) S.made

  -- one record more
  pub grown : (P : List (List ℕ) → Type 0) (l : List (List ℕ)) (r : List ℕ) → P ((l₀ ++ l) ++ (r ∷ [])) → P (l₀ ++ (l ++ (r ∷ [])))
  grown P l r p = subst P (append_assoc l₀ l (r ∷ [])) p

  -- what an event leads to, from W: it adopts c, keeps store and tip, and, if it is of view u ≥ view, enters u + 1
  pub record Progressed (u : ℕ) (c : Cert Name) (W : Work) (S : Sound W) (W' : Work) : Type 0 where
    pub sound : Sound W'
    pub recorded : Recorded sound → Recorded S
    pub blocks_same : Recorded sound → blocks W' ≡ blocks W
    pub tip_same : tip W' ≡ tip W
    pub over : Recorded sound → c ⊑ (traced W'.counters).top
    pub views : view_now W ≤ u → view_now W' ≡ suc u
    pub rises : view_now W ≤ view_now W'

  module _ (r : List ℕ) (W : Work) (S : Sound W) (u : ℕ) (F : Recorded S → TakenAt set w u r) where
    abbrev k : Certificate
    k = certificate_of r

    abbrev W₁ : Work
    W₁ = adopt W (safe_in W k)

    abbrev s : List ℕ
    s = with_sender (own W) r

    abbrev l : List (List ℕ)
    l = l₀ ++ S.made

    safe_is : Recorded S → safe_in W k ≡ safe_certificate set k
    safe_is a = ap (λ (t : Settings). safe_certificate t k) (S.invariant a).set_is

    pub over_safe : Recorded S → cert (safe_certificate set k) ⊑ (traced W₁.counters).top
    over_safe a = rw (← safe_is a) (adopt-top set w i W (safe_in W k))

    pub adopted_invariant : (limit : ℕ) → view_now W ≤ limit → u < limit → limit ≤ last_view → (a : Recorded S) → Invariant set w i limit W₁ l
    adopted_invariant limit h b m a =
        let f = F a in
        rw (safe_is a) (adopt_invariant set w i limit W l (safe_certificate set k)
        (record { good = f.taken.good; below = omega (arith, f.safe_le, b); signers = f.taken.signers }) f.taken.typed
        (raised set w i (view_now W) limit W l h m (S.invariant a)))

    pub adopt_progressed : u < view_now W → Progressed u (cert (safe_certificate set k)) W S W₁
    unfolding adopt adopting with_locks
    adopt_progressed b = record {
      sound = record { made = S.made; out_is = S.out_is; framed = S.framed; invariant = λ a. adopted_invariant (view_now W) (omega arith) b (S.invariant a).certified.limit_le a };
      recorded = λ a. a;
      blocks_same = λ a. refl;
      tip_same = refl;
      over = over_safe;
      views = λ h. absurd (omega (arith, h, b));
      rises = omega arith;
    }

    -- sent on and entered
    abbrev W₃ : Work
    W₃ = enter_by (send W₁ s) (suc u) s

    own_same : own W₁ ≡ own W
    unfolding adopt
    own_same = refl

    sent_on : Recorded S → s ≡ certificate_bytes (own W) k
    sent_on a = ap (with_sender (own W)) (F a).taken.is ∙ with_sender_lem (F a).taken.from (own W) k

    cert_fits : Recorded S → Fits (certificate (own W) k)
    unfolding Fits
    cert_fits a = (omega (arith, (S.invariant a).regular.member, (S.invariant a).regular.few), (F a).taken.fits)

    cert_sent : Recorded S → Sent (size set w) s
    unfolding encode Proper
    cert_sent a = record { says = certificate (own W) k; is = sent_on a; fits = cert_fits a; passes = (F a).taken.proper }

    cert_reads : Recorded S → reads s ≡ is_other
    unfolding encode
    cert_reads a = rw (sent_on a) (reads-encode (certificate (own W) k) (cert_fits a))

    entered_one : view_now W ≤ u → (a : Recorded S) → Invariant set w i (suc u) W₃ (l ++ (s ∷ []))
    unfolding adopt
    entered_one h a =
        let f = F a in
        let X = adopted_invariant (suc u) (omega arith) (omega arith) (omega (arith, f.below)) a in
        entered_invariant set w i u (send W₁ s) (l ++ (s ∷ []))
        s
        (record { says = k; is = sent_on a; fits = f.taken.fits; proper = f.taken.proper; of_view = f.of_view; progress = f.backed })
        (sent_invariant set w i (suc u) W₁ l s (cert_sent a) (cert_reads a) X)

    entered_view : view_now W₃ ≡ suc u
    unfolding enter_by entering
    entered_view = refl

    entered_tip : tip W₃ ≡ tip W
    unfolding enter_by entering adopt adopting with_locks
    entered_tip = refl

    entered_blocks : blocks W₃ ≡ blocks W
    unfolding enter_by adopt
    entered_blocks =
        let m = W.memory in
        let v = view_now W₁ in
        let e : block_count_of (with_entry (entered m v (suc u)) s) ≡ block_count_of m = entry_block_count (entered m v (suc u)) s ∙ (same_header m (entered m v (suc u)) (entered_head m v (suc u))).block_count in
        rw e

    entered_over : Recorded S → cert (safe_certificate set k) ⊑ (traced W₃.counters).top
    unfolding enter_by entering locks_of
    entered_over a = over_safe a

    entered_out : W₃.out ≡ W.out ++ s
    unfolding enter_by adopt
    entered_out = refl

    entered_now : view_now W ≤ u → Recorded S → Invariant set w i (view_now W₃) W₃ (l ++ (s ∷ []))
    entered_now h a = subst (λ (z : ℕ). Invariant set w i z W₃ (l ++ (s ∷ []))) (sym entered_view) (entered_one h a)

    pub enter_progressed : Framed r → view_now W ≤ u → Progressed u (cert (safe_certificate set k)) W S W₃
    enter_progressed whole h = record {
      sound = record {
        made = S.made ++ (s ∷ []);
        framed = framed_more S.made s S.framed (sender_framed (own W) r whole);
        out_is = entered_out ∙ ap (λ (o : List ℕ). o ++ s) S.out_is ∙ sym (joined_more S.made s);
        invariant = λ a. grown (λ m. Invariant set w i (view_now W₃) W₃ m) S.made s (entered_now h (all_left (RecordIn w i) S.made (s ∷ []) a));
      };
      recorded = all_left (RecordIn w i) S.made (s ∷ []);
      blocks_same = λ a. entered_blocks;
      tip_same = entered_tip;
      over = λ a. entered_over (all_left (RecordIn w i) S.made (s ∷ []) a);
      views = λ z. entered_view;
      rises = omega (arith, entered_view, h);
    }

  -- ---- the commit after a block certificate
  module _ (v : ℕ) (x : Name) (W : Work) (S : Sound W) (W₃ : Work) (G : Progressed v (block_of v x) W S W₃) (h : view_now W ≤ v) (name : Recorded S → IsName x) (good : Recorded S → Good (R set w) (block_of v x))
      (small : Recorded S → v < last_view) (long : length x ≡ name_length) (late : timed W₃ < v) where
    abbrev q : List ℕ
    q = commit_record W₃ v x

    abbrev S₃ : Sound W₃
    S₃ = G.sound

    before : Recorded S₃ → Recorded S
    before = G.recorded

    signed : Good (R set w) (block_of v x) → Signed (R set w) (block_of v x)
    signed (inl z) = absurd (omega (arith, z, late))
    signed (inr z) = z

    did : (a : Recorded S₃) → RecordIn w i q → w.Committed i v x
    unfolding encode Fits
    did a z =
        let r = (S₃.invariant a).regular in
        record_of w i (commit (own W₃) v x) (omega (arith, r.member, r.few), omega (arith, small (before a)), name (before a)) z

    commit_one : (a : Recorded S₃) → RecordIn w i q → Invariant set w i (view_now W₃) (send_commit v x W₃) ((l₀ ++ S₃.made) ++ (q ∷ []))
    commit_one a z =
        let e = G.views h in
        committed_invariant set w i (view_now W₃) W₃ (l₀ ++ S₃.made) (S₃.invariant a) v x (small (before a)) (name (before a)) late
        (record { first = omega (arith, e, late); last = omega (arith, e) }) (G.over a) (signed (good (before a))) (did a z)

    commit_view : view_now (send_commit v x W₃) ≡ view_now W₃
    unfolding send_commit keep_commit
    commit_view = refl

    commit_tip : tip (send_commit v x W₃) ≡ tip W₃
    unfolding send_commit keep_commit
    commit_tip = refl

    commit_out : (send_commit v x W₃).out ≡ W₃.out ++ q
    unfolding send_commit keep_commit
    commit_out = refl

    commit_top : traced (send_commit v x W₃).counters ≡ traced W₃.counters
    unfolding send_commit keep_commit
    commit_top = refl

    commit_blocks : Recorded S₃ → blocks (send_commit v x W₃) ≡ blocks W₃
    unfolding send_commit keep_commit
    commit_blocks a =
        let r = (S₃.invariant a).regular in
        let e = (same_header W₃.memory (keep W₃.memory (row_of commits v) (width_of commits) (own W₃) x) (keep_head W₃.memory commits v (own W₃) x (name (before a)).size (omega (arith, r.member, r.few)))).block_count in
        rw e

    earlier : All (RecordIn w i) (S₃.made ++ (q ∷ [])) → Recorded S₃
    earlier = all_left (RecordIn w i) S₃.made (q ∷ [])

    pub commit_progressed : Progressed v (block_of v x) W S (send_commit v x W₃)
    commit_progressed = record {
      sound = record {
        made = S₃.made ++ (q ∷ []);
        framed = framed_more S₃.made q S₃.framed (vote_framed 2 (own W₃) v x long);
        out_is = commit_out ∙ ap (λ (o : List ℕ). o ++ q) S₃.out_is ∙ sym (joined_more S₃.made q);
        invariant = λ a. grown (λ m. Invariant set w i (view_now (send_commit v x W₃)) (send_commit v x W₃) m) S₃.made q
            (subst (λ (z : ℕ). Invariant set w i z (send_commit v x W₃) ((l₀ ++ S₃.made) ++ (q ∷ []))) (sym commit_view)
            (commit_one (earlier a) (all_head (RecordIn w i) q [] (all_right (RecordIn w i) S₃.made (q ∷ []) a))));
      };
      recorded = λ a. before (earlier a);
      blocks_same = λ a. commit_blocks (earlier a) ∙ G.blocks_same (earlier a);
      tip_same = commit_tip ∙ G.tip_same;
      over = λ a. subst (λ (z : Trace.Replica Name). block_of v x ⊑ z.top) (sym commit_top) (G.over (earlier a));
      views = λ m. commit_view ∙ G.views m;
      rises = omega (arith, commit_view, G.rises);
    }

  -- WHAT A PROGRESS CERTIFICATE DOES
  module _ (r : List ℕ) (W : Work) (S : Sound W) (F : Recorded S → TakenAt set w (view_of_progress (certificate_of r)) r) (whole : Framed r)
      (fit : CertificateFits (certificate_of r)) where
    abbrev vᵣ : ℕ
    vᵣ = view_of_progress (certificate_of r)

    abbrev Wₑ : Work
    Wₑ = enter_by (send (adopt W (safe_in W (certificate_of r))) (with_sender (own W) r)) (suc vᵣ) (with_sender (own W) r)

    -- by kind: only a block certificate has a commit after it
    after_progressed : (k : Certificate) (W₄ : Work) → view_now W ≤ view_of_progress k → Progressed (view_of_progress k) (cert (safe_certificate set k)) W S W₄ → CertificateFits k
        → (Recorded S → Good (R set w) (cert (safe_certificate set k))) → (Recorded S → view_of_progress k < last_view)
        → Progressed (view_of_progress k) (cert (safe_certificate set k)) W S (commit_after k W₄)
    unfolding safe_certificate CertificateFits
    after_progressed (by_block u x g) W₄ h G f good b =
        by_cases (λ (W' : Work). Progressed u (block_of u x) W S W') (may_commit u W₄) (send_commit u x W₄) W₄
        (λ e. commit_progressed u x W S W₄ G h (λ a. f.1) good b f.1.size (ltb-true (timed W₄) u e))
        (λ e. G)
    after_progressed (by_timeouts u ts) W₄ h G f good b = G

    pub progressed : Progressed vᵣ (cert (safe_certificate set (certificate_of r))) W S (progress r W)
    unfolding progress
    progressed =
        by_cases (λ (W' : Work). Progressed vᵣ (cert (safe_certificate set (certificate_of r))) W S W') (leb (view_now W) vᵣ) (commit_after (certificate_of r) Wₑ) (adopt W (safe_in W (certificate_of r)))
        (λ e. let h = leb-true (view_now W) vᵣ e in
        after_progressed (certificate_of r) Wₑ h (enter_progressed r W S vᵣ F whole h) fit (λ a. (F a).taken.good) (λ a. (F a).below))
        (λ e. adopt_progressed r W S vᵣ F (leb-false (view_now W) vᵣ e))

-- The acts of a replica keep the invariant: commit, vote and timeout are sent, kept and are acts of its trace. Assumes nothing.
use Prim.Native.Nat.{ℕ, ◌^◌, ◌≤◌, ◌<◌}
use mathlib.Core.Bool.{Bool, true, false, cond}
use mathlib.Core.List.{List, [], ◌∷◌, ◌++◌}
use mathlib.Core.Logic.{◌⊎◌, inl, inr, ⊎_elim}
use mathlib.Core.Path.{◌≡◌, refl, ap}
use native.Mathlib.Omega.{arith}
use Rattle.settings.specs.declared.Settings.{Settings}
use Rattle.settings.specs.Quorum.{last_view}
use Rattle.codec.specs.Names.{same_bytes, zero_name}
use Rattle.codec.proofs.Order.{same_eq, same_ne}
use Rattle.wire.specs.declared.Timeout.{Timeout}
use Rattle.wire.specs.declared.Vote.{Vote}
use Rattle.wire.specs.Encode.{timeout_bytes, encode}
use Rattle.wire.specs.Content.{Content, vote, commit, timeout}
use Rattle.wire.specs.Fit.{IsName, TimeoutFits, TimeoutProper, Fits, Proper}
use Rattle.wire.proofs.Lengths.{length_timeout}
use Rattle.wire.proofs.Tables.{bytes_encode}
use Rattle.certificate.specs.declared.Certificate.{Certificate}
use Rattle.certificate.specs.Rank.{highest}
use Rattle.certificate.specs.Order.{kept}
use Rattle.certificate.proofs.Adopting.{highest_has}
use Rattle.memory.proofs.Apart.{votes, commits, timeouts}
use Rattle.memory.proofs.Entering.{Windowed}
use Rattle.counters.specs.Counters.{locks_of, timing, voting}
use Rattle.safety.specs.Rank.{Cert, ◌⊑◌, block_of}
use Rattle.safety.specs.Cluster.{Signed}
use Rattle.safety.specs.Certificates.{cert}
use Rattle.safety.specs.Certificates as Seen
use Rattle.safety.specs.Select.{Fine}
use Rattle.safety.specs.Run.{is_vote, is_commit, is_timeout}
use Rattle.safety.specs.Match.{an_act}
use Rattle.safety.specs.Trace.{does}
use Rattle.safety.specs.Trace as Trace
use Rattle.safety.proofs.Rank.{⊑_refl}
use Rattle.safety.proofs.Certificates as Cands
use Rattle.protocol.specs.Work.{commit_record, vote_record, Work, view, own, view_now, timed, high_vote_view, tip, blocks, with_counters, send, keep_timeout, send_vote, send_commit, own_timeout, send_timeout}
use Rattle.protocol.specs.Typed.{CountersTyped}
use Rattle.protocol.specs.OneChain.{reads}
use Rattle.protocol.proofs.call.Typing.{all_append}
use Rattle.protocol.proofs.call.Regular.{counters_regular, send_regular}
use Rattle.protocol.proofs.call.Actions.{own_high, own_carries, own_timeout_fits}
use Rattle.protocol.proofs.chain.Invariant.{Name, History, R, size, Sent, traced, VoteGround, GoodBelow, Invariant}
use Rattle.protocol.proofs.chain.Records.{reads-encode}
use Rattle.protocol.proofs.chain.Actions.{row_same, all_one, size_is, few, chained_same, vote_invariant, commit_invariant, timeout_invariant}

kind_proper : (b : Bool) → (◌≡◌ {A = ℕ} (cond b 3 4) 3) ⊎ (◌≡◌ {A = ℕ} (cond b 3 4) 4)
kind_proper true = inl refl
kind_proper false = inr refl

module _ (set : Settings) (w : History) (i limit : ℕ) (W : Work) (l : List (List ℕ)) (X : Invariant set w i limit W l) where
  own_low : own W < 2 ^ 16
  own_low = omega (arith, X.regular.member, X.regular.few)

  own-size : own W < size set w
  own-size = omega (arith, X.regular.member, size_is set w i limit W l X)

  -- ---- a commit
  module _ (v : ℕ) (x : Name) (small : v < last_view) (name : IsName x) where
    abbrev q : Content
    q = commit (own W) v x

    commit_fits : Fits q
    unfolding Fits
    commit_fits = (own_low, omega (arith, small), name)

    commit_reads : reads (commit_record W v x) ≡ is_commit v x
    unfolding encode
    commit_reads = reads-encode q commit_fits

    commit_sent : 0 < v → Sent (size set w) (commit_record W v x)
    unfolding encode Proper
    commit_sent h = record { says = q; is = refl; fits = commit_fits; passes = go (same_bytes x zero_name) refl }
      where
        go : (b : Bool) → same_bytes x zero_name ≡ b → (x ≡ zero_name → ⊥) ⊎ ((x ≡ zero_name) × (0 < v))
        go true e = inr (same_eq x zero_name e, h)
        go false e = inl (same_ne x zero_name e)

    pub committed_invariant : timed W < v → Windowed commits (view_now W) v → block_of v x ⊑ (traced W.counters).top → Signed (R set w) (block_of v x) → w.Committed i v x
        → Invariant set w i limit (send_commit v x W) (l ++ (commit_record W v x ∷ []))
    unfolding send_commit
    committed_invariant late in_window over signed did =
        let r = commit_record W v x in
        commit_invariant set w i limit (send W r) (l ++ (r ∷ [])) v (own W) x name.bytes own-size (record {
          regular = send_regular W r X.regular;
          set_is = X.set_is;
          mine = X.mine;
          sent = all_append (Sent (size set w)) l (r ∷ []) X.sent (all_one (Sent (size set w)) r (commit_sent (omega (arith, late))));
          acted = record {
            acts = Trace.commit v x ∷ X.acted.acts;
            matches = an_act r (Trace.commit v x) X.acted.matches commit_reads;
            trace = does X.acted.trace (Trace.commit v x) (record {
              commit_in_time = late;
              quietly = record { high_view_is = refl; high_name_is = refl; timed_is = refl; top_up = ⊑_refl (traced W.counters).top };
              adopts = over;
            });
            vote_on = X.acted.vote_on;
            commit_on = λ u y. ⊎_elim (λ e. rw (e.0, e.1) signed) (X.acted.commit_on u y);
          };
          certified = X.certified;
          tables = X.tables;
          chained = chained_same set w i l (l ++ (r ∷ [])) (tip W) (blocks W) (row_same l r (is_commit v x) commit_reads refl) X.chained;
        }) name.size in_window (record { below = small; truly = λ h. rw X.mine did })

  -- ---- a vote
  module _ (v : ℕ) (x : Name) (small : v < last_view) (name : IsName x) (named : x ≡ zero_name → ⊥) where
    vote_fits : Fits (vote (own W) v x)
    unfolding Fits
    vote_fits = (own_low, omega (arith, small), name)

    vote_reads : reads (vote_record W v x) ≡ is_vote v x
    unfolding encode
    vote_reads = reads-encode (vote (own W) v x) vote_fits

    vote_sent : Sent (size set w) (vote_record W v x)
    unfolding encode Proper
    vote_sent = record { says = vote (own W) v x; is = refl; fits = vote_fits; passes = named }

    pub voted_invariant : (c : Cert Name) → timed W < v → high_vote_view W < v → v ≤ limit → Windowed votes (view_now W) v → c ⊑ (traced W.counters).top → VoteGround set w v x c → w.Voted i v x
        → Invariant set w i limit (send_vote v x W) (l ++ (vote_record W v x ∷ []))
    unfolding send_vote voting locks_of
    voted_invariant c late first le in_window over ground did =
        let r = vote_record W v x in
        let h : Vote = record { view = view v; name = x } in
        let C = X.certified in
        let W₁ = send (with_counters W (voting W.counters h)) r in
        let t = X.regular.typed.counters in
        let typed : CountersTyped (voting W.counters h) = record { view = t.view; timed = t.timed; high = record { view = omega (arith, small); name = name }; lock = t.lock; weak = t.weak; tip = t.tip } in
        vote_invariant set w i limit W₁ (l ++ (r ∷ [])) v (own W) x name.bytes own-size (record {
          regular = send_regular (with_counters W (voting W.counters h)) r
              (counters_regular W (voting W.counters h) typed X.regular.view_first X.regular.view_last X.regular);
          set_is = X.set_is;
          mine = X.mine;
          sent = all_append (Sent (size set w)) l (r ∷ []) X.sent (all_one (Sent (size set w)) r vote_sent);
          acted = record {
            acts = Trace.vote v x c ∷ X.acted.acts;
            matches = an_act r (Trace.vote v x c) X.acted.matches vote_reads;
            trace = does X.acted.trace (Trace.vote v x c) (record {
              vote_in_time = late;
              first = first;
              high_view_is = refl;
              high_name_is = refl;
              timed_is = refl;
              top_up = ⊑_refl (traced W.counters).top;
              adopts = over;
            });
            vote_on = λ u y d. ⊎_elim (λ e. rw (e.0, e.1, e.2) ground) (X.acted.vote_on u y d);
            commit_on = X.acted.commit_on;
          };
          certified = record {
            view_le = C.view_le;
            limit_le = C.limit_le;
            high_le = le;
            high_named = λ z. absurd (omega (arith, first, z));
            high_viewed = λ z. absurd (named z);
            lock = C.lock;
            weak = C.weak;
            before = C.before;
            view_is = C.view_is;
            entered = C.entered;
          };
          tables = X.tables;
          chained = chained_same set w i l (l ++ (r ∷ [])) (tip W) (blocks W) (row_same l r (is_vote v x) vote_reads refl) X.chained;
        }) name.size in_window (record { below = small; truly = λ z. rw X.mine did })

  -- ---- a timeout
  module _ (v : ℕ) (small : v < last_view) (le : limit ≤ v) where
    abbrev t : Timeout
    t = own_timeout W v

    abbrev k : Certificate
    k = highest (locks_of W.counters)

    highest_good : GoodBelow set w limit k
    unfolding locks_of
    highest_good = highest_has (GoodBelow set w limit) (locks_of W.counters) (λ b. both b)
      where
        both : (b : Bool) → GoodBelow set w limit (kept b (locks_of W.counters))
        both true = X.certified.lock
        both false = X.certified.weak

    timeout_fits : TimeoutFits t
    timeout_fits = own_timeout_fits W v (omega (arith, small)) X.regular

    timeout_proper : TimeoutProper (size set w) t
    unfolding own_timeout
    timeout_proper = record {
      kind = kind_proper k.block;
      named = rw (own_high W v) X.certified.high_named;
      viewed = rw (own_high W v) X.certified.high_viewed;
      signers = highest_good.signers;
    }

    timeout_reads : reads (timeout_bytes t) ≡ is_timeout (Seen.content t)
    unfolding encode Fits
    timeout_reads = reads-encode (timeout t) timeout_fits

    timeout_sent : Sent (size set w) (timeout_bytes t)
    unfolding encode Proper Fits
    timeout_sent = record { says = timeout t; is = refl; fits = timeout_fits; passes = timeout_proper }

    timeout_fine : w.TimedOut i (Seen.content t) → Fine Cands.held (R set w) v t
    unfolding own_timeout
    timeout_fine did = record {
      of_view = refl;
      high_le = let e = ap (λ (h : Vote). h.view.0) (own_high W v) in omega (arith, X.certified.high_le, le, e);
      carried_good = rw (own_carries W v) highest_good.good;
      carried_le = let e = ap (λ (c : Certificate). c.view.0) (own_carries W v) in omega (arith, highest_good.below, le, e);
      truly = λ b h. rw X.mine did;
    }

    sender-own : t.sender ≡ own W
    unfolding own_timeout
    sender-own = refl

    -- as the trace sees it
    timeout_step : timed W < v → Trace.TimeoutStep (Seen.content t) (traced W.counters) (traced (timing W.counters (view v)))
    unfolding own_timeout timing locks_of
    timeout_step late = record {
      later = late;
      says_view = ap (λ (h : Vote). h.view.0) (own_high W v);
      says_name = ap (λ (h : Vote). h.name) (own_high W v);
      carries = ap cert (own_carries W v);
      timed_is = refl;
      high_view_is = refl;
      high_name_is = refl;
      top_is = refl;
    }

    pub timed_invariant : timed W < v → Windowed timeouts (view_now W) v → w.TimedOut i (Seen.content t)
        → Invariant set w i limit (send_timeout v W) (l ++ (timeout_bytes t ∷ []))
    unfolding send_timeout keep_timeout timing locks_of encode Fits
    timed_invariant late in_window did =
        let r = timeout_bytes t in
        let C = X.certified in
        let c = X.regular.typed.counters in
        let typed : CountersTyped (timing W.counters (view v)) = record { view = c.view; timed = omega (arith, small); high = c.high; lock = c.lock; weak = c.weak; tip = c.tip } in
        let W₁ = send (with_counters W (timing W.counters (view v))) r in
        timeout_invariant set w i limit W₁ (l ++ (r ∷ [])) v (own W) r (bytes_encode (timeout t) timeout_fits) own-size (record {
          regular = send_regular (with_counters W (timing W.counters (view v))) r
              (counters_regular W (timing W.counters (view v)) typed X.regular.view_first X.regular.view_last X.regular);
          set_is = X.set_is;
          mine = X.mine;
          sent = all_append (Sent (size set w)) l (r ∷ []) X.sent (all_one (Sent (size set w)) r timeout_sent);
          acted = record {
            acts = Trace.timeout (Seen.content t) ∷ X.acted.acts;
            matches = an_act r (Trace.timeout (Seen.content t)) X.acted.matches timeout_reads;
            trace = does X.acted.trace (Trace.timeout (Seen.content t)) (timeout_step late);
            vote_on = X.acted.vote_on;
            commit_on = X.acted.commit_on;
          };
          certified = record {
            view_le = C.view_le;
            limit_le = C.limit_le;
            high_le = C.high_le;
            high_named = C.high_named;
            high_viewed = C.high_viewed;
            lock = C.lock;
            weak = C.weak;
            before = C.before;
            view_is = C.view_is;
            entered = C.entered;
          };
          tables = X.tables;
          chained = chained_same set w i l (l ++ (r ∷ [])) (tip W) (blocks W) (row_same l r (is_timeout (Seen.content t)) timeout_reads refl) X.chained;
        }) (length_timeout t timeout_fits) in_window (record { below = small; says = t; is = refl; fits = timeout_fits; proper = timeout_proper; from = sender-own; fine = timeout_fine did })

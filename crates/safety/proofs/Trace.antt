-- What a trace leaves, and that the traces of the honest replicas make a run `Lawful`. Assumes nothing.
use mathlib.Core.List.{List, [], ◌∷◌}
use mathlib.Core.Logic.{inl, inr, ⊎_elim}
use mathlib.Core.Path.{◌≡◌, refl, sym, ap, ◌∙◌}
use Prim.Native.Nat.{ℕ, ◌≤◌, ◌<◌}
use native.Mathlib.Omega.{arith}
use lib.Dec.{T}
use Rattle.safety.specs.Rank.{Cert, ◌⊑◌, block_of}
use Rattle.safety.specs.Cluster.{Cluster, Timeout, size, EachHonest, EnoughHonest, Lawful, HighVoted}
use Rattle.safety.specs.Trace.{Replica, Act, vote, commit, timeout, VoteStep, CommitStep, TimeoutStep, QuietStep, Trace, opened, quiet, does, Votes, Commits, Timeouts, Traced, Grounded}
use Rattle.safety.proofs.Rank.{⊑_trans}

module _ {Name : Type 0} where
  -- what holds of a trace's acts and of the replica after them
  pub record Sound (l : List (Act Name)) (s : Replica Name) : Type 0 where
    pub vote_le : (v : ℕ) (x : Name) (c : Cert Name) → Votes l v x c → v ≤ s.high_view
    pub vote_top : (v : ℕ) (x : Name) (c : Cert Name) → Votes l v x c → c ⊑ s.top
    pub commit_top : (v : ℕ) (x : Name) → Commits l v x → block_of v x ⊑ s.top
    pub timeout_le : (t : Timeout Name) → Timeouts l t → t.view ≤ s.timed
    pub high_voted : 0 < s.high_view → (c : Cert Name) × Votes l s.high_view s.high_name c
    -- the pairs
    pub vote_vote : (v : ℕ) (x y : Name) (c d : Cert Name) → Votes l v x c → Votes l v y d → x ≡ y
    pub vote_timeout : (v : ℕ) (x : Name) (c : Cert Name) (t : Timeout Name) → Votes l v x c → Timeouts l t → v ≤ t.view
        → (v ≤ t.high_view) × (c ⊑ t.carried)
    pub commit_timeout : (v : ℕ) (x : Name) (t : Timeout Name) → Commits l v x → Timeouts l t → v ≤ t.view → block_of v x ⊑ t.carried
    pub timeout_high : (t : Timeout Name) → Timeouts l t → 0 < t.high_view → (c : Cert Name) × Votes l t.high_view t.high_name c

  sound_open : (s : Replica Name) → s.high_view ≡ 0 → Sound [] s
  sound_open s e = record {
    vote_le = λ v x c b. absurd b;
    vote_top = λ v x c b. absurd b;
    commit_top = λ v x b. absurd b;
    timeout_le = λ t b. absurd b;
    high_voted = λ h. absurd (omega arith);
    vote_vote = λ v x y c d b. absurd b;
    vote_timeout = λ v x c t b. absurd b;
    commit_timeout = λ v x t b. absurd b;
    timeout_high = λ t b. absurd b;
  }

  sound_quiet : (l : List (Act Name)) (s s' : Replica Name) → Sound l s → QuietStep s s' → Sound l s'
  sound_quiet l s s' S st = record {
    vote_le = λ v x c b. omega (arith, S.vote_le v x c b);
    vote_top = λ v x c b. ⊑_trans (S.vote_top v x c b) st.top_up;
    commit_top = λ v x b. ⊑_trans (S.commit_top v x b) st.top_up;
    timeout_le = λ t b. omega (arith, S.timeout_le t b);
    high_voted = λ h. rw (st.high_view_is, st.high_name_is) (S.high_voted (omega arith));
    vote_vote = S.vote_vote;
    vote_timeout = S.vote_timeout;
    commit_timeout = S.commit_timeout;
    timeout_high = S.timeout_high;
  }

  sound_vote : (l : List (Act Name)) (s s' : Replica Name) → Sound l s → (v : ℕ) (x : Name) (c : Cert Name) → VoteStep v x c s s' → Sound (vote v x c ∷ l) s'
  sound_vote l s s' S u y d st = record {
    vote_le = λ v x c. ⊎_elim (λ e. omega (arith, e.0)) (λ b. omega (arith, S.vote_le v x c b));
    vote_top = λ v x c. ⊎_elim (λ e. rw e.2 st.adopts) (λ b. ⊑_trans (S.vote_top v x c b) st.top_up);
    commit_top = λ v x b. ⊑_trans (S.commit_top v x b) st.top_up;
    timeout_le = λ t b. omega (arith, S.timeout_le t b);
    high_voted = λ h. (d, inl (st.high_view_is, st.high_name_is, refl));
    vote_vote = λ v x z c c'. ⊎_elim
        (λ e. ⊎_elim (λ e'. e.1 ∙ sym e'.1) (λ b. absurd (omega (arith, e.0, S.vote_le v z c' b))))
        (λ b. ⊎_elim (λ e. absurd (omega (arith, e.0, S.vote_le v x c b))) (S.vote_vote v x z c c' b));
    vote_timeout = λ v x c t. ⊎_elim (λ e b m. absurd (omega (arith, e.0, S.timeout_le t b))) (S.vote_timeout v x c t);
    commit_timeout = S.commit_timeout;
    timeout_high = λ t b h. let r = S.timeout_high t b h in (r.0, inr r.1);
  }

  sound_commit : (l : List (Act Name)) (s s' : Replica Name) → Sound l s → (v : ℕ) (x : Name) → CommitStep v x s s' → Sound (commit v x ∷ l) s'
  sound_commit l s s' S u y st =
      let q = sound_quiet l s s' S st.quietly in
      record {
        vote_le = q.vote_le;
        vote_top = q.vote_top;
        commit_top = λ v x. ⊎_elim (λ e. rw (e.0, e.1) st.adopts) (q.commit_top v x);
        timeout_le = q.timeout_le;
        high_voted = q.high_voted;
        vote_vote = S.vote_vote;
        vote_timeout = S.vote_timeout;
        commit_timeout = λ v x t. ⊎_elim (λ e b m. absurd (omega (arith, st.commit_in_time, e.0, S.timeout_le t b))) (S.commit_timeout v x t);
        timeout_high = S.timeout_high;
      }

  sound_timeout : (l : List (Act Name)) (s s' : Replica Name) → Sound l s → (t : Timeout Name) → TimeoutStep t s s' → Sound (timeout t ∷ l) s'
  sound_timeout l s s' S t st = record {
    vote_le = λ v x c b. omega (arith, S.vote_le v x c b);
    vote_top = λ v x c b. rw st.top_is (S.vote_top v x c b);
    commit_top = λ v x b. rw st.top_is (S.commit_top v x b);
    timeout_le = λ t'. ⊎_elim (λ e. omega (arith, ap (λ (h : Timeout Name). h.view) e)) (λ b. omega (arith, S.timeout_le t' b));
    high_voted = λ h. rw (st.high_view_is, st.high_name_is) (S.high_voted (omega arith));
    vote_vote = S.vote_vote;
    vote_timeout = λ v x c t' b. ⊎_elim (λ e m. rw e (omega (arith, S.vote_le v x c b), rw st.carries (S.vote_top v x c b))) (S.vote_timeout v x c t' b);
    commit_timeout = λ v x t' b. ⊎_elim (λ e m. rw (e, st.carries) (S.commit_top v x b)) (S.commit_timeout v x t' b);
    timeout_high = λ t'. ⊎_elim
        (λ e h. rw (e, st.says_view, st.says_name) (S.high_voted (omega (arith, ap (λ (k : Timeout Name). k.high_view) e))))
        (S.timeout_high t');
  }

  pub sound : (l : List (Act Name)) (s : Replica Name) → Trace l s → Sound l s
  sound l s (opened e e') = sound_open s e'
  sound l s (quiet {s = s₀} tr st) = sound_quiet l s₀ s (sound l s₀ tr) st
  sound l s (does {l = l₀} {s = s₀} tr (vote v x c) st) = sound_vote l₀ s₀ s (sound l₀ s₀ tr) v x c st
  sound l s (does {l = l₀} {s = s₀} tr (commit v x) st) = sound_commit l₀ s₀ s (sound l₀ s₀ tr) v x st
  sound l s (does {l = l₀} {s = s₀} tr (timeout t) st) = sound_timeout l₀ s₀ s (sound l₀ s₀ tr) t st

module _ {Name : Type 0} (R : Cluster Name) (tr : EachHonest R (Traced R)) where
  ok : (i : ℕ) (l : i < size R) (h : T (R.honest i)) → Sound (tr i l h).acts (tr i l h).replica
  ok i l h = sound (tr i l h).acts (tr i l h).replica (tr i l h).trace

  pub high_votes : HighVoted R
  high_votes i l h t q m =
      let r = (ok i l h).timeout_high t ((tr i l h).timed_out t q) m in
      (tr i l h).did_vote t.high_view t.high_name r.0 r.1

  pub lawful : EnoughHonest R → ((i : ℕ) (l : i < size R) (h : T (R.honest i)) → Grounded R i (tr i l h)) → Lawful R
  lawful many gr = record {
    enough_honest = many;
    vote_once = λ i l h v x y p q.
        let a = (tr i l h).voted v x p in
        let b = (tr i l h).voted v y q in
        (ok i l h).vote_vote v x y a.0 b.0 a.1 b.1;
    vote_why = λ i l h v x p.
        let a = (tr i l h).voted v x p in
        let o = (gr i l h).vote_on v x a.0 a.1 in
        record {
          before = o.0;
          before_is = o.1;
          safe = a.0;
          progress = o.2;
          parent = o.3;
          kept = λ t q m. ((ok i l h).vote_timeout v x a.0 t a.1 ((tr i l h).timed_out t q) m).1;
        };
    commit_why = λ i l h v x p.
        let a = (tr i l h).committed v x p in
        record { signed = (gr i l h).commit_on v x a; kept = λ t q m. (ok i l h).commit_timeout v x t a ((tr i l h).timed_out t q) m };
    high_above = λ i l h t q v x p m.
        let a = (tr i l h).voted v x p in
        ((ok i l h).vote_timeout v x a.0 t a.1 ((tr i l h).timed_out t q) m).0;
    high_voted = high_votes;
  }

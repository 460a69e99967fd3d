-- Each action of a replica keeps the invariant: keeping what others sent, adopting, entering, the acts (vote, commit, timeout), holding a block, releasing.
-- Assumes nothing.
use Prim.Native.Nat.{ℕ, suc, ◌^◌, ◌≤◌, ◌<◌}
use mathlib.Core.Bool.{Bool, true, false}
use mathlib.Core.List.{List, [], ◌∷◌, ◌++◌, append_assoc, append-nil}
use mathlib.Core.Path.{◌≡◌, refl, sym, ap, subst, ◌∙◌}
use native.Mathlib.Omega.{arith}
use lib.Dec.{T}
use lib.ListN.{length, drop, set, length-take, length-drop}
use Rattle.settings.specs.declared.Settings.{Settings}
use Rattle.settings.specs.declared.View.{View}
use Rattle.settings.specs.Quorum.{largest, last_view, replicas}
use Rattle.codec.specs.Bytes.{IsBytes, part}
use Rattle.codec.specs.Names.{name_length}
use Rattle.wire.specs.Fields.{timeout_length}
use Rattle.wire.specs.Content as Content
use Rattle.wire.specs.Fit.{All}
use Rattle.certificate.specs.declared.Certificate.{Certificate}
use Rattle.certificate.specs.declared.Locks.{Locks}
use Rattle.certificate.specs.Rank.{adopted}
use Rattle.certificate.specs.Order.{kept}
use Rattle.certificate.proofs.Adopting.{adopted_has, kinds_kept, highest_new, highest-adopted}
use Rattle.blocks.specs.declared.Block.{Block}
use Rattle.memory.specs.Layout.{memory_length, entry_room, entry_place, entry_length_of, entry_of, block_count_of, with_entry}
use Rattle.memory.specs.Kept.{keep}
use Rattle.memory.specs.Window.{entered}
use Rattle.memory.proofs.Apart.{Table, votes, commits, timeouts, row_of, width_of}
use Rattle.memory.proofs.Header.{SameHeader, same_header, keep_head, entry_put, entry_block_count}
use Rattle.memory.proofs.Entering.{Windowed, entered_head, length-entered}
use Rattle.counters.specs.declared.Counters.{Counters}
use Rattle.counters.specs.Counters.{certificate_of, signed_of, locks_of, with_locks, adopting, entering}
use Rattle.safety.specs.Rank.{◌⊑◌}
use Rattle.safety.specs.Cluster as Cluster
use Rattle.safety.specs.Certificates.{cert}
use Rattle.safety.specs.Certificates as Seen
use Rattle.safety.specs.Run.{Read, is_vote, is_commit, is_timeout, is_release, is_other, released}
use Rattle.safety.specs.Match.{no_act}
use Rattle.safety.specs.Trace.{quiet}
use Rattle.safety.specs.Trace as Trace
use Rattle.safety.proofs.Rank.{⊑_refl}
use Rattle.safety.proofs.Certificates.{admissible}
use Rattle.safety.proofs.Certificates as Cands
use Rattle.protocol.specs.Work.{Work, view, settings, n, own, view_now, timed, tip, blocks, with_memory, send, keep_vote, keep_commit, keep_timeout, adopt, enter_by}
use Rattle.protocol.specs.Typed.{CertificateTyped}
use Rattle.protocol.specs.OneChain.{reads}
use Rattle.protocol.proofs.call.Typing.{all_append}
use Rattle.protocol.proofs.call.Regular.{Regular, keep_regular, send_regular, adopt_regular, enter_regular}
use Rattle.protocol.proofs.chain.Tables.{keep_holds, other_holds, entry_holds, entered_holds}
use Rattle.protocol.proofs.chain.Invariant.{Name, History, size, Sent, traced, row_in, GoodBelow, Entry, Certified, VoteKept, CommitKept, TimeoutKept, Tables, Chained, Invariant}
use Rattle.protocol.proofs.chain.Records.{certificate_form, certificate_bytes_lem, form_short}

-- ---- the row of releases in a list of records
abbrev pub row_one : Read Name → List (Name × ℕ)
row_one (is_vote v x) = []
row_one (is_commit v x) = []
row_one (is_timeout t) = []
row_one (is_release x h) = (x, h) ∷ []
row_one is_other = []

pub row_cons : (r : List ℕ) (l : List (List ℕ)) → row_in (r ∷ l) ≡ row_one (reads r) ++ row_in l
row_cons r l = go (reads r)
  where
    go : (a : Read Name) → (let k : List (Name × ℕ) = elim a [
      | is_vote v x ↦ released reads l
      | is_commit v x ↦ released reads l
      | is_timeout t ↦ released reads l
      | is_release x h ↦ (x, h) ∷ released reads l
      | is_other ↦ released reads l
    ] in k ≡ row_one a ++ row_in l)
    go (is_vote v x) = refl
    go (is_commit v x) = refl
    go (is_timeout t) = refl
    go (is_release x h) = refl
    go is_other = refl

pub row_append : (l m : List (List ℕ)) → row_in (l ++ m) ≡ row_in l ++ row_in m
row_append [] m = refl
row_append (r ∷ l) m =
    row_cons r (l ++ m) ∙ ap (λ (k : List (Name × ℕ)). row_one (reads r) ++ k) (row_append l m)
    ∙ sym (append_assoc (row_one (reads r)) (row_in l) (row_in m)) ∙ ap (λ (k : List (Name × ℕ)). k ++ row_in m) (sym (row_cons r l))

pub row_more : (l : List (List ℕ)) (r : List ℕ) (a : Read Name) → reads r ≡ a → row_in (l ++ (r ∷ [])) ≡ row_in l ++ row_one a
row_more l r a e = row_append l (r ∷ []) ∙ ap (λ (k : List (Name × ℕ)). row_in l ++ k) (row_cons r [] ∙ append-nil (row_one (reads r)) ∙ ap row_one e)

pub row_same : (l : List (List ℕ)) (r : List ℕ) (a : Read Name) → reads r ≡ a → row_one a ≡ [] → row_in (l ++ (r ∷ [])) ≡ row_in l
row_same l r a e z = row_more l r a e ∙ ap (λ (k : List (Name × ℕ)). row_in l ++ k) z ∙ append-nil (row_in l)

pub all_one : {A : Type 0} (P : A → Type 0) (x : A) → P x → All P (x ∷ [])
unfolding All
all_one P x p = (p, tt)

-- ---- the locks
locks_back : (c : Counters) (k : Certificate) → locks_of (adopting c k) ≡ adopted k (locks_of c)
unfolding locks_of adopting with_locks certificate_of signed_of
locks_back c k =
    let s : Locks = record { lock = certificate_of true c.lock; weak = certificate_of false c.weak } in
    go (adopted k s) (kinds_kept k s kinds true) (kinds_kept k s kinds false)
  where
    kinds : (b : Bool) → (kept b (record { lock = certificate_of true c.lock; weak = certificate_of false c.weak })).block ≡ b
    kinds true = refl
    kinds false = refl

    go : (a : Locks) → a.lock.block ≡ true → a.weak.block ≡ false
        → ◌≡◌ {A = Locks} (record {
          lock = record { block = true; view = a.lock.view; name = a.lock.name; signers = a.lock.signers };
          weak = record { block = false; view = a.weak.view; name = a.weak.name; signers = a.weak.signers };
        }) a
    go a e f = λ j. record {
      lock = record { block = sym e j; view = a.lock.view; name = a.lock.name; signers = a.lock.signers };
      weak = record { block = sym f j; view = a.weak.view; name = a.weak.name; signers = a.weak.signers };
    }

-- an entry certificate that passes 2 is short enough for its place
entry_short : (W : Work) → Regular W → entry_length_of W.memory ≤ entry_room
unfolding entry_of part
entry_short W r =
    let a = form_short (n W) (entry_of W.memory) r.few r.entry in
    let b = length-take (entry_length_of W.memory) (drop entry_place W.memory) in
    let c = length-drop entry_place W.memory in
    omega (arith, a, b, c, r.memory_long)

module _ (set : Settings) (w : History) (i : ℕ) where
  -- ---- the memory changes, its header stays
  with_memory_lem : (limit : ℕ) (W : Work) (l : List (List ℕ)) (m : List ℕ) → Regular (with_memory W m) → SameHeader W.memory m → Tables set w (view_now W) m
      → Invariant set w i limit W l → Invariant set w i limit (with_memory W m) l
  with_memory_lem limit W l m reg same tab X = record {
    regular = reg;
    set_is = same.settings ∙ X.set_is;
    mine = same.own ∙ X.mine;
    sent = X.sent;
    acted = X.acted;
    certified = rw (same.own, same.entry (entry_short W X.regular)) X.certified;
    tables = tab;
    chained = rw same.block_count X.chained;
  }

  -- n, as the memory says it
  pub size_is : (limit : ℕ) (W : Work) (l : List (List ℕ)) → Invariant set w i limit W l → n W ≡ size set w
  size_is limit W l X = ap (λ (s : Settings). replicas s) X.set_is

  pub few : (limit : ℕ) (W : Work) (l : List (List ℕ)) → Invariant set w i limit W l → size set w ≤ largest
  few limit W l X = omega (arith, size_is limit W l X, X.regular.few)

  module _ (limit : ℕ) (W : Work) (l : List (List ℕ)) (v j : ℕ) (e : List ℕ) (b : IsBytes e) (low : j < size set w) (X : Invariant set w i limit W l) where
    abbrev m : List ℕ
    m = W.memory

    abbrev long : memory_length ≤ length m
    long = X.regular.memory_long

    abbrev bytes : IsBytes m
    bytes = X.regular.typed.memory

    keeping : (t : Table) → length e ≡ width_of t → Tables set w (view_now W) (keep m (row_of t v) (width_of t) j e) → Invariant set w i limit (with_memory W (keep m (row_of t v) (width_of t) j e)) l
    keeping t s tab =
        let h = few limit W l X in
        with_memory_lem limit W l (keep m (row_of t v) (width_of t) j e) (keep_regular W t v j e (omega arith) s b X.regular).0
        (same_header m (keep m (row_of t v) (width_of t) j e) (keep_head m t v j e s (omega arith))) tab X

    pub vote_invariant : length e ≡ name_length → Windowed votes (view_now W) v → VoteKept set w v j e → Invariant set w i limit (keep_vote W v j e) l
    unfolding keep_vote
    vote_invariant s in_window p =
        let h = few limit W l X in
        let T = X.tables in
        keeping votes s (record {
          votes_true = keep_holds (size set w) h (VoteKept set w) (view_now W) m bytes long votes v j e s (omega arith) in_window p T.votes_true;
          commits_true = other_holds (size set w) h (CommitKept set w) (view_now W) m bytes long votes v j e s (omega arith) commits (λ q. omega arith) T.commits_true;
          timeouts_fine = other_holds (size set w) h (TimeoutKept set w) (view_now W) m bytes long votes v j e s (omega arith) timeouts (λ q. omega arith) T.timeouts_fine;
        })

    pub commit_invariant : length e ≡ name_length → Windowed commits (view_now W) v → CommitKept set w v j e → Invariant set w i limit (keep_commit W v j e) l
    unfolding keep_commit
    commit_invariant s in_window p =
        let h = few limit W l X in
        let T = X.tables in
        keeping commits s (record {
          votes_true = other_holds (size set w) h (VoteKept set w) (view_now W) m bytes long commits v j e s (omega arith) votes (λ q. omega arith) T.votes_true;
          commits_true = keep_holds (size set w) h (CommitKept set w) (view_now W) m bytes long commits v j e s (omega arith) in_window p T.commits_true;
          timeouts_fine = other_holds (size set w) h (TimeoutKept set w) (view_now W) m bytes long commits v j e s (omega arith) timeouts (λ q. omega arith) T.timeouts_fine;
        })

    pub timeout_invariant : length e ≡ timeout_length → Windowed timeouts (view_now W) v → TimeoutKept set w v j e → Invariant set w i limit (keep_timeout W v j e) l
    unfolding keep_timeout
    timeout_invariant s in_window p =
        let h = few limit W l X in
        let T = X.tables in
        keeping timeouts s (record {
          votes_true = other_holds (size set w) h (VoteKept set w) (view_now W) m bytes long timeouts v j e s (omega arith) votes (λ q. omega arith) T.votes_true;
          commits_true = other_holds (size set w) h (CommitKept set w) (view_now W) m bytes long timeouts v j e s (omega arith) commits (λ q. omega arith) T.commits_true;
          timeouts_fine = keep_holds (size set w) h (TimeoutKept set w) (view_now W) m bytes long timeouts v j e s (omega arith) in_window p T.timeouts_fine;
        })

  -- ---- a record that is neither an act nor a release
  pub chained_same : (l m : List (List ℕ)) (b : Block) (store : List Block) → row_in m ≡ row_in l → Chained set w l b store → Chained set w m b store
  chained_same l m b store e C = record {
    row = rw e C.row;
    direct = rw e C.direct;
    numbered = rw e C.numbered;
    tip_height = rw e C.tip_height;
    named = rw e C.named;
    tip_le = C.tip_le;
    stored = C.stored;
    single = C.single;
    tip_apart = C.tip_apart;
  }

  pub sent_invariant : (limit : ℕ) (W : Work) (l : List (List ℕ)) (r : List ℕ) → Sent (size set w) r → reads r ≡ is_other → Invariant set w i limit W l
      → Invariant set w i limit (send W r) (l ++ (r ∷ []))
  sent_invariant limit W l r s e X = record {
    regular = send_regular W r X.regular;
    set_is = X.set_is;
    mine = X.mine;
    sent = all_append (Sent (size set w)) l (r ∷ []) X.sent (all_one (Sent (size set w)) r s);
    acted = record { acts = X.acted.acts; matches = no_act r X.acted.matches (rw e tt); trace = X.acted.trace; vote_on = X.acted.vote_on; commit_on = X.acted.commit_on };
    certified = X.certified;
    tables = X.tables;
    chained = chained_same l (l ++ (r ∷ [])) (tip W) (blocks W) (row_same l r is_other e refl) X.chained;
  }

  -- ---- a higher limit
  pub raised : (limit limit' : ℕ) (W : Work) (l : List (List ℕ)) → limit ≤ limit' → limit' ≤ last_view → Invariant set w i limit W l → Invariant set w i limit' W l
  raised limit limit' W l h m X = record {
    regular = X.regular;
    set_is = X.set_is;
    mine = X.mine;
    sent = X.sent;
    acted = X.acted;
    certified = record {
      view_le = omega (arith, X.certified.view_le);
      limit_le = m;
      high_le = omega (arith, X.certified.high_le);
      high_named = X.certified.high_named;
      high_viewed = X.certified.high_viewed;
      lock = higher X.certified.lock;
      weak = higher X.certified.weak;
      before = X.certified.before;
      view_is = X.certified.view_is;
      entered = X.certified.entered;
    };
    tables = X.tables;
    chained = X.chained;
  }
    where
      higher : {k : Certificate} → GoodBelow set w limit k → GoodBelow set w limit' k
      higher s = record { good = s.good; below = omega (arith, s.below); signers = s.signers }

  -- entering a view is no act
  enter_quietly : (c : Counters) (v : View) → Trace.QuietStep (traced c) (traced (entering c v))
  unfolding entering locks_of
  enter_quietly c v = record { high_view_is = refl; high_name_is = refl; timed_is = refl; top_up = ⊑_refl (traced c).top }

  -- ---- adopting
  pub adopt-top : (W : Work) (k : Certificate) → cert k ⊑ (traced (adopt W k).counters).top
  unfolding adopt
  adopt-top W k = rw (locks_back W.counters k) (highest_new admissible k (locks_of W.counters))

  adopt_quietly : (c : Counters) (k : Certificate) → Trace.QuietStep (traced c) (traced (adopting c k))
  unfolding adopting with_locks
  adopt_quietly c k = record { high_view_is = refl; high_name_is = refl; timed_is = refl; top_up = rw (locks_back c k) (highest-adopted admissible k (locks_of c)) }

  module _ (limit j : ℕ) (r : List ℕ) (k : Certificate) (s : GoodBelow set w limit k) (c : Counters) (C : Certified set w limit j c r) where
    adopt_good : (b : Bool) → GoodBelow set w limit (kept b (adopted k (locks_of c)))
    unfolding locks_of
    adopt_good true = adopted_has (GoodBelow set w limit) true k (locks_of c) C.lock (λ e. s)
    adopt_good false = adopted_has (GoodBelow set w limit) false k (locks_of c) C.weak (λ e. s)

    adopt_lock : GoodBelow set w limit (certificate_of true (adopting c k).lock)
    unfolding locks_of
    adopt_lock = subst (GoodBelow set w limit) (sym (ap (λ (a : Locks). a.lock) (locks_back c k))) (adopt_good true)

    adopt_weak : GoodBelow set w limit (certificate_of false (adopting c k).weak)
    unfolding locks_of
    adopt_weak = subst (GoodBelow set w limit) (sym (ap (λ (a : Locks). a.weak) (locks_back c k))) (adopt_good false)

    adopt_certified : Certified set w limit j (adopting c k) r
    unfolding adopting with_locks
    adopt_certified = record {
      view_le = C.view_le;
      limit_le = C.limit_le;
      high_le = C.high_le;
      high_named = C.high_named;
      high_viewed = C.high_viewed;
      lock = adopt_lock;
      weak = adopt_weak;
      before = C.before;
      view_is = C.view_is;
      entered = C.entered;
    }

  -- the view and the tip stay
  pub adopt_view : (W : Work) (k : Certificate) → view_now (adopt W k) ≡ view_now W
  unfolding adopt adopting with_locks
  adopt_view W k = refl

  pub adopt-timed : (W : Work) (k : Certificate) → timed (adopt W k) ≡ timed W
  unfolding adopt adopting with_locks
  adopt-timed W k = refl

  pub adopt-tip : (W : Work) (k : Certificate) → tip (adopt W k) ≡ tip W
  unfolding adopt adopting with_locks
  adopt-tip W k = refl

  pub adopt_invariant : (limit : ℕ) (W : Work) (l : List (List ℕ)) (k : Certificate) → GoodBelow set w limit k → CertificateTyped k → Invariant set w i limit W l → Invariant set w i limit (adopt W k) l
  unfolding adopt adopting with_locks
  adopt_invariant limit W l k s t X = record {
    regular = adopt_regular W k t X.regular;
    set_is = X.set_is;
    mine = X.mine;
    sent = X.sent;
    acted = record {
      acts = X.acted.acts;
      matches = X.acted.matches;
      trace = quiet X.acted.trace (adopt_quietly W.counters k);
      vote_on = X.acted.vote_on;
      commit_on = X.acted.commit_on;
    };
    certified = adopt_certified limit (own W) (entry_of W.memory) k s W.counters X.certified;
    tables = X.tables;
    chained = X.chained;
  }

  -- ---- entering view u + 1 by a certificate of view u
  pub entered_invariant : (u : ℕ) (W : Work) (l : List (List ℕ)) (r : List ℕ) → Entry set w (own W) u r → Invariant set w i (suc u) W l → Invariant set w i (suc u) (enter_by W (suc u) r) l
  unfolding enter_by entering
  entered_invariant u W l r E X =
      let own_low : own W < 2 ^ 16 = omega (arith, X.regular.member, X.regular.few) in
      let bytes : IsBytes r = subst IsBytes (sym E.is) (certificate_bytes_lem (own W) E.says own_low E.fits) in
      let form = subst (λ (s : List ℕ). Rattle.protocol.proofs.call.Regular.EntryForm (n W) s) (sym E.is)
      (certificate_form (n W) (own W) E.says own_low E.fits (rw (size_is (suc u) W l X) E.proper)) in
      let short : length r ≤ entry_room = form_short (n W) r X.regular.few form in
      let reg = enter_regular W (suc u) r (omega arith) X.certified.limit_le bytes form X.regular in
      let m = W.memory in
      let m₁ = entered m (view_now W) (suc u) in
      let long : memory_length ≤ length m₁ = omega (arith, X.regular.memory_long, length-entered m (view_now W) (suc u)) in
      let h = few (suc u) W l X in
      let le = X.certified.view_le in
      let T = X.tables in
      let C = X.certified in
      let count : block_count_of (with_entry m₁ r) ≡ block_count_of m = entry_block_count m₁ r ∙ (same_header m m₁ (entered_head m (view_now W) (suc u))).block_count in
      record {
        regular = reg.0;
        set_is = reg.1.settings ∙ X.set_is;
        mine = reg.1.own ∙ X.mine;
        sent = X.sent;
        acted = record { acts = X.acted.acts; matches = X.acted.matches; trace = quiet X.acted.trace (enter_quietly W.counters (view (suc u))); vote_on = X.acted.vote_on; commit_on = X.acted.commit_on };
        certified = rw (reg.1.own, entry_put m₁ r short long) (record {
          view_le = omega arith;
          limit_le = C.limit_le;
          high_le = C.high_le;
          high_named = C.high_named;
          high_viewed = C.high_viewed;
          lock = C.lock;
          weak = C.weak;
          before = u;
          view_is = refl;
          entered = E;
        });
        tables = record {
          votes_true = entry_holds (size set w) h (VoteKept set w) votes (suc u) m₁ r short (entered_holds (size set w) h (VoteKept set w) votes (view_now W) (suc u) m X.regular.memory_long le T.votes_true);
          commits_true = entry_holds (size set w) h (CommitKept set w) commits (suc u) m₁ r short (entered_holds (size set w) h (CommitKept set w) commits (view_now W) (suc u) m X.regular.memory_long le T.commits_true);
          timeouts_fine = entry_holds (size set w) h (TimeoutKept set w) timeouts (suc u) m₁ r short (entered_holds (size set w) h (TimeoutKept set w) timeouts (view_now W) (suc u) m X.regular.memory_long le T.timeouts_fine);
        };
        chained = rw count X.chained;
      }

-- Holding a block and releasing one keep the invariant. Assumes nothing.
use Prim.Native.Nat.{ℕ, zero, suc, ◌+◌, ◌≤◌, ◌<◌}
use mathlib.Core.Bool.{Bool, true, false, cond}
use mathlib.Core.List.{List, [], ◌∷◌, ◌++◌, map, append-nil}
use mathlib.Core.Logic.{inl, inr}
use mathlib.Core.Path.{◌≡◌, refl, ap, ◌∙◌}
use native.Mathlib.Omega.{arith}
use lib.ListN.{length, take, length-take}
use lib.ListN.{set as set_at}
use lib.Seq.{take-suc-set, append_snoc}
use Rattle.settings.specs.declared.Settings.{Settings}
use Rattle.settings.specs.Quorum.{last_view, last_height}
use Rattle.wire.specs.Encode.{release_bytes, encode}
use Rattle.wire.specs.Content.{Content}
use Rattle.wire.specs.Content as Content
use Rattle.wire.specs.Fit.{All, Fits}
use Rattle.blocks.specs.declared.Block.{Block}
use Rattle.blocks.specs.Store.{descends, ancestry, kept}
use Rattle.blocks.proofs.Kept.{dropped_held}
use Rattle.blocks.proofs.Fewer.{kept_within}
use Rattle.blocks.proofs.Linked.{In, AllIn, ancestry_last}
use Rattle.memory.specs.Layout.{block_count_of, with_block_count}
use Rattle.memory.proofs.Apart.{votes, commits, timeouts}
use Rattle.memory.proofs.Header.{count_put, count_settings, count_own, count_entry}
use Rattle.counters.specs.Counters.{locks_of, releasing}
use Rattle.safety.specs.Cluster.{Direct}
use Rattle.safety.specs.Run.{is_release}
use Rattle.safety.specs.Match.{Matches, no_act}
use Rattle.safety.specs.Trace.{Act, quiet}
use Rattle.safety.specs.Trace as Trace
use Rattle.safety.proofs.Rank.{⊑_refl}
use Rattle.protocol.specs.Work.{Work, own, view_now, tip, blocks, held_block, hold, release}
use Rattle.protocol.specs.Typed.{BlockTyped}
use Rattle.protocol.specs.Refusals.{store_length}
use Rattle.protocol.specs.OneChain.{reads}
use Rattle.protocol.proofs.call.Typing.{all_append}
use Rattle.protocol.proofs.call.Regular.{Regular, hold_regular}
use Rattle.protocol.proofs.call.Actions.{release_regular}
use Rattle.protocol.proofs.chain.Tables.{count_holds}
use Rattle.protocol.proofs.chain.Invariant.{Name, History, R, size, Sent, traced, row_in, VoteKept, CommitKept, TimeoutKept, Tables, ParentHeld, Invariant, placement_of}
use Rattle.protocol.proofs.chain.Records.{reads-encode}
use Rattle.protocol.proofs.chain.Actions.{row_cons, row_append, all_one, few}
use Rattle.protocol.proofs.chain.Store.{held_chained, pairs, released_chained}

-- an entry of a list has what all have
typed_in : (l : List Block) (b : Block) → All BlockTyped l → In b l → BlockTyped b
unfolding All
typed_in [] b a p = absurd p
typed_in (c ∷ l) b a (inl e) = rw e a.0
typed_in (c ∷ l) b a (inr p) = typed_in l b a.1 p

in_take : (k : ℕ) (l : List Block) (b : Block) → In b (take k l) → In b l
in_take zero l b p = absurd p
in_take (suc k) [] b p = absurd p
in_take (suc k) (c ∷ l) b (inl e) = inl e
in_take (suc k) (c ∷ l) b (inr p) = inr (in_take k l b p)

-- a held block has the types of the interface
pub held_typed : (W : Work) → Regular W → (b : Block) → In b (blocks W) → BlockTyped b
held_typed W r b p = typed_in W.store b r.typed.store (in_take (block_count_of W.memory) W.store b p)

pub row_typed : (W : Work) → Regular W → (row : List Block) → AllIn row (blocks W) → All BlockTyped row
unfolding All
row_typed W r [] a = tt
row_typed W r (c ∷ row) a = (held_typed W r c a.0, row_typed W r row a.1)

module _ (set : Settings) (w : History) (i limit : ℕ) (W : Work) (l : List (List ℕ)) (X : Invariant set w i limit W l) where
  abbrev m : List ℕ
  m = W.memory

  -- another number of held blocks leaves the tables
  count_tables : (k : ℕ) → Tables set w (view_now W) (with_block_count m k)
  count_tables k =
      let h = few set w i limit W l X in
      let T = X.tables in
      record {
        votes_true = count_holds (size set w) h (VoteKept set w) votes (view_now W) m k T.votes_true;
        commits_true = count_holds (size set w) h (CommitKept set w) commits (view_now W) m k T.commits_true;
        timeouts_fine = count_holds (size set w) h (TimeoutKept set w) timeouts (view_now W) m k T.timeouts_fine;
      }

  -- ---- holding a block whose parent is held; a held name stays as it is
  module _ (b : Block) (typed : BlockTyped b) where
    abbrev k : ℕ
    k = block_count_of m

    abbrev W₁ : Work
    W₁ = record { counters = W.counters; memory = with_block_count m (k + 1); store = set_at W.store k b; out = W.out }

    abbrev Ready : Type 0
    Ready = (k < store_length) × w.Placed (placement_of b) × (b.height.0 ≤ last_height) × ParentHeld set w (tip W) (blocks W) b

    new_blocks : k < store_length → blocks W₁ ≡ blocks W ++ (b ∷ [])
    new_blocks h =
        let e : block_count_of (with_block_count m (k + 1)) ≡ suc k = count_put m (k + 1) (omega arith) (omega (arith, X.regular.memory_long)) ∙ (let z : k + 1 ≡ suc k = omega arith in z) in
        rw e (take-suc-set W.store k b (omega (arith, X.regular.store_long)))

    held_now : (held_block W b.name).is ≡ false → Ready → Regular W₁ → Invariant set w i limit W₁ l
    held_now new h reg = record {
      regular = reg;
      set_is = count_settings m (k + 1) ∙ X.set_is;
      mine = count_own m (k + 1) ∙ X.mine;
      sent = X.sent;
      acted = X.acted;
      certified = rw (count_own m (k + 1), count_entry m (k + 1)) X.certified;
      tables = count_tables (k + 1);
      chained = rw (new_blocks h.0) (held_chained set w l (tip W) (blocks W) X.chained b h.1 h.2 h.3 new);
    }

    pub hold_invariant : ((held_block W b.name).is ≡ false → Ready) → Invariant set w i limit (hold W b) l
    unfolding hold
    hold_invariant ready = go (held_block W b.name).is refl (hold_regular W b typed (λ e. (ready e).0) X.regular).0
      where
        go : (t : Bool) → (held_block W b.name).is ≡ t → Regular (cond t W W₁) → Invariant set w i limit (cond t W W₁) l
        go true e reg = X
        go false e reg = held_now e (ready e) reg

  -- ---- releasing a held block
  abbrev release_of : ℕ → Block → List ℕ
  release_of v c = release_bytes (own W) v c.name c.height.0

  module _ (v : ℕ) (small : v < last_view) where
    module _ (c : Block) (typed : BlockTyped c) where
      release_fits : Fits (Content.release (own W) v c.name c.height.0)
      unfolding Fits
      release_fits = (omega (arith, X.regular.member, X.regular.few), omega (arith, small), typed.name, typed.height)

      release_reads : reads (release_of v c) ≡ is_release c.name c.height.0
      unfolding encode
      release_reads = reads-encode (Content.release (own W) v c.name c.height.0) release_fits

      release_sent : Sent (size set w) (release_of v c)
      unfolding encode
      release_sent = record { says = Content.release (own W) v c.name c.height.0; is = refl; fits = release_fits; passes = tt }

    -- a row of releases
    releases_sent : (row : List Block) → All BlockTyped row → All (Sent (size set w)) (map (release_of v) row)
    unfolding All
    releases_sent [] a = tt
    releases_sent (c ∷ row) a = (release_sent c a.0, releases_sent row a.1)

    releases_match : (row : List Block) → All BlockTyped row → (k : List (List ℕ)) (acts : List (Act Name)) → Matches reads k acts → Matches reads (k ++ map (release_of v) row) acts
    unfolding All
    releases_match [] a k acts p = rw append-nil p
    releases_match (c ∷ row) a k acts p =
        rw append_snoc at (releases_match row a.1 (k ++ (release_of v c ∷ [])) acts (no_act (release_of v c) p (rw (release_reads c a.0) tt)))

    releases_row : (row : List Block) → All BlockTyped row → row_in (map (release_of v) row) ≡ pairs set w row
    unfolding All
    releases_row [] a = refl
    releases_row (c ∷ row) a = row_cons (release_of v c) (map (release_of v) row) ∙ rw (release_reads c a.0, releases_row row a.1)

    module _ (b : Block) (p : In b (blocks W)) (d : descends (tip W) (blocks W) b ≡ true) (direct : Direct (R set w) v b.name) where
      abbrev line : List Block
      line = ancestry (tip W) (blocks W) b

      -- the records that it writes
      abbrev pub written : List (List ℕ)
      written = map (release_of v) line

      line_typed : All BlockTyped line
      line_typed = let a = ancestry_last (tip W) (blocks W) b d in
          rw a.1.0 (all_append BlockTyped a.0 (b ∷ []) (row_typed W X.regular a.0 a.1.1) (all_one BlockTyped b (held_typed W X.regular b p)))

      release_quietly : Trace.QuietStep (traced W.counters) (traced (releasing W.counters b))
      unfolding releasing locks_of
      release_quietly = record { high_view_is = refl; high_name_is = refl; timed_is = refl; top_up = ⊑_refl (traced W.counters).top }

      kept-blocks : blocks (release v b W) ≡ kept b (blocks W)
      unfolding release
      kept-blocks =
          let k = length (kept b (blocks W)) in
          let few-kept : k ≤ length (blocks W) = kept_within b (blocks W) in
          let most = length-take (block_count_of m) W.store in
          let e : block_count_of (with_block_count m k) ≡ k = count_put m k (omega (arith, X.regular.room)) (omega (arith, X.regular.memory_long)) in
          rw e (dropped_held b (block_count_of m) W.store)

      pub release_invariant : Invariant set w i limit (release v b W) (l ++ written)
      unfolding release releasing
      release_invariant =
          let k = length (kept b (blocks W)) in
          let reg = release_regular W v b (held_typed W X.regular b p) X.regular in
          let C = X.certified in
          record {
            regular = reg.0;
            set_is = reg.1.settings ∙ X.set_is;
            mine = reg.1.own ∙ X.mine;
            sent = all_append (Sent (size set w)) l written X.sent (releases_sent line line_typed);
            acted = record {
              acts = X.acted.acts;
              matches = releases_match line line_typed l X.acted.acts X.acted.matches;
              trace = quiet X.acted.trace release_quietly;
              vote_on = X.acted.vote_on;
              commit_on = X.acted.commit_on;
            };
            certified = rw (count_own m k, count_entry m k) (record {
              view_le = C.view_le;
              limit_le = C.limit_le;
              high_le = C.high_le;
              high_named = C.high_named;
              high_viewed = C.high_viewed;
              lock = C.lock;
              weak = C.weak;
              before = C.before;
              view_is = C.view_is;
              entered = C.entered;
            });
            tables = count_tables k;
            chained = rw kept-blocks (released_chained set w l (tip W) (blocks W) X.chained b p d v direct (l ++ written)
                (row_append l written ∙ ap (λ (r : List (Name × ℕ)). row_in l ++ r) (releases_row line line_typed)));
          }

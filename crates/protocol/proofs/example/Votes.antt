-- The run of specs/Example.antt: replica 1, in view 2, is handed one vote after another. While one is missing no rule applies; with all six it releases the
-- block. Assumes nothing.
use Prim.Native.Nat.{ℕ, ◌≤◌, ◌<◌}
use native.Mathlib.Omega.{arith}
use mathlib.Core.Path.{◌≡◌, refl, sym, ap, subst, ◌∙◌}
use mathlib.Core.Bool.{Bool, false}
use mathlib.Core.List.{List, [], ◌∷◌}
use borrow.Author.Tests.{lt-leb, ne_eqb}
use lib.Dec.{lit<, lit≤}
use lib.ListN.{take}
use Rattle.codec.specs.Names.{name_length, zero_name}
use Rattle.codec.proofs.Order.{same_ne}
use Rattle.wire.specs.Content.{Content, vote}
use Rattle.wire.specs.Encode.{release_bytes, encode, joined}
use Rattle.wire.specs.Fit.{All, Fits, Proper}
use Rattle.wire.proofs.Facts.{Quiet}
use Rattle.blocks.specs.declared.Block.{Block}
use Rattle.memory.specs.Layout.{vote_row, settings_of, own_of, block_count_of, leaders_of}
use Rattle.memory.specs.Kept.{has, keep}
use Rattle.memory.proofs.Apart.{votes}
use Rattle.memory.proofs.Bits.{counted}
use Rattle.memory.proofs.Header.{same_header, keep_head}
use Rattle.memory.specs.Leaders.{by_list}
use Rattle.protocol.specs.Work.{Work, n, blocks, keep_vote}
use Rattle.protocol.specs.Refusals.{refusals}
use Rattle.protocol.specs.Events.{on_record}
use Rattle.protocol.specs.Applies.{Done, Turns, turn, rest, run_d}
use Rattle.protocol.specs.Calls.{Replica, begin}
use Rattle.protocol.specs.Example.{six, block_name, vote_of, leaders}
use Rattle.protocol.proofs.call.Regular.{Regular, Still}
use Rattle.protocol.proofs.call.OneCall.{RegularReplica, begin_regular}
use Rattle.protocol.proofs.chain.Records.{release_framed}
use Rattle.protocol.proofs.example.Rows.{Rows, and_also, rows_vote}
use Rattle.protocol.proofs.example.Applies.{Facts, no_a_lem, no_b_lem, no_d_few}
use Rattle.protocol.proofs.example.FirstView.{Holding, locked_on, locked_no_c, release_turn, released_out, released_done}
use Rattle.protocol.proofs.example.Calls.{Took, replica_of, event_done, call_takes, State, Step, step}
use Rattle.protocol.proofs.example.Proposal.{name_is, name_not_zero, zero_not_name, the_block}
use Rattle.protocol.proofs.example.Certificate.{after_certificate, oneself}

pub vote_fits : (j : ℕ) → j < 6 → Fits (vote j 1 block_name)
unfolding Fits
vote_fits j h = (omega arith, lit< tt, name_is)

-- what replica 1 writes
unfoldable pub released : List ℕ
released = release_bytes 1 1 block_name 1

module _ (j : ℕ) (low : j < 6) (other : j ≡ 1 → ⊥) (A : ℕ → Bool) (new : A j ≡ false) (m : List ℕ) (st : List Block) (settings : settings_of m ≡ six) (is_one : own_of m ≡ 1) (listed : leaders_of m ≡ leaders)
    (count : block_count_of m ≡ 1) (held-ones : take 1 st ≡ the_block ∷ []) (rows : Rows block_name 2 A oneself m)
    (R : RegularReplica (record { counters = after_certificate; memory = m; store = st })) where
  abbrev before : Replica
  before = record { counters = after_certificate; memory = m; store = st }

  abbrev its : Content
  its = vote j 1 block_name

  is_proper : Proper (n (begin before)) its
  unfolding Proper
  is_proper = same_ne block_name zero_name name_not_zero

  none : has m (vote_row 1) j ≡ false
  none = rows.voted 1 j (lit≤ tt) (lit≤ tt) ∙ new

  not_refused : Quiet (refusals (begin before) by_list (encode its) its)
  unfolding refusals locked_on
  not_refused = (rw (settings, is_one, lt-leb 6 j low, ne_eqb j 1 other), (refl, (refl, (rw none, (none, tt)))))

  with : List ℕ
  with = keep m (vote_row 1) name_length j block_name

  after : Work
  after = record { counters = after_certificate; memory = with; store = st; out = [] }

  event : on_record (encode its) its (begin before) ≡ after
  unfolding on_record keep_vote after with
  event = refl

  regular_after : Regular after
  regular_after = subst Regular event (event_done before R its (vote_fits j low) is_proper not_refused tt).regular

  still : Still (begin before) after
  still = subst (Still (begin before)) event (event_done before R its (vote_fits j low) is_proper not_refused tt).still

  rows_after : Rows block_name 2 (and_also j A) oneself with
  unfolding with
  rows_after = rows_vote block_name 2 A oneself m j R.typed.memory R.memory_long name_is.size (omega arith) rows new

  facts : Facts six block_name 2 (and_also j A) oneself after
  unfolding after locked_on
  facts = record { settings = still.settings ∙ settings; small = lit≤ tt; view = refl; low = lit≤ tt; high = lit≤ tt; rows = rows_after }

  count_after : block_count_of with ≡ 1
  unfolding with
  count_after = (same_header m with (keep_head m votes 1 j block_name name_is.size (omega arith))).block_count ∙ count

  blocks_are : blocks after ≡ the_block ∷ []
  unfolding after
  blocks_are = ap (λ (k : ℕ). take k st) count_after ∙ held-ones

  holding : Holding block_name 60 after
  unfolding after
  holding = record { not_zero = name_not_zero; zero_not = zero_not_name; regular = regular_after; counters = refl; held = blocks_are }

  -- ---- a vote is missing still
  module _ (few : counted (and_also j A) 6 ≤ 5) where
    done : Done after
    unfolding counted after
    done =
        record {
          no_a = no_a_lem facts;
          no_b = no_b_lem facts;
          no_c = locked_no_c holding facts;
          no_d = no_d_few facts (omega arith) (lit< tt);
        }

    takes : Took before (vote_of j) [] (replica_of after)
    unfolding after joined All encode
    takes = call_takes before R its (vote_fits j low) is_proper not_refused tt after (subst (λ (W : Work). Turns W after) (sym event) rest) done [] tt refl

    state_after : State 1 after_certificate 1 (the_block ∷ []) 2 (and_also j A) oneself (replica_of after)
    unfolding after
    state_after =
        record {
          memory = with;
          store = st;
          is = refl;
          regular = begin_regular after regular_after;
          settings = still.settings ∙ settings;
          own = still.own ∙ is_one;
          listed = still.leaders.list ∙ listed;
          count = count_after;
          blocks = held-ones;
          rows = rows_after;
        }

  -- ---- all six voted
  module _ (all : counted (and_also j A) 6 ≡ 6) where
    end : Work
    end = run_d 1 block_name after

    turns : Turns after end
    unfolding end after
    turns = turn (release_turn holding facts (omega arith)) rest

    writes : end.out ≡ joined (released ∷ [])
    unfolding end after released
    writes = released_out holding ∙ rw (still.own, is_one)

    done_end : Done end
    unfolding end after
    done_end = released_done holding facts

    releases_it : Took before (vote_of j) (released ∷ []) (replica_of end)
    unfolding joined All encode released
    releases_it =
        call_takes before R its (vote_fits j low) is_proper not_refused tt end (subst (λ (W : Work). Turns W end) (sym event) turns) done_end (released ∷ [])
        (release_framed 1 1 block_name 1 name_is.size, tt) writes

-- A VOTE, handed to replica 1 that is locked in view 2: it is kept
pub vote_step : (j : ℕ) → j < 6 → (j ≡ 1 → ⊥) → (A : ℕ → Bool) → A j ≡ false → counted (and_also j A) 6 ≤ 5 → (r : Replica) → State 1 after_certificate 1 (the_block ∷ []) 2 A oneself r
    → Step r (vote_of j) [] (State 1 after_certificate 1 (the_block ∷ []) 2 (and_also j A) oneself)
vote_step j low other A new few r s =
    step r _ _ (vote_of j) [] s.is (takes j low other A new s.memory s.store s.settings s.own s.listed s.count s.blocks s.rows s.regular few)
    (state_after j low other A new s.memory s.store s.settings s.own s.listed s.count s.blocks s.rows s.regular few)

-- THE LAST VOTE: the block is released
pub release_step : (j : ℕ) → j < 6 → (j ≡ 1 → ⊥) → (A : ℕ → Bool) → A j ≡ false → counted (and_also j A) 6 ≡ 6 → (r : Replica) → State 1 after_certificate 1 (the_block ∷ []) 2 A oneself r
    → Step r (vote_of j) (released ∷ []) (λ s. Unit {0})
release_step j low other A new all r s =
    step r _ _ (vote_of j) (released ∷ []) s.is (releases_it j low other A new s.memory s.store s.settings s.own s.listed s.count s.blocks s.rows s.regular all) tt

-- The run of specs/Example.antt, replica by replica: what an opening leaves, and what the proposal does to it. Replica i holds the block, votes and writes its
-- vote. Assumes nothing.
use Prim.Native.Nat.{ℕ, zero, suc, ◌≤◌, ◌<◌}
use native.Mathlib.Omega.{arith}
use mathlib.Core.Path.{◌≡◌, refl, sym, ap, subst, ◌∙◌}
use mathlib.Core.Bool.{false, not, ◌&&◌}
use mathlib.Core.List.{List, [], ◌∷◌, append-nil}
use borrow.Author.Tests.{eq-eqb, ne_eqb}
use lib.Dec.{leb, lit<, lit≤}
use lib.ListN.{length, take, set, replicate, length-replicate}
use Rattle.settings.specs.Opening.{has_from, bad_leaders}
use Rattle.codec.specs.Bytes.{IsBytes}
use Rattle.codec.specs.Names.{name_length, same_bytes, zero_name}
use Rattle.codec.proofs.Order.{same_refl, same_ne}
use Rattle.digest.specs.Sha256.{be_bytes}
use Rattle.digest.specs.Name.{preimage, name_of}
use Rattle.digest.proofs.Padding.{digest_is_name}
use Rattle.digest.proofs.Names.{gives_name}
use Rattle.digest.proofs.Examples.{first_name_lem}
use Rattle.wire.specs.Fields.{progress_of}
use Rattle.wire.specs.Content.{Certificate, by_block, certificate_of, Content, proposal}
use Rattle.wire.specs.Encode.{certificate_bytes, encode, joined}
use Rattle.wire.specs.Fit.{IsName, All, CertificateFits, Fits, CertificateProper, Proper}
use Rattle.wire.proofs.Tables.{stands_encode}
use Rattle.wire.proofs.Contents.{certificate_back}
use Rattle.wire.proofs.Facts.{Quiet}
use Rattle.certificate.specs.Good.{is_good, progress_good}
use Rattle.certificate.specs.Safe.{safe_certificate}
use Rattle.blocks.specs.declared.Block.{Block}
use Rattle.blocks.specs.Store.{genesis, find, held}
use Rattle.memory.specs.Layout.{memory_length, settings_of, own_of, block_count_of, leaders_of}
use Rattle.memory.specs.Leaders.{entry_for, by_list}
use Rattle.memory.proofs.Bits.{counted, counted_one}
use Rattle.memory.proofs.Clearing.{bytes_zero}
use Rattle.counters.specs.declared.Counters.{Counters}
use Rattle.counters.specs.Counters.{opened, voting}
use Rattle.protocol.specs.Work.{Work, n}
use Rattle.protocol.specs.Typed.{BlockTyped}
use Rattle.protocol.specs.Refusals.{store_length, no_room, refusals}
use Rattle.protocol.specs.Events.{on_record}
use Rattle.protocol.specs.Applies.{Done, Turns, rest}
use Rattle.protocol.specs.Contents.{given, record_digest_rule}
use Rattle.protocol.specs.Calls.{Replica, begin}
use Rattle.protocol.specs.OneChain.{Opened}
use Rattle.protocol.specs.Example.{six, lent_memory, lent_store, opened_as, block_contents, block_name, the_proposal, vote_of, leaders}
use Rattle.protocol.proofs.call.Typing.{zero_is_name}
use Rattle.protocol.proofs.call.Opening.{Openable, opened_work, opened_settings, opened_own, opened_leaders, opened_count, opened_none, opened_regular, opening_takes}
use Rattle.protocol.proofs.call.Regular.{Regular, Still}
use Rattle.protocol.proofs.call.OneCall.{RegularReplica, begin_regular}
use Rattle.protocol.proofs.chain.Records.{vote_framed}
use Rattle.protocol.proofs.example.Rows.{Rows, nobody, and_also, and_false, rows_none}
use Rattle.protocol.proofs.example.Applies.{Facts, no_a_lem, no_b_lem, no_c_few, no_d_few}
use Rattle.protocol.proofs.example.FirstView.{Acting, on_genesis, voted_for, voted, takes_proposal, rows_voted, count_voted, held_voted}
use Rattle.protocol.proofs.example.Calls.{Took, replica_of, event_done, call_takes, State, Step, step}

-- ---- the block and its name
pub is_digest : name_of zero_name 1 block_contents ≡ block_name
unfolding block_name
is_digest = let e = sym (gives_name zero_name 1 block_contents (lit≤ tt)) ∙ first_name_lem in let z : name_of zero_name 1 block_contents ≡ be_bytes name_length 0x64356fb03f8d51a5e1241a72375db2444558064f54b6a925e2a0f715e0603cfe = cc in z

pub name_is : IsName block_name
unfolding name_of
name_is = let d = digest_is_name (preimage zero_name 1 block_contents) in subst IsName is_digest (record { size = d.0; bytes = d.1 })

pub name_not_zero : same_bytes block_name zero_name ≡ false
unfolding block_name be_bytes same_bytes
name_not_zero = refl

pub zero_not_name : same_bytes zero_name block_name ≡ false
unfolding block_name be_bytes same_bytes
zero_not_name = refl

abbrev pub the_block : Block
the_block = on_genesis block_name

-- ---- the regions that are lent, and the openings
lent_long : memory_length ≤ length lent_memory
unfolding lent_memory
lent_long = omega (arith, length-replicate {A = ℕ} memory_length 0)

lent_bytes : IsBytes lent_memory
unfolding lent_memory
lent_bytes = bytes_zero memory_length

lent_many : store_length ≤ length lent_store
unfolding lent_store
lent_many = omega (arith, length-replicate {A = Block} store_length genesis)

all_same : (n : ℕ) → All BlockTyped (replicate n genesis)
unfolding All
all_same zero = tt
all_same (suc n) = (record { name = zero_is_name; parent = zero_is_name; height = lit< tt }, all_same n)

lent_typed : All BlockTyped lent_store
unfolding lent_store
lent_typed = all_same store_length

openable : (i : ℕ) → i < 6 → Openable six i leaders
unfolding has_from bad_leaders leaders
openable i h = record { few = lit≤ tt; member = h; list = refl }

opened_is_regular : (i : ℕ) → i < 6 → RegularReplica (opened_as i)
opened_is_regular i h = opened_regular lent_memory lent_store six i leaders (openable i h) lent_bytes lent_typed lent_long lent_many

pub is_opened : (i : ℕ) → i < 6 → Opened six leaders i (opened_as i)
is_opened i h =
    record {
      lent = record { counters = opened; memory = lent_memory; store = lent_store };
      counters = (opened_is_regular i h).typed.counters;
      memory = lent_bytes;
      store = lent_typed;
      work = opened_work lent_memory lent_store six i leaders;
      opens = opening_takes (record { counters = opened; memory = lent_memory; store = lent_store }) six i leaders (openable i h) lent_long lent_many;
      leaves = refl;
    }

pub opened_state : (i : ℕ) → i < 6 → State i opened 0 [] 1 nobody nobody (opened_as i)
opened_state i h =
    let o = openable i h in
    record {
      memory = (opened_as i).memory;
      store = lent_store;
      is = refl;
      regular = opened_is_regular i h;
      settings = opened_settings lent_memory six i leaders o lent_long;
      own = opened_own lent_memory six i leaders o lent_long;
      listed = opened_leaders lent_memory six i leaders o lent_long;
      count = opened_count lent_memory six i leaders o lent_long;
      blocks = refl;
      rows = rows_none block_name (opened_as i).memory 1 (lit≤ tt) (λ t v j a b. opened_none lent_memory six i leaders o lent_long t v j);
    }

-- ---- the proposal
abbrev genesis_first : Certificate
genesis_first = by_block 0 zero_name 0

abbrev proposed : Content
proposed = proposal 0 1 block_name zero_name 1 genesis_first

genesis_fits : CertificateFits genesis_first
unfolding CertificateFits
genesis_fits = (lit< tt, zero_is_name, lit< tt)

pub proposal_fits : Fits proposed
unfolding Fits
proposal_fits = (lit< tt, lit< tt, name_is, zero_is_name, lit< tt, genesis_fits)

proposal_is : encode proposed ≡ the_proposal
unfolding encode certificate_bytes
proposal_is = refl

its_certificate : certificate_of (progress_of (encode proposed)) ≡ genesis_first
its_certificate = ap certificate_of (stands_encode proposed proposal_fits).rest ∙ certificate_back 0 genesis_first (lit< tt) genesis_fits

-- one vote is kept
one_vote : (i : ℕ) → i < 6 → counted (and_also i nobody) 6 ≡ 1
unfolding counted
one_vote i h = counted_one nobody (and_also i nobody) i 6 h refl (rw (eq-eqb i i refl)) (λ j l d. rw (ne_eqb j i d))

-- the counters after the vote
abbrev pub after_vote : Counters
after_vote = voted_for block_name

module _ (i : ℕ) (low : 1 ≤ i) (high : i < 6) (m : List ℕ) (st : List Block) (settings : settings_of m ≡ six) (own : own_of m ≡ i) (listed : leaders_of m ≡ leaders) (count : block_count_of m ≡ 0)
    (R : RegularReplica (record { counters = opened; memory = m; store = st })) where
  abbrev before : Replica
  before = record { counters = opened; memory = m; store = st }

  is_proper : Proper (n (begin before)) proposed
  unfolding Proper CertificateProper
  is_proper = (same_ne block_name zero_name name_not_zero, rw settings (lit< tt), rw settings (lit< tt))

  has_room : no_room (begin before) block_name ≡ false
  has_room = ap (λ (k : ℕ). not (held opened.tip (take k st) block_name).is && leb store_length k) count ∙ and_false (not (held opened.tip [] block_name).is)

  -- replica 0 leads view 1
  first_leads : by_list m 1 ≡ 0
  unfolding by_list entry_for leaders
  first_leads = rw listed

  not_refused : Quiet (refusals (begin before) by_list (encode proposed) proposed)
  unfolding refusals opened progress_good is_good same_bytes safe_certificate held find
  not_refused =
      (rw (settings, own, ne_eqb 0 i (omega arith), first_leads), (refl, (refl, (refl, (refl, (rw (zero_not_name, count), (refl, (refl, (has_room, tt)))))))))

  its_name : Quiet (record_digest_rule (begin before) proposed (given block_contents))
  its_name = (ap not (ap (same_bytes block_name) is_digest ∙ same_refl block_name), tt)

  abbrev after : Work
  after = voted block_name i (begin before)

  acting : Acting block_name i (begin before)
  acting = record { name = name_is; member = omega arith; regular = R; own = own }

  event : on_record (encode proposed) proposed (begin before) ≡ after
  unfolding on_record
  event = takes_proposal acting (progress_of (encode proposed)) refl count zero_not_name its_certificate

  module _ (rows : Rows block_name 1 nobody nobody m) where
    rows_after : Rows block_name 1 (and_also i nobody) nobody after.memory
    rows_after = rows_voted acting rows

    regular_after : Regular after
    regular_after = subst Regular event (event_done before R proposed proposal_fits is_proper not_refused its_name).regular

    still : Still (begin before) after
    still = subst (Still (begin before)) event (event_done before R proposed proposal_fits is_proper not_refused its_name).still

    facts : Facts six block_name 1 (and_also i nobody) nobody after
    unfolding voted_for voting opened
    facts = record { settings = still.settings ∙ settings; small = lit≤ tt; view = refl; low = lit≤ tt; high = lit≤ tt; rows = rows_after }

    done : Done after
    unfolding counted
    done =
        let one = one_vote i high in
        record { no_a = no_a_lem facts; no_b = no_b_lem facts; no_c = no_c_few facts (omega arith); no_d = no_d_few facts (omega arith) (lit< tt) }

    takes : Took before the_proposal (vote_of i ∷ []) (replica_of after)
    unfolding joined All
    takes =
        rw proposal_is at
        (call_takes before R proposed proposal_fits is_proper not_refused its_name after (subst (λ (W : Work). Turns W after) (sym event) rest) done (vote_of i ∷ [])
        (vote_framed 1 i 1 block_name name_is.size, tt) (sym (append-nil (vote_of i))))

    state_after : State i after_vote 1 (the_block ∷ []) 1 (and_also i nobody) nobody (replica_of after)
    state_after =
        record {
          memory = after.memory;
          store = set st 0 the_block;
          is = refl;
          regular = begin_regular after regular_after;
          settings = still.settings ∙ settings;
          own = still.own ∙ own;
          listed = still.leaders.list ∙ listed;
          count = count_voted acting;
          blocks = held_voted acting;
          rows = rows_after;
        }

-- THE PROPOSAL, handed to replica i as its opening left it
pub proposal_step : (i : ℕ) → 1 ≤ i → i < 6 → (r : Replica) → State i opened 0 [] 1 nobody nobody r
    → Step r the_proposal (vote_of i ∷ []) (State i after_vote 1 (the_block ∷ []) 1 (and_also i nobody) nobody)
proposal_step i low high r s =
    step r _ _ the_proposal (vote_of i ∷ []) s.is (takes i low high s.memory s.store s.settings s.own s.listed s.count s.regular s.rows)
    (state_after i low high s.memory s.store s.settings s.own s.listed s.count s.regular s.rows)

-- The run of specs/Example.antt: replica 1 is handed the block certificate. It locks, sends the certificate on, enters view 2 and commits. Assumes nothing.
use Prim.Native.Nat.{ℕ}
use mathlib.Core.Path.{◌≡◌, refl, sym, ap, subst, ◌∙◌}
use mathlib.Core.Bool.{Bool}
use mathlib.Core.List.{List, [], ◌∷◌, ◌++◌, append-nil}
use lib.Count.{ones_in}
use lib.Dec.{lit<, lit≤}
use lib.ListN.{take}
use Rattle.wire.specs.Content.{Certificate, by_block, Content, certificate}
use Rattle.wire.specs.Encode.{vote_bytes, block_certificate_bytes, certificate_bytes, encode, joined}
use Rattle.wire.specs.Fit.{All, CertificateFits, Fits, CertificateProper, Proper}
use Rattle.wire.proofs.Facts.{Quiet}
use Rattle.certificate.specs.Rank.{outranks}
use Rattle.certificate.specs.Good.{signer_count, signers_needed, is_good}
use Rattle.blocks.specs.declared.Block.{Block}
use Rattle.memory.specs.Layout.{settings_of, own_of, block_count_of, leaders_of}
use Rattle.memory.proofs.Bits.{counted}
use Rattle.counters.specs.declared.Counters.{Counters}
use Rattle.counters.specs.Counters.{opened, certificate_of as certificate_from, locks_of, voting}
use Rattle.memory.specs.Leaders.{by_list}
use Rattle.protocol.specs.Work.{Work, n}
use Rattle.protocol.specs.Refusals.{refusals}
use Rattle.protocol.specs.Events.{on_record}
use Rattle.protocol.specs.Applies.{Done, Turns, rest}
use Rattle.protocol.specs.Calls.{Replica, begin}
use Rattle.protocol.specs.Example.{six, block_name, the_certificate, leaders}
use Rattle.protocol.proofs.call.Regular.{Regular, Still}
use Rattle.protocol.proofs.call.OneCall.{RegularReplica, begin_regular}
use Rattle.protocol.proofs.chain.Records.{vote_framed, block_framed}
use Rattle.protocol.proofs.example.Rows.{Rows, nobody, and_also}
use Rattle.protocol.proofs.example.Applies.{Facts, no_a_lem, no_b_lem, no_c_few, no_d_few}
use Rattle.protocol.proofs.example.FirstView.{Acting, voted_for, locked_on, locked, takes_certificate, rows_locked, count_locked}
use Rattle.protocol.proofs.example.Calls.{Took, replica_of, event_done, call_takes, State, Step, step}
use Rattle.protocol.proofs.example.Proposal.{name_is, the_block, after_vote}

abbrev by_four : Certificate
by_four = by_block 1 block_name 60

abbrev certified : Content
certified = certificate 0 by_four

four_fits : CertificateFits by_four
unfolding CertificateFits
four_fits = (lit< tt, name_is, lit< tt)

pub certificate_fits : Fits certified
unfolding Fits
certificate_fits = (lit< tt, four_fits)

certificate_is : encode certified ≡ the_certificate
unfolding encode certificate_bytes
certificate_is = refl

-- what replica 1 sends: the certificate with itself as sender, and its commit
unfoldable pub sent_on : List ℕ
sent_on = block_certificate_bytes 1 1 block_name 60

unfoldable pub committed : List ℕ
committed = vote_bytes 2 1 1 block_name

-- the counters after it
abbrev pub after_certificate : Counters
after_certificate = locked_on block_name 60

abbrev pub oneself : ℕ → Bool
oneself = and_also 1 nobody

module _ (m : List ℕ) (st : List Block) (settings : settings_of m ≡ six) (own : own_of m ≡ 1) (listed : leaders_of m ≡ leaders) (R : RegularReplica (record { counters = after_vote; memory = m; store = st })) where
  abbrev before : Replica
  before = record { counters = after_vote; memory = m; store = st }

  is_proper : Proper (n (begin before)) certified
  unfolding Proper CertificateProper
  is_proper = rw settings (lit< tt)

  not_refused : Quiet (refusals (begin before) by_list (encode certified) certified)
  unfolding refusals voted_for voting opened is_good signers_needed signer_count ones_in outranks locks_of certificate_from
  not_refused = (rw settings, (refl, (rw settings, (refl, tt))))

  abbrev after : Work
  after = locked block_name 1 60 (begin before)

  acting : Acting block_name 1 (begin before)
  acting = record { name = name_is; member = lit< tt; regular = R; own = own }

  event : on_record (encode certified) certified (begin before) ≡ after
  unfolding on_record encode certificate_bytes
  event = takes_certificate acting 60 (lit< tt) 0 (lit< tt) refl

  regular_after : Regular after
  regular_after = subst Regular event (event_done before R certified certificate_fits is_proper not_refused tt).regular

  still : Still (begin before) after
  still = subst (Still (begin before)) event (event_done before R certified certificate_fits is_proper not_refused tt).still

  module _ (rows : Rows block_name 1 oneself nobody m) where
    rows_after : Rows block_name 2 oneself oneself after.memory
    rows_after = rows_locked acting 60 (lit< tt) oneself rows

    facts : Facts six block_name 2 oneself oneself after
    unfolding locked_on
    facts = record { settings = still.settings ∙ settings; small = lit≤ tt; view = refl; low = lit≤ tt; high = lit≤ tt; rows = rows_after }

    done : Done after
    unfolding counted
    done =
        record { no_a = no_a_lem facts; no_b = no_b_lem facts; no_c = no_c_few facts (lit< tt); no_d = no_d_few facts (lit< tt) (lit< tt) }

    takes : Took before the_certificate (sent_on ∷ committed ∷ []) (replica_of after)
    unfolding joined All sent_on committed
    takes =
        rw certificate_is at
        (call_takes before R certified certificate_fits is_proper not_refused tt after (subst (λ (W : Work). Turns W after) (sym event) rest) done (sent_on ∷ committed ∷ [])
        (block_framed 1 1 block_name 60 name_is.size, (vote_framed 2 1 1 block_name name_is.size, tt)) (ap (λ (s : List ℕ). sent_on ++ s) (sym (append-nil committed))))

    state_after : (k : ℕ) (held : List Block) → block_count_of m ≡ k → take k st ≡ held → State 1 after_certificate k held 2 oneself oneself (replica_of after)
    state_after k held count blocks =
        record {
          memory = after.memory;
          store = st;
          is = refl;
          regular = begin_regular after regular_after;
          settings = still.settings ∙ settings;
          own = still.own ∙ own;
          listed = still.leaders.list ∙ listed;
          count = count_locked acting 60 (lit< tt) ∙ count;
          blocks = blocks;
          rows = rows_after;
        }

-- THE CERTIFICATE, handed to replica 1 after its vote
pub certificate_step : (r : Replica) → State 1 after_vote 1 (the_block ∷ []) 1 oneself nobody r
    → Step r the_certificate (sent_on ∷ committed ∷ []) (State 1 after_certificate 1 (the_block ∷ []) 2 oneself oneself)
certificate_step r s =
    step r _ _ the_certificate (sent_on ∷ committed ∷ []) s.is (takes s.memory s.store s.settings s.own s.listed s.regular s.rows)
    (state_after s.memory s.store s.settings s.own s.listed s.regular s.rows 1 (the_block ∷ []) s.count s.blocks)

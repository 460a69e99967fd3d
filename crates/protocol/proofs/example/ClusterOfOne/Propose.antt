-- The cluster of one: the first propose. The proposal is sent and voted for, rule C forms the certificate of that vote, view 2 is entered with a commit, and
-- rule D releases the block. Assumes nothing.
use Prim.Native.Nat.{ℕ, ◌≤◌}
use mathlib.Core.Path.{◌≡◌, refl, sym, ap, subst, ◌∙◌}
use mathlib.Core.Bool.{Bool, false, not}
use mathlib.Core.List.{List, [], ◌∷◌, append_assoc}
use borrow.Author.Tests.{le-ltb}
use lib.Dec.{lit<, lit≤}
use lib.ListN.{length, take, length-append}
use Rattle.settings.specs.declared.Settings.{Settings}
use Rattle.settings.specs.Quorum.{replicas}
use Rattle.settings.specs.Answer.{accepts}
use Rattle.codec.specs.Names.{same_bytes, zero_name}
use Rattle.codec.proofs.Order.{ne_same, same_refl}
use Rattle.digest.specs.Name.{name_of, longest_contents}
use Rattle.wire.specs.Content.{by_block, certificate_of}
use Rattle.wire.specs.Encode.{block_certificate_bytes, proposal_bytes, joined}
use Rattle.wire.specs.Fit.{IsName}
use Rattle.wire.proofs.Facts.{Quiet, off_judge}
use Rattle.wire.proofs.Lengths.{length_proposal, length_block_certificate, length_vote, length_release}
use Rattle.certificate.specs.Rank.{outranks}
use Rattle.certificate.specs.Safe.{safe_certificate}
use Rattle.blocks.specs.declared.Block.{Block}
use Rattle.blocks.specs.Store.{held, find}
use Rattle.memory.specs.Layout.{vote_row, entry_of}
use Rattle.memory.specs.Kept.{backs, tallied, tally}
use Rattle.memory.specs.Leaders.{by_list}
use Rattle.memory.proofs.Bits.{counted}
use Rattle.counters.specs.Counters.{opened, certificate_of as certificate_from, locks_of, voting, releasing}
use Rattle.protocol.specs.Work.{Work, n, blocks, send, release}
use Rattle.protocol.specs.Refusals.{output_length, region_rules, propose_rules}
use Rattle.protocol.specs.Events.{on_propose}
use Rattle.protocol.specs.Applies.{Turn, Turns, turn, rest, run_c, run_d, signers_for}
use Rattle.protocol.specs.Contents.{given, propose_digest_rule}
use Rattle.protocol.specs.Calls.{Replica, begin, propose_core, outcome, propose_call, propose_call_with}
use Rattle.protocol.specs.ClusterOfOne.{one, decided, Decides}
use Rattle.protocol.proofs.call.Typing.{zero_is_name}
use Rattle.protocol.proofs.call.Regular.{Regular, Still, send_regular}
use Rattle.protocol.proofs.call.Certificates.{block_form}
use Rattle.protocol.proofs.call.Rules.{progress_regular}
use Rattle.protocol.proofs.call.Events.{propose_done}
use Rattle.protocol.proofs.call.Contents.{checked_propose}
use Rattle.protocol.proofs.call.Regions.{judge_past}
use Rattle.protocol.proofs.call.OneCall.{regular_regions}
use Rattle.protocol.proofs.loop.Formed.{block_read}
use Rattle.protocol.proofs.loop.Loop.{loop_ends}
use Rattle.protocol.proofs.chain.Call.{written_out}
use Rattle.protocol.proofs.example.Rows.{nobody, and_also, rows_none}
use Rattle.protocol.proofs.example.Applies.{Facts, turn_c}
use Rattle.protocol.proofs.example.FirstView.{Acting, Holding, on_genesis, voted_for, locked_on, voted, locked, takes_proposal, rows_voted, count_voted, held_voted, takes_certificate, rows_locked, count_locked, found_it, release_turn, released_out, released_done}
use Rattle.protocol.proofs.example.ClusterOfOne.Start.{opened_over, Start}

abbrev alone : ℕ → Bool
alone = and_also 0 nobody

module _ (x : List ℕ) (name : IsName x) (proper : x ≡ zero_name → ⊥) (m : List ℕ) (st : List Block) (S : Start m st) (output : List ℕ) (room : output_length ≤ length output) where
  abbrev r : Replica
  r = opened_over m st

  not_zero : same_bytes x zero_name ≡ false
  not_zero = ne_same x zero_name proper

  zero_not : same_bytes zero_name x ≡ false
  zero_not = ne_same zero_name x (λ e. proper (sym e))

  genesis_read : certificate_of (entry_of m) ≡ by_block 0 zero_name 0
  genesis_read = rw S.entry (block_read 0 0 zero_name 0 (lit< tt) (lit< tt) zero_is_name (lit< tt))

  not_refused : Quiet (propose_rules (begin r) by_list x)
  unfolding propose_rules opened safe_certificate held find same_bytes
  not_refused = (rw (S.leads, S.own), (not_zero, (rw (zero_not, S.count), (rw genesis_read, (rw genesis_read, (rw (zero_not, S.count), tt))))))

  -- ---- the proposal and the own vote
  abbrev genesis_certificate : List ℕ
  genesis_certificate = block_certificate_bytes 0 0 zero_name 0

  abbrev W₀ : Work
  W₀ = send (begin r) (proposal_bytes 0 1 x zero_name 1 genesis_certificate)

  acting₀ : Acting x 0 W₀
  acting₀ = record { name = name; member = lit< tt; regular = send_regular (begin r) _ S.regular; own = S.own }

  abbrev W₁ : Work
  W₁ = voted x 0 W₀

  event : on_propose x (begin r) ≡ W₁
  unfolding on_propose opened safe_certificate held same_bytes
  event = rw (genesis_read, S.own, S.entry) (takes_proposal acting₀ genesis_certificate refl S.count zero_not (rw S.entry at genesis_read))

  next₁ : Regular W₁ × Still (begin r) W₁
  next₁ = let d = propose_done (begin r) x name not_refused S.regular in subst (λ (W : Work). Regular W × Still (begin r) W) event (d.regular, d.still)

  acting₁ : Acting x 0 W₁
  acting₁ = record { name = name; member = lit< tt; regular = next₁.0; own = next₁.1.own ∙ S.own }

  facts₁ : Facts one x 1 alone nobody W₁
  unfolding voted_for voting opened
  facts₁ =
      record {
        settings = next₁.1.settings ∙ S.settings;
        small = lit≤ tt;
        view = refl;
        low = lit≤ tt;
        high = lit≤ tt;
        rows = rows_voted acting₀ (rows_none x m 1 (lit≤ tt) (λ t v j a b. S.none t v j));
      }

  -- ---- the certificate and the commit, by C
  own_signs : signers_for 1 W₁ x ≡ 1
  unfolding tally tallied backs
  own_signs =
      ap (λ (s : Settings). (tally W₁.memory (vote_row 1) x (replicas s)).signers) facts₁.settings
      ∙ rw (facts₁.rows.voted 1 0 (lit≤ tt) (lit≤ tt), facts₁.rows.named 0 (lit< tt) refl, same_refl x)

  abbrev W₂ : Work
  W₂ = locked x 0 1 W₁

  locks : run_c 1 x W₁ ≡ W₂
  locks = rw (acting₁.own, own_signs) (takes_certificate acting₁ 1 (lit< tt) 0 (lit< tt) refl)

  turn_to_lock : Turn W₁ W₂
  unfolding voted_for voting opened outranks locks_of certificate_from counted
  turn_to_lock = subst (Turn W₁) locks (turn_c facts₁ (lit≤ tt) refl)

  next₂ : Regular W₂ × Still W₁ W₂
  next₂ =
      subst (λ (W : Work). Regular W × Still W₁ W) (takes_certificate acting₁ 1 (lit< tt) 0 (lit< tt) refl)
      (progress_regular W₁ (block_certificate_bytes 0 1 x 1) (block_form 0 1 x 1 (lit< tt) (lit< tt) name (lit< tt) (n W₁)) next₁.0)

  facts₂ : Facts one x 2 alone alone W₂
  unfolding locked_on
  facts₂ =
      record {
        settings = next₂.1.settings ∙ facts₁.settings;
        small = lit≤ tt;
        view = refl;
        low = lit≤ tt;
        high = lit≤ tt;
        rows = rows_locked acting₁ 1 (lit< tt) alone facts₁.rows;
      }

  -- ---- the release, by D
  held₂ : blocks W₂ ≡ on_genesis x ∷ []
  held₂ = ap (λ (k : ℕ). take k W₂.store) (count_locked acting₁ 1 (lit< tt) ∙ count_voted acting₀) ∙ held_voted acting₀

  holding : Holding x 1 W₂
  holding = record { not_zero = not_zero; zero_not = zero_not; regular = next₂.0; counters = refl; held = held₂ }

  W₃ : Work
  W₃ = run_d 1 x W₂

  turns : Turns W₁ W₃
  unfolding W₃ counted
  turns = turn turn_to_lock (turn (release_turn holding facts₂ (lit≤ tt)) rest)

  core : propose_core by_list r (length output) x ≡ accepts W₃
  unfolding propose_core W₃
  core =
      judge_past _ (region_rules (begin r) (length output)) (propose_rules (begin r) by_list x) (regular_regions (begin r) (length output) S.regular room)
      ∙ (off_judge _ _ _).1 (not_refused, rw event (sym (loop_ends W₁ W₃ next₁.0 turns (released_done holding facts₂))))

  all_written : W₃.out ≡ joined (decided x)
  unfolding W₃ joined
  all_written = released_out holding ∙ rw (next₂.1.own, acting₁.own) (simp append_assoc)

  size : length (joined (decided x)) ≡ 352
  unfolding joined
  size = simp (length-append, length_proposal x name zero_name zero_is_name, length_block_certificate zero_name zero_is_name, length_block_certificate x name, length_vote x name, length_release x name)

  decides_with : Decides x (outcome r output (accepts W₃))
  unfolding outcome W₃ release releasing locked_on
  decides_with =
      let b = found_it holding in
      record { reply = ap (λ (s : List ℕ). accepts (length s)) all_written ∙ ap accepts size; writes = written_out r output W₃ ∙ all_written; view = refl; tip = rw b; height = rw b }

  pub decides_alone : Decides x (propose_call by_list r output x)
  unfolding propose_call
  decides_alone = rw core decides_with

  -- with contents whose digest the name is, behind genesis
  named : (s : List ℕ) → x ≡ name_of zero_name 1 s → Quiet (propose_digest_rule (begin r) x (given s))
  unfolding opened safe_certificate held same_bytes
  named s e = (rw genesis_read (ap not (ap (same_bytes x) (sym e) ∙ same_refl x)), tt)

  pub decides_checked : (s : List ℕ) → length s ≤ longest_contents → x ≡ name_of zero_name 1 s → Decides x (propose_call_with by_list r output x (given s))
  unfolding propose_call_with
  decides_checked s short e =
      rw (checked_propose by_list r (length output) x (given s) W₃ (record { short = (le-ltb longest_contents (length s) short, tt); named = named s e; accepted = core })) decides_with

-- A replica of any cluster after its opening: what taking the proposal of a block on genesis, taking a certificate of that block and releasing it make of the
-- replica. Assumes nothing.
use Prim.Native.Nat.{ℕ, ◌^◌, ◌≤◌, ◌<◌}
use native.Mathlib.Omega.{arith}
use mathlib.Core.Path.{◌≡◌, refl, ap, ◌∙◌}
use mathlib.Core.Bool.{Bool, false}
use mathlib.Core.List.{List, [], ◌∷◌, ◌++◌}
use lib.Dec.{lit<}
use lib.ListN.{length, take, set}
use Rattle.settings.specs.declared.Settings.{Settings}
use Rattle.settings.specs.Quorum.{largest, replicas, fast_quorum}
use Rattle.codec.specs.Names.{name_length, same_bytes, zero_name, less_bytes}
use Rattle.codec.proofs.Order.{same_refl}
use Rattle.wire.specs.Content.{by_block, certificate_of}
use Rattle.wire.specs.Encode.{vote_bytes, block_certificate_bytes, certificate_bytes, release_bytes, joined}
use Rattle.wire.specs.Fit.{IsName, CertificateFits}
use Rattle.certificate.specs.Rank.{outranks, adopted}
use Rattle.certificate.specs.Safe.{safe_certificate}
use Rattle.blocks.specs.declared.Block.{Block}
use Rattle.blocks.specs.Store.{Found, genesis, found, find, held, leads, descends, line, ancestry, releases, only, kept}
use Rattle.memory.specs.Layout.{vote_row, commit_row, own_of, block_count_of, with_block_count, with_entry}
use Rattle.memory.specs.Kept.{keep}
use Rattle.memory.specs.Window.{entered}
use Rattle.memory.proofs.Apart.{votes, commits, row_of, size_of, row_head}
use Rattle.memory.proofs.Bits.{counted}
use Rattle.memory.proofs.Entering.{length-entered, bytes_entered, entered_head}
use Rattle.memory.proofs.Header.{same_header, keep_head, length_with_count, bytes_with_count, count_put, count_own, count_settings, count_behind, length-with_entry, bytes_with_entry, entry_own, entry_block_count, entry_behind}
use Rattle.counters.specs.declared.Counters.{Counters}
use Rattle.counters.specs.Counters.{unsigned, opened, certificate_of as certificate_from, signed_of, locks_of, with_locks, adopting, entering, voting, releasing}
use Rattle.protocol.specs.Work.{Work, view, own, blocks, held_block, adopt, enter_by, hold, keep_vote, keep_commit, send_vote, send_commit, release}
use Rattle.protocol.specs.Events.{with_sender, progress, proposition_of}
use Rattle.protocol.specs.Applies.{NoC, Done, Turn, run_d}
use Rattle.protocol.proofs.call.Regular.{Regular}
use Rattle.protocol.proofs.loop.Formed.{block_read, block_fits}
use Rattle.protocol.proofs.chain.Records.{with_sender_lem, certificate_bytes_lem}
use Rattle.protocol.proofs.example.Rows.{Rows, nobody, and_also, rows_same, rows_vote, rows_commit, rows_entered}
use Rattle.protocol.proofs.example.Applies.{Facts, no_a_lem, no_b_lem, no_c_locked, no_d_none, turn_d}

abbrev pub on_genesis : List ℕ → Block
on_genesis x = record { name = x; parent = zero_name; height = record { 0 = 1 } }

-- ---- the counters after the vote for x in view 1, and after its certificate of view 1 with these signers
unfoldable pub voted_for : List ℕ → Counters
voted_for x = voting opened (record { view = view 1; name = x })

unfoldable pub locked_on : List ℕ → ℕ → Counters
locked_on x g =
    record {
      view = view 2;
      timed = view 0;
      high = record { view = view 1; name = x };
      lock = record { view = view 1; name = x; signers = g };
      weak = unsigned;
      tip = genesis;
    }

-- ---- replica i after the vote, and after the certificate
module _ (x : List ℕ) (i : ℕ) where
  abbrev pub voted : Work → Work
  voted W =
      record {
        counters = voted_for x;
        memory = keep (with_block_count W.memory 1) (vote_row 1) name_length i x;
        store = set W.store 0 (on_genesis x);
        out = W.out ++ vote_bytes 1 i 1 x;
      }

  abbrev entry : ℕ → Work → List ℕ
  entry g W = with_entry (entered W.memory 1 2) (block_certificate_bytes i 1 x g)

  abbrev pub locked : ℕ → Work → Work
  locked g W =
      record {
        counters = locked_on x g;
        memory = keep (entry g W) (commit_row 1) name_length i x;
        store = W.store;
        out = (W.out ++ block_certificate_bytes i 1 x g) ++ vote_bytes 2 i 1 x;
      }

-- ---- replica i, and the name x for which it votes
pub record Acting (x : List ℕ) (i : ℕ) (W : Work) : Type 0 where
  pub name : IsName x
  pub member : i < largest
  pub regular : Regular W
  pub own : own_of W.memory ≡ i

module _ {x : List ℕ} {i : ℕ} {W : Work} (a : Acting x i W) where
  -- ---- the proposal, with the genesis certificate
  pub takes_proposal : (r : List ℕ) → W.counters ≡ opened → block_count_of W.memory ≡ 0 → same_bytes zero_name x ≡ false → certificate_of r ≡ by_block 0 zero_name 0
      → proposition_of 1 (on_genesis x) r W ≡ voted x i W
  unfolding proposition_of adopt hold send_vote keep_vote opened voted_for voting adopting with_locks adopted outranks locks_of certificate_from signed_of safe_certificate held find less_bytes
  takes_proposal r c count other genesis-is = rw (c, genesis-is, count, other, count_own W.memory 1, a.own)

  pub rows_voted : Rows x 1 nobody nobody W.memory → Rows x 1 (and_also i nobody) nobody (voted x i W).memory
  rows_voted rows =
      let m = W.memory in
      rows_vote x 1 nobody nobody (with_block_count m 1) i (bytes_with_count m 1 a.regular.typed.memory) (omega (arith, length_with_count m 1, a.regular.memory_long)) a.name.size a.member
      (rows_same x 1 nobody nobody m (with_block_count m 1) (λ t v. count_behind m 1 (row_of t v) (size_of t) (omega (arith, row_head t v))) rows) refl

  pub count_voted : block_count_of (voted x i W).memory ≡ 1
  count_voted =
      (same_header (with_block_count W.memory 1) (voted x i W).memory (keep_head (with_block_count W.memory 1) votes 1 i x a.name.size a.member)).block_count
      ∙ count_put W.memory 1 (lit< tt) (omega (arith, a.regular.memory_long))

  pub held_voted : take 1 (voted x i W).store ≡ on_genesis x ∷ []
  held_voted = first_set W.store (omega (arith, a.regular.store_long))
    where
      first_set : (st : List Block) → 1 ≤ length st → take 1 (set st 0 (on_genesis x)) ≡ on_genesis x ∷ []
      first_set [] h = absurd (omega arith)
      first_set (b ∷ st) h = refl

  -- ---- the certificate, by whomever it is sent
  module _ (g : ℕ) (signers : g < 2 ^ 64) where
    entry_is_own : own_of (entry x i g W) ≡ i
    entry_is_own =
        entry_own (entered W.memory 1 2) (block_certificate_bytes i 1 x g) ∙ (same_header W.memory (entered W.memory 1 2) (entered_head W.memory 1 2)).own ∙ a.own

    sent_on : (j : ℕ) → with_sender i (block_certificate_bytes j 1 x g) ≡ block_certificate_bytes i 1 x g
    unfolding certificate_bytes
    sent_on j = with_sender_lem j i (by_block 1 x g)

    pub takes_certificate : (j : ℕ) → j < 2 ^ 16 → W.counters ≡ voted_for x → progress (block_certificate_bytes j 1 x g) W ≡ locked x i g W
    unfolding progress adopt enter_by send_commit keep_commit opened voted_for voting locked_on entering adopting with_locks adopted outranks locks_of certificate_from signed_of safe_certificate
    takes_certificate j low c = rw (c, block_read j 1 x g low (lit< tt) a.name signers, a.own, sent_on j, entry_is_own)

    pub rows_locked : (A : ℕ → Bool) → Rows x 1 A nobody W.memory → Rows x 2 A (and_also i nobody) (locked x i g W).memory
    unfolding certificate_bytes CertificateFits
    rows_locked A rows =
        let m = W.memory in
        let w = entered m 1 2 in
        let s = block_certificate_bytes i 1 x g in
        rows_commit x 2 A nobody (entry x i g W) i (bytes_with_entry w s (bytes_entered m 1 2 a.regular.typed.memory) (certificate_bytes_lem i (by_block 1 x g) (omega (arith, a.member)) (lit< tt, a.name, signers)))
        (omega (arith, length-with_entry w s, length-entered m 1 2, a.regular.memory_long)) a.name.size a.member
        (rows_same x 2 A nobody w (entry x i g W) (λ t v. entry_behind w s (block_fits i 1 x g a.name) (row_of t v) (size_of t) (row_head t v)) (rows_entered x A nobody m a.regular.memory_long rows)) refl

    pub count_locked : block_count_of (locked x i g W).memory ≡ block_count_of W.memory
    count_locked =
        (same_header (entry x i g W) (locked x i g W).memory (keep_head (entry x i g W) commits 1 i x a.name.size a.member)).block_count
        ∙ entry_block_count (entered W.memory 1 2) (block_certificate_bytes i 1 x g) ∙ (same_header W.memory (entered W.memory 1 2) (entered_head W.memory 1 2)).block_count

-- ---- a replica that is locked on x and holds its block alone beside the tip; it releases it, and then no rule applies
pub record Holding (x : List ℕ) (g : ℕ) (W : Work) : Type 0 where
  pub not_zero : same_bytes x zero_name ≡ false
  pub zero_not : same_bytes zero_name x ≡ false
  pub regular : Regular W
  pub counters : W.counters ≡ locked_on x g
  pub held : blocks W ≡ on_genesis x ∷ []

module _ {x : List ℕ} {g : ℕ} {W : Work} (h : Holding x g W) where
  pub found_it : held_block W x ≡ found (on_genesis x)
  unfolding held find locked_on
  found_it = rw (h.counters, h.held, h.zero_not, same_refl x)

  none_left : kept (on_genesis x) (blocks W) ≡ []
  unfolding kept only descends leads held find
  none_left = rw (h.held, h.not_zero)

  pub released_out : (run_d 1 x W).out ≡ W.out ++ joined (release_bytes (own W) 1 x 1 ∷ [])
  unfolding release locked_on releases ancestry line same_bytes
  released_out = rw (found_it, h.counters)

  module _ {set : Settings} {A C : ℕ → Bool} (F : Facts set x 2 A C W) where
    pub locked_no_c : NoC W
    unfolding locked_on locks_of certificate_from
    locked_no_c = no_c_locked F g (rw h.counters)

    pub release_turn : fast_quorum set ≤ counted A (replicas set) → Turn W (run_d 1 x W)
    unfolding locked_on descends leads same_bytes
    release_turn q = turn_d F locked_no_c q (on_genesis x) h.held (ap (λ (f : Found). f.is) found_it) (rw (found_it, h.counters) (lit< tt)) (rw (found_it, h.counters))

    facts_released : Facts set x 2 A C (run_d 1 x W)
    unfolding release releasing
    facts_released =
        let k = length (kept (held_block W x).block (blocks W)) in
        record {
          settings = count_settings W.memory k ∙ F.settings;
          small = F.small;
          view = F.view;
          low = F.low;
          high = F.high;
          rows = rows_same x 2 A C W.memory (with_block_count W.memory k) (λ t v. count_behind W.memory k (row_of t v) (size_of t) (omega (arith, row_head t v))) F.rows;
        }

    pub released_done : Done (run_d 1 x W)
    unfolding release releasing locked_on locks_of certificate_from
    released_done =
        record {
          no_a = no_a_lem facts_released;
          no_b = no_b_lem facts_released;
          no_c = no_c_locked facts_released g (rw h.counters);
          no_d = no_d_none (run_d 1 x W) (rw (found_it, none_left, count_put W.memory 0 (lit< tt) (omega (arith, h.regular.memory_long))));
        }

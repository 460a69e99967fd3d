-- A record that is handed over and that no rule refuses: the call is accepted, and what it leaves and makes. A replica's state in the run of
-- specs/Example.antt, as far as it matters. Assumes nothing.
use Prim.Native.Nat.{ℕ, ◌≤◌}
use native.Mathlib.Omega.{arith}
use mathlib.Core.Path.{◌≡◌, refl, sym, ap, subst, ◌∙◌}
use mathlib.Core.Bool.{Bool, true}
use mathlib.Core.List.{List}
use lib.ListN.{length, take, length-replicate}
use Rattle.settings.specs.Answer.{accepts}
use Rattle.wire.specs.Content.{Content, content}
use Rattle.wire.specs.Encode.{joined, encode}
use Rattle.wire.specs.Fit.{All, Fits, Proper}
use Rattle.wire.specs.Shape.{shape_rules}
use Rattle.wire.proofs.Tables.{stands_encode, bytes_encode}
use Rattle.wire.proofs.ReadBack.{read_written}
use Rattle.wire.proofs.Accepted.{quiet_stands}
use Rattle.wire.proofs.Facts.{Quiet, Framed, off_judge}
use Rattle.blocks.specs.declared.Block.{Block}
use Rattle.memory.specs.Layout.{settings_of, own_of, block_count_of, leaders_of}
use Rattle.counters.specs.declared.Counters.{Counters}
use Rattle.memory.specs.Leaders.{by_list}
use Rattle.protocol.specs.Work.{Work, n}
use Rattle.protocol.specs.Refusals.{output_length, region_rules, refusals}
use Rattle.protocol.specs.Events.{on_record}
use Rattle.protocol.specs.Applies.{Turns, Done}
use Rattle.protocol.specs.Contents.{given, record_digest_rule}
use Rattle.protocol.specs.Calls.{Replica, begin, record_core, record_core_with, Outcome, outcome, record_call_with}
use Rattle.protocol.specs.OneCall.{left}
use Rattle.protocol.specs.OneChain.{outcome_of, accepted, written, cut_records, makes}
use Rattle.protocol.specs.Example.{six, lent_output, block_contents, block_name, handed, leaders}
use Rattle.protocol.proofs.call.Proposals as Proposals
use Rattle.protocol.proofs.call.Events.{event_room, record_done}
use Rattle.protocol.proofs.call.Contents.{quiet_both, checked_record}
use Rattle.protocol.proofs.call.OneCall.{RegularReplica, regular_regions}
use Rattle.protocol.proofs.loop.Loop.{loop_ends}
use Rattle.protocol.proofs.chain.Call.{cut_joined, written_out}
use Rattle.protocol.proofs.example.Rows.{Rows}

long_enough : output_length ≤ length lent_output
unfolding lent_output
long_enough = omega (arith, length-replicate {A = ℕ} output_length 0)

-- ---- what a call that was accepted with W leaves and makes
pub record Took (r : Replica) (bytes : List ℕ) (made : List (List ℕ)) (s : Replica) : Type 0 where
  pub accepts : accepted (outcome_of r (handed bytes)).reply ≡ true
  pub leaves : left (outcome_of r (handed bytes)) ≡ s
  pub makes : makes r (handed bytes) ≡ made

abbrev pub replica_of : Work → Replica
replica_of W = record { counters = W.counters; memory = W.memory; store = W.store }

took : (r : Replica) (bytes : List ℕ) (made : List (List ℕ)) (W : Work) → record_core_with by_list r (length lent_output) bytes (given block_contents) ≡ accepts W → All Framed made → W.out ≡ joined made
    → Took r bytes made (replica_of W)
unfolding outcome_of record_call_with outcome makes
took r bytes made W e f o =
    let cut : cut_records (length W.out) W.out ≡ made = ap (λ (s : List ℕ). cut_records (length s) s) o ∙ cut_joined made f (length (joined made)) (omega arith) in
    let is : outcome_of r (handed bytes) ≡ outcome r lent_output (accepts W) = ap (outcome r lent_output) e in
    record {
      accepts = ap (λ (x : Outcome). accepted x.reply) is;
      leaves = ap left is;
      makes = ap (λ (x : Outcome). cut_records (length (written x)) (written x)) is ∙ ap (λ (s : List ℕ). cut_records (length s) s) (written_out r lent_output W) ∙ cut;
    }

-- ---- a record that fits, that is as the place "shape" asks, and that no rule refuses, nor the rule of its digest
module _ (r : Replica) (R : RegularReplica r) (c : Content) (f : Fits c) (p : Proper (n (begin r)) c) (q : Quiet (refusals (begin r) by_list (encode c) c)) (named : Quiet (record_digest_rule (begin r) c (given block_contents))) where
  shaped : Quiet (shape_rules (n (begin r)) (encode c))
  shaped = quiet_stands (n (begin r)) (encode c) c f p (stands_encode c f)

  pub event_done : Proposals.Done event_room (begin r) (on_record (encode c) c (begin r))
  event_done = rw (read_written c f) at (record_done (begin r) (encode c) (bytes_encode c f) shaped (rw (read_written c f) q) R)

  -- the event, the turns of the rules after it, and then no rule applies
  pub call_takes : (W : Work) → Turns (on_record (encode c) c (begin r)) W → Done W → (made : List (List ℕ)) → All Framed made → W.out ≡ joined made → Took r (encode c) made (replica_of W)
  unfolding record_core
  call_takes W t d made g o =
      let plain : record_core by_list r (length lent_output) (encode c) ≡ accepts W =
      rw (read_written c f)
      ((off_judge _ _ W).1 (
        quiet_both (region_rules (begin r) (length lent_output)) _ (regular_regions (begin r) (length lent_output) R long_enough) (quiet_both (shape_rules (n (begin r)) (encode c)) (refusals (begin r) by_list (encode c) c) shaped q),
        sym (loop_ends _ W event_done.regular t d),
      )) in
      let digest : Quiet (record_digest_rule (begin r) (content (encode c)) (given block_contents)) = rw (read_written c f) named in
      took r (encode c) made W (checked_record by_list r (length lent_output) (encode c) (given block_contents) W (record { short = (refl, tt); named = digest; accepted = plain })) g o

-- ---- what matters of replica i: its counters, how many blocks it holds and which, and who voted and committed, by its rows
pub record State (i : ℕ) (c : Counters) (k : ℕ) (held : List Block) (first : ℕ) (A C : ℕ → Bool) (r : Replica) : Type 0 where
  pub memory : List ℕ
  pub store : List Block
  pub is : r ≡ record { counters = c; memory = memory; store = store }
  pub regular : RegularReplica (record { counters = c; memory = memory; store = store })
  pub settings : settings_of memory ≡ six
  pub own : own_of memory ≡ i
  pub listed : leaders_of memory ≡ leaders
  pub count : block_count_of memory ≡ k
  pub blocks : take k store ≡ held
  pub rows : Rows block_name first A C memory

-- ---- one entry of the run, of a replica as it stands there
pub record Step (r : Replica) (bytes : List ℕ) (made : List (List ℕ)) (P : Replica → Type 0) : Type 0 where
  pub accepts : accepted (outcome_of r (handed bytes)).reply ≡ true
  pub makes : makes r (handed bytes) ≡ made
  pub after : P (left (outcome_of r (handed bytes)))

pub step : {P : Replica → Type 0} (r r₀ s : Replica) (bytes : List ℕ) (made : List (List ℕ)) → r ≡ r₀ → Took r₀ bytes made s → P s → Step r bytes made P
step {P} r r₀ s bytes made e t p = subst (λ (x : Replica). Step x bytes made P) (sym e) (record { accepts = t.accepts; makes = t.makes; after = subst P (sym t.leaves) p })

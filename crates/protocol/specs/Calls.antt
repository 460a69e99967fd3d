-- THE CALLS: opening, record, timer, propose, for every input (01: The box; Refusals). The core gives a refusal, or the replica's next state and the
-- bytes written; the outcome puts them into the lent regions. Record and propose ask who leads a view: by which rule is an argument of them, `by_list` (02, 2.1)
-- in the code. Both may come with contents (02, 2.5): `record_call_with` and `propose_call_with`. Assumes nothing.
use Rattle.std.specs.Prelude.{ℕ, List, [], ◌∷◌, ◌++◌, ltb, length, drop}
use Rattle.settings.specs.declared.Settings.{Settings}
use Rattle.settings.specs.Answer.{Answer, accepts, refuses, Rule, ◌⇒◌, judge}
use Rattle.settings.specs.Opening.{opening_rules, leader_rules}
use Rattle.codec.specs.Bytes.{patch, le_bytes}
use Rattle.codec.specs.Names.{zero_name}
use Rattle.wire.specs.Encode.{block_certificate_bytes}
use Rattle.wire.specs.Shape.{shape_rules}
use Rattle.wire.specs.Content.{content}
use Rattle.blocks.specs.declared.Block.{Block}
use Rattle.memory.specs.Layout.{memory_length, with_leaders, with_entry, with_block_count}
use Rattle.memory.specs.Window.{without_ballots, without_timeouts}
use Rattle.memory.specs.Leaders.{Leading}
use Rattle.counters.specs.declared.Counters.{Counters}
use Rattle.counters.specs.Counters.{opened}
use Rattle.protocol.specs.Work.{Work, n}
use Rattle.protocol.specs.Refusals.{store_length, region_rules, refusals, timer_rules, propose_rules}
use Rattle.protocol.specs.Contents.{Contents, too_long_rule, record_digest_rule, right_before, record_place, propose_place, propose_digest_rule}
use Rattle.protocol.specs.Events.{on_record, on_timer, on_propose}
use Rattle.protocol.specs.Rules.{settle}

-- one list of rules after another
infixr 60 ◌then◌
abbrev pub ◌then◌ : List Rule → List Rule → List Rule
a then b = a ++ b

-- what a replica has between calls
pub record Replica : Type 0 where
  pub counters : Counters
  pub memory : List ℕ
  pub store : List Block

abbrev pub begin : Replica → Work
begin r = record { counters = r.counters; memory = r.memory; store = r.store; out = [] }

-- ---- the refusals of each call, its whole list; the core of the call is a refusal, or what is left and written
module _ (lead : Leading) (r : Replica) (room : ℕ) where
  abbrev pub record_refusals : List ℕ → List Rule
  record_refusals bytes = let W = begin r in region_rules W room then shape_rules (n W) bytes then refusals W lead bytes (content bytes)

  unfoldable pub record_core : List ℕ → Answer Work
  record_core bytes = judge (record_refusals bytes) (settle (on_record bytes (content bytes) (begin r)))

  abbrev pub propose_refusals : List ℕ → List Rule
  propose_refusals x = let W = begin r in region_rules W room then propose_rules W lead x

  unfoldable pub propose_core : List ℕ → Answer Work
  propose_core x = judge (propose_refusals x) (settle (on_propose x (begin r)))

  -- ---- the same with contents, or with none: 16 "right after 2 (propose: before 15)", 17 "right before 10 (propose: before 14)"; for propose the name is
  -- checked "with the safe block and its height plus 1". A call that is accepted does what it does without
  abbrev pub record_refusals_with : List ℕ → Contents → List Rule
  record_refusals_with bytes c =
      let W = begin r in
      region_rules W room then too_long_rule c then shape_rules (n W) bytes then right_before record_place (record_digest_rule W (content bytes) c) (refusals W lead bytes (content bytes))

  unfoldable pub record_core_with : List ℕ → Contents → Answer Work
  record_core_with bytes c = judge (record_refusals_with bytes c) (settle (on_record bytes (content bytes) (begin r)))

  abbrev pub propose_refusals_with : List ℕ → Contents → List Rule
  propose_refusals_with x c = let W = begin r in region_rules W room then too_long_rule c then right_before propose_place (propose_digest_rule W x c) (propose_rules W lead x)

  unfoldable pub propose_core_with : List ℕ → Contents → Answer Work
  propose_core_with x c = judge (propose_refusals_with x c) (settle (on_propose x (begin r)))

module _ (r : Replica) (room : ℕ) where
  abbrev pub timer_refusals : ℕ → List Rule
  timer_refusals v = let W = begin r in region_rules W room then timer_rules W v

  unfoldable pub timer_core : ℕ → Answer Work
  timer_core v = judge (timer_refusals v) (settle (on_timer v (begin r)))

-- opening: settings and own number, the leader list, no held block, the genesis certificate as entry certificate, and empty rows
unfoldable pub opened_memory : List ℕ → Settings → ℕ → List ℕ → List ℕ
opened_memory m s own leaders =
    let h = patch m 0 (le_bytes 2 s.f ++ le_bytes 2 s.c ++ le_bytes 2 s.k ++ le_bytes 2 own) in
    without_timeouts (without_ballots (with_entry (with_block_count (with_leaders h leaders) 0) (block_certificate_bytes own 0 zero_name 0)) 0 8) 0 4

-- 2, of an opening: nothing is asked but the lengths of memory and store
abbrev pub length_rules : Replica → List Rule
length_rules r = ltb (length r.memory) memory_length ⇒ 2 ∷ ltb (length r.store) store_length ⇒ 2 ∷ []

abbrev pub opening_refusals : Replica → Settings → ℕ → ℕ → List ℕ → List Rule
opening_refusals r s n own leaders = opening_rules s n own then leader_rules n leaders then length_rules r

unfoldable pub opening_core : Replica → ℕ → ℕ → ℕ → ℕ → ℕ → List ℕ → Answer Work
opening_core r f c k n own leaders =
    let s : Settings = record { f = f; c = c; k = k } in
    judge (opening_refusals r s n own leaders)
    (record { counters = opened; memory = opened_memory r.memory s own leaders; store = r.store; out = [] })

-- ---- the outcome: the reply, and each region afterwards. "Answer 0 is acceptance, returned with the number of bytes written; the bytes after them stay."
pub record Outcome : Type 0 where
  pub reply : Answer ℕ
  pub counters : Counters
  pub memory : List ℕ
  pub store : List Block
  pub output : List ℕ

unfoldable pub outcome : Replica → List ℕ → Answer Work → Outcome
outcome r output (accepts W) =
    record { reply = accepts (length W.out); counters = W.counters; memory = W.memory; store = W.store; output = W.out ++ drop (length W.out) output }
outcome r output (refuses a) = record { reply = refuses a; counters = r.counters; memory = r.memory; store = r.store; output = output }

unfoldable pub record_call : Leading → Replica → List ℕ → List ℕ → Outcome
record_call lead r output bytes = outcome r output (record_core lead r (length output) bytes)

unfoldable pub timer_call : Replica → List ℕ → ℕ → Outcome
timer_call r output v = outcome r output (timer_core r (length output) v)

unfoldable pub propose_call : Leading → Replica → List ℕ → List ℕ → Outcome
propose_call lead r output x = outcome r output (propose_core lead r (length output) x)

unfoldable pub record_call_with : Leading → Replica → List ℕ → List ℕ → Contents → Outcome
record_call_with lead r output bytes c = outcome r output (record_core_with lead r (length output) bytes c)

unfoldable pub propose_call_with : Leading → Replica → List ℕ → List ℕ → Contents → Outcome
propose_call_with lead r output x c = outcome r output (propose_core_with lead r (length output) x c)

unfoldable pub opening_call : Replica → ℕ → ℕ → ℕ → ℕ → ℕ → List ℕ → Outcome
opening_call r f c k n own leaders = outcome r [] (opening_core r f c k n own leaders)

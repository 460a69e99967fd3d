-- What a call is judged and does beside its visits to the store, for every store that fits what was found there. Assumes nothing.
use Rattle.std.specs.Prelude.{ℕ, ◌+◌, ◌*◌, ◌^◌, ◌<◌, ◌≡◌, List, length, Result, IfOk}
use Rattle.settings.specs.declared.refusal.Refusal.{Refusal}
use Rattle.settings.specs.Refusal.{refused}
use Rattle.wire.specs.Content.{content}
use Rattle.wire.specs.Fields.{release_length, vote_length, block_certificate_length, timeout_length, proposal_head}
use Rattle.blocks.specs.declared.Block.{Block}
use Rattle.blocks.specs.Store.{Found}
use Rattle.memory.specs.Layout.{entry_room, block_count_of, ballot_rows, timeout_rows}
use Rattle.counters.specs.declared.Counters.{Counters}
use Rattle.protocol.specs.Work.{Work}
use Rattle.protocol.specs.Refusals.{store_length, region_rules, timer_rules}
use Rattle.protocol.specs.Calls.{◌then◌}
use Rattle.refusals.specs.Number.{first_of, or_else}
use Rattle.refusals.specs.Early.{lent}
use Rattle.judge.specs.Want.{Wanted, record_want, propose_want}
use Rattle.judge.specs.Late.{looked_up, record_late, propose_late}
use Rattle.act.specs.declared.Draft.{Draft}
use Rattle.act.specs.Draft.{left, left_by, Ready}
use Rattle.event.specs.Event.{filled}
use Rattle.rules.specs.Phases.{phases}
use Rattle.perform.specs.declared.Done.{Done}
use Rattle.perform.specs.declared.Judged.{Judged}

-- ---- THE NUMBER of each call, by the lists of `protocol`: 0 where none of its rules applies
unfoldable pub timer_number : ℕ → ℕ → Work → ℕ
timer_number room v W = first_of (region_rules W room then timer_rules W v)

unfoldable pub propose_number : ℕ → List ℕ → Work → ℕ
propose_number room x W = let w = propose_want W room x in or_else w.refusal (propose_late W w)

unfoldable pub record_number : ℕ → List ℕ → Work → ℕ
record_number room r W = let w = record_want W room r in or_else w.refusal (record_late W w (content r))

-- ---- THE JUDGEMENT of propose and of a record: what was wanted, and what the store holds of it
pub record LookedUp (wanted : Work → Wanted) (w : Wanted) (x y : Found) (W : Work) : Type 0 where
  pub want : w ≡ wanted W
  pub found : x ≡ looked_up W w w.name
  pub under : y ≡ looked_up W w w.base

abbrev pub ProposeFound : ℕ → List ℕ → Wanted → Found → Found → Work → Type 0
ProposeFound room x w found under W = LookedUp (λ (X : Work). propose_want X room x) w found under W

abbrev pub RecordFound : ℕ → List ℕ → Wanted → Found → Found → Work → Type 0
RecordFound room r w found under W = LookedUp (λ (X : Work). record_want X room r) w found under W

-- what was found, as an accepted call is told it
unfoldable pub judged_by : Found → Found → Judged
judged_by found under = record { held = found.is; below = under.block.height }

-- a call is rightly judged: its refusal is that of the lists, and of an accepted one it is known what the event asks of the store
pub record Judges {A : Type 0} (number : Work → ℕ) (such : A → Work → Type 0) (result : Result A Refusal) (W : Work) : Type 0 where
  pub is : refused result ≡ number W
  pub shown : IfOk result (λ a. such a W)

-- ---- AN ACCEPTED CALL
pub record Accepted (number : Work → ℕ) (such : Work → Type 0) (W : Work) : Type 0 where
  pub accepted : number W ≡ 0
  pub asked : such W

-- there is a store with which the replica at work is such
pub record Lent (such : Work → Type 0) (W : List Block → Work) : Type 0 where
  pub store : List Block
  pub given : such (W store)

-- what is written at most: by the rules A, B and C, by rule D, and by a whole call
abbrev pub rules_room : ℕ
rules_room = timeout_length * timeout_rows + (entry_room * timeout_rows + (block_certificate_length + vote_length) * ballot_rows)

abbrev pub releases_room : ℕ
releases_room = release_length * store_length

abbrev pub call_room : ℕ
call_room = proposal_head + entry_room + vote_length + (rules_room + releases_room)

-- the draft of a call that has done nothing yet
abbrev pub fresh : Counters → Draft
fresh c = record { counters = c; at = 0 }

-- once the new block is filled in, where there is one: what the event f and the rules A, B and C leave, for every store of which `given` holds. As many turns as there
-- are held blocks are left for rule D, and it has room
pub record Completes (f : Work → Work) (given : Work → Type 0) (c : Counters) (m o : List ℕ) (e : Done) (m' o' : List ℕ) : Type 0 where
  pub leaves : (s : List Block) → length s < 2 ^ 64 → given (lent c m s) → left e.draft m' o' (filled s e.placed) ≡ left_by (phases (f (lent c m s))) o
  pub turns : e.turns ≡ block_count_of m'
  pub ready : Ready e.draft m' o' releases_room

-- What a reply means, and how what is lent stands for a replica of protocol. Assumes nothing.
use Rattle.std.specs.Prelude.{ℕ, ◌*◌, ◌≤◌, List, length, take}
use Rattle.settings.specs.Answer.{Answer, accepts, refuses}
use Rattle.wire.specs.Fields.{release_length}
use Rattle.blocks.specs.declared.Block.{Block}
use Rattle.memory.specs.Layout.{block_count_of}
use Rattle.counters.specs.declared.Counters.{Counters}
use Rattle.protocol.specs.Refusals.{store_length}
use Rattle.protocol.specs.Calls.{Replica, Outcome}
use Rattle.act.specs.Draft.{Ready}
use Rattle.event.specs.Event.{filled}
use Rattle.perform.specs.declared.Done.{Done}
use Rattle.replica.specs.declared.Reply.{Reply}

-- "Answer 0 is acceptance, returned with the number of bytes written"; a refused call writes none
unfoldable pub reply_of : Answer ℕ → Reply
reply_of (accepts written) = record { refusal = 0; written = written }
reply_of (refuses k) = record { refusal = k; written = 0 }

-- counters, memory and store that are lent
abbrev pub lent_to : Counters → List ℕ → List Block → Replica
lent_to c m s = record { counters = c; memory = m; store = s }

-- what a caller has after a call: the two numbers of the reply, and what is lent
pub record Replied : Type 0 where
  pub reply : Reply
  pub counters : Counters
  pub memory : List ℕ
  pub store : List Block
  pub output : List ℕ

abbrev pub replied : Reply → Counters → List ℕ → List Block → List ℕ → Replied
replied r c m s o = record { reply = r; counters = c; memory = m; store = s; output = o }

-- the same of a call of protocol
abbrev pub replied_by : Outcome → Replied
replied_by x = replied (reply_of x.reply) x.counters x.memory x.store x.output

-- before rule D: so many turns, and where there is one, refusal 2 has passed and there is room for a release of each held block
pub record Concludes (e : Done) (m o : List ℕ) (s : List Block) : Type 0 where
  pub few : e.turns ≤ store_length
  pub within : e.draft.at ≤ length o
  pub ready : 1 ≤ e.turns → Ready e.draft m o (release_length * length (take (block_count_of m) (filled s e.placed)))

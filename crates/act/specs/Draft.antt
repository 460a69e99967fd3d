-- How a draft (counters so far, bytes written so far), the lent memory and the output region stand for a replica at work (`Work` of protocol), whatever
-- its store is; and what has to hold of them before a step. Assumes nothing.
use Rattle.std.specs.Prelude.{ℕ, ◌+◌, ◌≤◌, ◌≡◌, true, cond, List, [], ◌++◌, length, take, drop}
use Rattle.codec.specs.Names.{name_length}
use Rattle.wire.specs.Encode.{vote_bytes}
use Rattle.wire.specs.declared.Carried.{Carried}
use Rattle.wire.specs.declared.Timeout.{Timeout}
use Rattle.certificate.specs.declared.Certificate.{Certificate}
use Rattle.certificate.specs.Rank.{highest}
use Rattle.blocks.specs.declared.Block.{Block}
use Rattle.memory.specs.Layout.{memory_length}
use Rattle.memory.specs.Kept.{keep}
use Rattle.counters.specs.declared.Counters.{Counters}
use Rattle.counters.specs.Counters.{locks_of}
use Rattle.protocol.specs.Work.{Work, view, own, send, with_memory}
use Rattle.protocol.specs.Refusals.{regular}
use Rattle.act.specs.declared.Draft.{Draft}

-- the replica at work: what is written so far stands in front of the output region
abbrev pub work_of : Draft → List ℕ → List ℕ → List Block → Work
work_of d m o s = record { counters = d.counters; memory = m; store = s; out = take d.at o }

-- what a step leaves: counters, number of bytes written, memory, output region, store
pub record Left : Type 0 where
  pub counters : Counters
  pub at : ℕ
  pub memory : List ℕ
  pub output : List ℕ
  pub store : List Block

abbrev pub left : Draft → List ℕ → List ℕ → List Block → Left
left d m o s = record { counters = d.counters; at = d.at; memory = m; output = o; store = s }

-- the same of a replica at work, over an output region: "the bytes after them stay"
abbrev pub left_by : Work → List ℕ → Left
left_by W o = record { counters = W.counters; at = length W.out; memory = W.memory; output = W.out ++ drop (length W.out) o; store = W.store }

-- THE RELATION: from the draft d, memory m and region o a step leaves d', m' and o' as f says, whatever the store is, which stays as it is
pub record Does (f : Work → Work) (d : Draft) (m o : List ℕ) (d' : Draft) (m' o' : List ℕ) : Type 0 where
  pub leaves : (s : List Block) → left d' m' o' s ≡ left_by (f (work_of d m o s)) o

-- BEFORE A STEP: memory and counters pass refusal 2, which asks nothing of the store, and so many bytes of the output region are left
pub record Ready (d : Draft) (m o : List ℕ) (size : ℕ) : Type 0 where
  pub long : memory_length ≤ length m
  pub regular : regular (work_of d m o []) ≡ true
  pub room : d.at + size ≤ length o

-- ---- a vote or a commit, by its kind's number: it is sent, and kept in a row
unfoldable pub send_ballot : ℕ → ℕ → ℕ → List ℕ → Work → Work
send_ballot kind row v x W =
    let W₁ = send W (vote_bytes kind (own W) v x) in
    with_memory W₁ (keep W.memory row name_length (own W) x)

-- ---- own timeout, by the counters alone: `own_timeout` of protocol
unfoldable pub carried_by : Certificate → Carried
carried_by k = record { kind = cond k.block 3 4; view = k.view; name = k.name; signers = k.signers }

unfoldable pub timeout_by : Counters → ℕ → ℕ → Timeout
timeout_by c me v = record { sender = me; view = view v; high = c.high; carried = carried_by (highest (locks_of c)) }

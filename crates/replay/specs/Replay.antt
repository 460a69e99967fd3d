-- A RUN OF THE PROGRAM (01: Known results): over a whole input as a list of pieces, and over bytes at hand as the code goes through them. Assumes nothing.
use Rattle.std.specs.Prelude.{ℕ, zero, suc, ◌+◌, Bool, cond, not, ◌&&◌, ◌||◌, Option, Some, None, List, [], ◌∷◌, ◌++◌, eqb, ltb, leb, length, take, drop}
use Rattle.settings.specs.Opening.{in_turn}
use Rattle.codec.specs.Bytes.{patch}
use Rattle.wire.specs.Fields.{header_length, length_of}
use Rattle.memory.specs.Leaders.{by_list}
use Rattle.counters.specs.declared.Counters.{Counters}
use Rattle.protocol.specs.Calls.{Replica, opening_call}
use Rattle.protocol.specs.OneCall.{call_on, left}
use Rattle.protocol.specs.Listing.{Line, line_of, number}
use Rattle.replay.specs.declared.Opening.{Opening}
use Rattle.replay.specs.declared.Place.{Place}
use Rattle.replay.specs.Input.{opening_length, opening_of, sized, Piece, front, used, pieces, Asked, calls, answers, asks}
use Rattle.replay.specs.Lines.{refused_opening, next_call, line_length, line_bytes}

-- an answer, and what stands after it: replica and output region
pub record Answered : Type 0 where
  pub answer : ℕ
  pub replica : Replica
  pub output : List ℕ

abbrev pub after_answer : ℕ → Replica → List ℕ → Answered
after_answer a r o = record { answer = a; replica = r; output = o }

-- a call is made, or the answer stands without one and nothing changes
unfoldable pub answered : Replica → List ℕ → Asked → Answered
answered r o (calls c) = let x = call_on by_list r o c in after_answer (number x.reply) (left x) x.output
answered r o (answers a) = after_answer a r o

-- ---- A WHOLE INPUT
-- what the calls so far left, their lines, and the next call's number: 0 once the program has stopped
pub record Ran : Type 0 where
  pub replica : Replica
  pub output : List ℕ
  pub lines : List Line
  pub next : ℕ

-- one piece: at most one call, and a line
unfoldable pub taken : Ran → Piece → Ran
taken s p =
    let x = answered s.replica s.output (asks p) in
    cond (eqb s.next 0) s
    (record { replica = x.replica; output = x.output; lines = s.lines ++ (line_of s.next x.answer x.replica.counters ∷ []); next = next_call s.next x.answer })

-- one after another, in the input's order
unfoldable pub run : Ran → List Piece → Ran
run s [] = s
run s (p ∷ ps) = run (taken s p) ps

-- lines, and then a run's
abbrev pub followed_by : List Line → Ran → Ran
followed_by lines s = record { replica = s.replica; output = s.output; lines = lines ++ s.lines; next = s.next }

-- the opening is a call too, but is made only where the first record is a well-formed one: with the leader list of a cluster of its n
unfoldable pub opens_with : (ℕ → List ℕ) → Replica → Option Opening → Answered
opens_with leaders r None = after_answer 1 r []
opens_with leaders r (Some o) = let x = opening_call r o.f o.c o.k o.n o.own (leaders o.n) in after_answer (number x.reply) (left x) []

-- 02, 2.1: "the list 0 to n−1 ...; the run program opens with it"
abbrev pub opens : Replica → Option Opening → Answered
opens r o = opens_with in_turn r o

-- "An accepted opening prints no line"; any other prints `0 1 0 0 0`, "and stop"
unfoldable pub begun : Answered → List ℕ → Ran
begun x o =
    cond (eqb x.answer 0) (record { replica = x.replica; output = o; lines = []; next = 1 })
    (record { replica = x.replica; output = o; lines = refused_opening ∷ []; next = 0 })

-- THE PROGRAM on an input, from what is lent: the first record opens the replica, and the others are taken one after another
unfoldable pub program : Replica → List ℕ → List ℕ → Ran
program r o input = run (begun (opens r (opening_of (take opening_length input))) o) (pieces (drop opening_length input))

-- ---- BYTES AT HAND
-- the first piece of bytes at hand is known although more may follow: its header is there, and either its length is none or all of it is there
unfoldable pub known : List ℕ → Bool
known b = leb header_length (length b) && (not (sized (length_of b)) || leb (length_of b) (length b))

-- it can be taken: where the input has ended, any byte is part of a piece
abbrev pub ready : Bool → List ℕ → Bool
ready ended b = cond ended (ltb 0 (length b)) (known b)

-- replica, output region, the region of lines, and how far both are used up
pub record Standing : Type 0 where
  pub replica : Replica
  pub output : List ℕ
  pub lines : List ℕ
  pub place : Place

abbrev pub standing : Replica → List ℕ → List ℕ → Place → Standing
standing r o lines p = record { replica = r; output = o; lines = lines; place = p }

-- before the first byte, with an empty region of lines; and where the opening was refused, with its line in it
abbrev pub start : ℕ → Place
start next = record { at = 0; filled = 0; next = next }

abbrev pub stopped : Place
stopped = record { at = 0; filled = line_length; next = 0 }

-- behind a piece of so many bytes whose answer was a
abbrev pub behind : Place → ℕ → ℕ → Place
behind p k a = record { at = p.at + k; filled = p.filled + line_length; next = next_call p.next a }

-- with the line of that answer
abbrev pub with_line : List ℕ → Place → ℕ → Counters → List ℕ
with_line lines p a c = patch lines p.filled (line_bytes (line_of p.next a c))

module _ (ended : Bool) (input : List ℕ) where
  -- a piece is taken unless the program has stopped, the piece's line has no room, or the piece isn't known
  unfoldable pub goes : ℕ → Place → Bool
  goes room p = not (eqb p.next 0) && (leb (p.filled + line_length) room && ready ended (drop p.at input))

  -- one piece, as `taken` says, with its line in the region
  unfoldable pub step : Standing → Standing
  step s =
      let rest = drop s.place.at input in
      let x = answered s.replica s.output (asks (front rest)) in
      cond (goes (length s.lines) s.place)
      (standing x.replica x.output (with_line s.lines s.place x.answer x.replica.counters) (behind s.place (used rest) x.answer))
      s

  unfoldable pub steps : ℕ → Standing → Standing
  steps zero s = s
  steps (suc k) s = steps k (step s)

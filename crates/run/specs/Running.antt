-- WHAT THE RUN PROGRAM DOES, turn by turn. What a read brings is free: no contract can say what the operating system hands over. Assumes nothing.
use Rattle.std.specs.Prelude.{ℕ, zero, suc, ◌+◌, ◌-◌, ◌≤◌, ◌<◌, ◌≡◌, Bool, true, false, not, ◌&&◌, ◌||◌, Option, List, [], ◌++◌, ◌⊎◌, eqb, ltb, length, take, drop, replicate}
use Rattle.codec.specs.Bytes.{patch}
use Rattle.codec.specs.Names.{zero_name}
use Rattle.blocks.specs.declared.Block.{Block}
use Rattle.counters.specs.declared.Counters.{Counters}
use Rattle.counters.specs.Counters.{opened}
use Rattle.protocol.specs.Refusals.{store_length}
use Rattle.protocol.specs.Calls.{Replica}
use Rattle.protocol.specs.Listing.{Line}
use Rattle.replica.specs.Reply.{lent_to}
use Rattle.replay.specs.declared.Opening.{Opening}
use Rattle.replay.specs.declared.Place.{Place}
use Rattle.replay.specs.Input.{opening_length, opening_of, pieces}
use Rattle.replay.specs.Lines.{lines_bytes}
use Rattle.replay.specs.Replay.{Ran, run, followed_by, opens, begun, known}
use Rattle.run.specs.declared.Turn.{Turn}

-- an entry of a store that holds nothing
abbrev pub empty_block : Block
empty_block = record { name = zero_name; parent = zero_name; height = record { 0 = 0 } }

-- ---- what is read
-- the first record: at most its 24 bytes, which stand at the buffer's front then
pub record FirstRead (buffer : List ℕ) (o : Option Opening) : Type 0 where
  pub got : ℕ
  pub most : got ≤ opening_length
  pub is : o ≡ opening_of (take got buffer)

-- bytes are read behind those at hand, unless the input has ended or the next piece is known; it ends where a read brings none
pub record Refilled (t : Turn) (before : List ℕ) (u : Turn) (after : List ℕ) : Type 0 where
  pub read : List ℕ
  pub hand : take u.have after ≡ take t.have before ++ read
  pub within : u.have ≤ length after
  pub idle : (t.ended || known (take t.have before)) ≡ true → (read ≡ []) × ((u.ended ≡ t.ended) × (u.have ≤ t.have))
  pub reads : (t.ended || known (take t.have before)) ≡ false → u.ended ≡ eqb (length read) 0
  pub next : u.next ≡ t.next

-- what a turn has used up is dropped, and the rest stays at hand
pub record Kept (t : Turn) (before : List ℕ) (p : Place) (u : Turn) (after : List ℕ) : Type 0 where
  pub hand : take u.have after ≡ drop p.at (take t.have before)
  pub have : u.have ≡ t.have - p.at
  pub ended : u.ended ≡ t.ended
  pub next : u.next ≡ p.next

-- ---- what stands between two turns: replica, output region, the bytes at hand, the region of lines, and how far the program is
pub record Between : Type 0 where
  pub replica : Replica
  pub output : List ℕ
  pub hand : List ℕ
  pub region : List ℕ
  pub turn : Turn

abbrev pub between : Replica → List ℕ → List ℕ → List ℕ → Turn → Between
between r o buffer lines t = record { replica = r; output = o; hand = take t.have buffer; region = lines; turn = t }

-- the run that goes on from there
abbrev pub ran_of : Between → Ran
ran_of x = record { replica = x.replica; output = x.output; lines = []; next = x.turn.next }

-- the program goes on unless it has stopped, or the input has ended and nothing is left of it
abbrev pub goes_on : Turn → Bool
goes_on t = not (eqb t.next 0) && (not t.ended || ltb 0 t.have)

-- from x to y these bytes were read and these lines given: none are read once the input has ended, which it has where a read brings none. Whatever follows in
-- the input (nothing, once it has ended), the run over all the bytes from x on is these lines, and then the run over the bytes from y on. The lines stand at the
-- front of their region, from which they are printed. And the program gets on: bytes were read, or the input's end was found, or bytes at hand were used up
pub record Went (x y : Between) : Type 0 where
  pub read : List ℕ
  pub lines : List Line
  pub ended : x.turn.ended ≡ true → y.turn.ended ≡ true
  pub none : y.turn.ended ≡ true → read ≡ []
  pub same : (rest : List ℕ) → (y.turn.ended ≡ true → rest ≡ []) → run (ran_of x) (pieces (x.hand ++ (read ++ rest))) ≡ followed_by lines (run (ran_of y) (pieces (y.hand ++ rest)))
  pub given : y.region ≡ patch x.region 0 (lines_bytes lines)
  pub most : y.turn.have ≤ x.turn.have + length read
  pub gets_on : (0 < length read) ⊎ (((x.turn.ended ≡ false) × (y.turn.ended ≡ true)) ⊎ (y.turn.have < x.turn.have))

-- turns one after another while the program goes on, at most so many
pub data Turns : ℕ → Between → Between → Type 0 where
  spent : (x : Between) → Turns zero x x
  done : (most : ℕ) (x : Between) → goes_on x.turn ≡ false → Turns most x x
  turn : (most : ℕ) (x y z : Between) → goes_on x.turn ≡ true → Went x y → Turns most y z → Turns (suc most) x z

-- ---- the whole program, on memory, store and output region: the opening, and then turns, at most so many, the first with no byte at hand
abbrev pub first_turn : Ran → List ℕ → Between
first_turn b lines = record { replica = b.replica; output = b.output; hand = []; region = lines; turn = record { have = 0; ended = false; next = b.next } }

-- the lines of the opening, none or one, stand at the front of their region before the first turn
pub record Program (most : ℕ) (m : List ℕ) (s : List Block) (o l m' : List ℕ) (s' : List Block) (o' l' : List ℕ) (t : Turn) : Type 0 where
  pub first : List ℕ
  pub short : length first ≤ opening_length
  pub counters : Counters
  pub buffer : List ℕ
  pub went : let b = begun (opens (lent_to opened m s) (opening_of first)) o in
      Turns most (first_turn b (patch l 0 (lines_bytes b.lines))) (between (lent_to counters m' s') o' buffer l' t)

-- the same with a store of its own, whose entries are empty
pub record ProgramWithStore (most : ℕ) (m o l m' o' l' : List ℕ) (t : Turn) : Type 0 where
  pub store : List Block
  pub program : Program most m (replicate store_length empty_block) o l m' store o' l' t

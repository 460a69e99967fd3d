-- THE LISTING OF 01 (Known results): "Settings (1,1,0), n 6, own 1; timer 2; timer 1; timer 1; propose the name of 32 bytes 01 hex", as calls one after another,
-- and the lines that it is to print. That the calls give these lines, over any regions that are long enough, is proofs/example/Listing.antt. Assumes nothing.
use Rattle.std.specs.Prelude.{ℕ, List, [], ◌∷◌, replicate}
use Rattle.settings.specs.Answer.{Answer, accepts, refuses}
use Rattle.codec.specs.Names.{name_length}
use Rattle.memory.specs.Leaders.{by_list}
use Rattle.counters.specs.declared.Counters.{Counters}
use Rattle.protocol.specs.Calls.{Replica, Outcome, timer_call, propose_call}
use Rattle.protocol.specs.OneCall.{left}

-- "Lines: call, answer, then view, timed and tip height after it"
pub record Line : Type 0 where
  pub call : ℕ
  pub answer : ℕ
  pub view : ℕ
  pub timed : ℕ
  pub height : ℕ

abbrev pub line : ℕ → ℕ → ℕ → ℕ → ℕ → Line
line c a v t h = record { call = c; answer = a; view = v; timed = t; height = h }

-- "Answer 0 is acceptance"
abbrev pub number : Answer ℕ → ℕ
number (accepts k) = 0
number (refuses a) = a

-- of the call of that number, that answer, and the counters after it
abbrev pub line_of : ℕ → ℕ → Counters → Line
line_of call answer c = line call answer c.view.0 c.timed.0 c.tip.height.0

abbrev pub line_after : ℕ → Outcome → Line
line_after call o = line_of call (number o.reply) o.counters

-- "the name of 32 bytes 01 hex"
unfoldable pub listed_name : List ℕ
listed_name = replicate name_length 1

-- the calls on a replica that was opened, each with an output region of its own
abbrev pub lines_of : Replica → List ℕ → List ℕ → List ℕ → List ℕ → List Line
lines_of r a b c d =
    let first = timer_call r a 2 in
    let second = timer_call (left first) b 1 in
    let third = timer_call (left second) c 1 in
    let fourth = propose_call by_list (left third) d listed_name in
    line_after 1 first ∷ line_after 2 second ∷ line_after 3 third ∷ line_after 4 fourth ∷ []

abbrev pub printed : List Line
printed =
    line 1 8 1 0 0
    ∷ line 2 0 1 1 0
    ∷ line 3 10 1 1 0
    ∷ line 4 15 1 1 0
    ∷ []

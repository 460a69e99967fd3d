-- AS BEFORE. 02, 2.1: "With regions long enough, the list 0 to n−1 must behave exactly as today": an opening with that list answers as one that asks for no
-- list, and every list of calls from there gives what it gives by 01's rule of the leader. 2.5: a record or a propose that comes without contents is the call of 01's
-- list of refusals. That all hold is proofs/call/AsBefore.antt and Contents.antt. Assumes nothing.
use Rattle.std.specs.Prelude.{ℕ, ◌≡◌, List, []}
use Rattle.settings.specs.declared.Settings.{Settings}
use Rattle.settings.specs.Answer.{accepts, Rule, judge}
use Rattle.settings.specs.Opening.{opening_rules, in_turn}
use Rattle.codec.specs.Bytes.{IsBytes}
use Rattle.wire.specs.Fit.{All}
use Rattle.memory.specs.Leaders.{Leading, by_list, round_robin}
use Rattle.counters.specs.Counters.{opened}
use Rattle.protocol.specs.Work.{Work}
use Rattle.protocol.specs.Typed.{BlockTyped}
use Rattle.protocol.specs.Contents.{none}
use Rattle.protocol.specs.Calls.{Replica, ◌then◌, length_rules, opened_memory, opening_core, opening_call, record_call, propose_call, record_call_with, propose_call_with}
use Rattle.protocol.specs.OneCall.{left, Handing, HandingTyped, outcomes}

-- the refusals of an opening that asks for no list, as 01's does: 1 by the settings and the own number, then 2
abbrev pub refusals_before : Replica → Settings → ℕ → ℕ → List Rule
refusals_before r s n own = opening_rules s n own then length_rules r

-- what an opening leaves that is accepted
abbrev pub opened_with : Replica → Settings → ℕ → List ℕ → Work
opened_with r s own leaders = record { counters = opened; memory = opened_memory r.memory s own leaders; store = r.store; out = [] }

-- over any regions and with any numbers
abbrev pub OpensAsBefore : Type 0
OpensAsBefore =
    (r : Replica) (f c k n own : ℕ)
    → let s : Settings = record { f = f; c = c; k = k } in opening_core r f c k n own (in_turn n) ≡ judge (refusals_before r s n own) (opened_with r s own (in_turn n))

-- replies, bytes sent, releases and states, of any list of calls, whatever is refused
abbrev pub CallsAsBefore : Type 0
CallsAsBefore =
    (r : Replica) (f c k n own size : ℕ) → IsBytes r.memory → All BlockTyped r.store → (opening_call r f c k n own (in_turn n)).reply ≡ accepts size
    → (ts : List Handing) → All HandingTyped ts
    → let opened = left (opening_call r f c k n own (in_turn n)) in outcomes by_list opened ts ≡ outcomes round_robin opened ts

-- ---- 2.5: without contents, over any regions and with any input, by either rule of the leader
abbrev pub RecordAsBefore : Type 0
RecordAsBefore = (lead : Leading) (r : Replica) (output bytes : List ℕ) → record_call_with lead r output bytes none ≡ record_call lead r output bytes

abbrev pub ProposeAsBefore : Type 0
ProposeAsBefore = (lead : Leading) (r : Replica) (output x : List ℕ) → propose_call_with lead r output x none ≡ propose_call lead r output x

-- What the theorems about one call say (01: Refusals; The box: "each call's output must be shown to fit"), and a list of calls on one replica.
-- Assumes nothing.
use Rattle.std.specs.Prelude.{ℕ, ◌≤◌, Bool, true, cond, ◌&&◌, ◌≡◌, List, [], ◌∷◌, eqb, ltb, length, drop}
use Rattle.settings.specs.Answer.{accepts, refuses, Rule, judge}
use Rattle.codec.specs.Bytes.{IsBytes}
use Rattle.wire.specs.Fit.{IsName, IsU64}
use Rattle.memory.specs.Layout.{settings_of, own_of, leaders_of}
use Rattle.memory.specs.Leaders.{Leading}
use Rattle.protocol.specs.Typed.{Typed}
use Rattle.protocol.specs.Refusals.{output_length, region_rules}
use Rattle.protocol.specs.Contents.{Contents}
use Rattle.protocol.specs.Calls.{Replica, begin, Outcome, timer_call, record_call_with, propose_call_with}

-- ---- a call on a replica that was opened, and what its input's type says. A record and a propose come with contents or with none (02, 2.5), of which nothing is asked
pub data Call : Type 0 where
  receive : List ℕ → Contents → Call
  timer : ℕ → Call
  propose : List ℕ → Contents → Call

abbrev pub CallTyped : Call → Type 0
CallTyped (receive bytes c) = IsBytes bytes
CallTyped (timer v) = IsU64 v
CallTyped (propose x c) = IsName x

-- by a rule that says who leads a view
abbrev pub call_on : Leading → Replica → List ℕ → Call → Outcome
call_on lead r output (receive bytes c) = record_call_with lead r output bytes c
call_on lead r output (timer v) = timer_call r output v
call_on lead r output (propose x c) = propose_call_with lead r output x c

abbrev pub ReplicaTyped : Replica → Type 0
ReplicaTyped r = Typed (begin r)

-- what a call leaves to the next one
abbrev pub left : Outcome → Replica
left o = record { counters = o.counters; memory = o.memory; store = o.store }

-- ---- THE ORDER OF REFUSALS (01: "Refusals, by place, in this order"; 02, 2.5): the numbers of each call as the papers ask them, one after another
-- "opening", 1, of the settings, the own number and the leader list; then "regions", 2
abbrev pub opening_order : List ℕ
opening_order = 1 ∷ 2 ∷ []

-- "regions", 2; "shape", 3, 4 and 5; "party", 6; "view", 7 and 8; "certificate", 9; "before", 10 and 11; "chain", 12, 13 and 14. Of contents 16, "right after 2",
-- and 17, "right before 10"
abbrev pub record_order : List ℕ
record_order = 2 ∷ 16 ∷ 3 ∷ 4 ∷ 5 ∷ 6 ∷ 7 ∷ 8 ∷ 9 ∷ 17 ∷ 10 ∷ 11 ∷ 12 ∷ 13 ∷ 14 ∷ []

-- the places of the table that speak of the timer: "regions"; 7, "below the current view (6, 7, timer)"; 8, "timer above the current view"; 10, "timer with timed ≥ view"
abbrev pub timer_order : List ℕ
timer_order = 2 ∷ 7 ∷ 8 ∷ 10 ∷ []

-- "15 propose: ... Checked right after 2; then 5 (zero name), 11 (name held), 12 (safe block not held), 13 (height over 2^62), 14". Of contents 16, "before 15", and
-- 17, "before 14"
abbrev pub propose_order : List ℕ
propose_order = 2 ∷ 16 ∷ 15 ∷ 5 ∷ 11 ∷ 12 ∷ 13 ∷ 17 ∷ 14 ∷ []

-- the place of a number in an order: what of the order stands from that number on. A number that isn't in the order has no place, and nothing stands from it on
unfoldable pub place : List ℕ → ℕ → List ℕ
place [] a = []
place (b ∷ order) a = cond (eqb b a) (b ∷ order) (place order a)

-- the number of every rule has a place in the order, and none stands before the place of the rule asked before it: the number is looked for from that place on.
-- Several rules may give one number
unfoldable pub in_order : List ℕ → List Rule → Bool
in_order order [] = true
in_order order (r ∷ rules) = let from = place order r.number in ltb 0 (length from) && in_order from rules

abbrev pub InOrder : List ℕ → List Rule → Type 0
InOrder order rules = in_order order rules ≡ true

-- ---- a refused call: the reply is the refusal, and everything is as it was
pub record Untouched (r : Replica) (output : List ℕ) (a : ℕ) (o : Outcome) : Type 0 where
  pub reply : o.reply ≡ refuses a
  pub replica : left o ≡ r
  pub region : o.output ≡ output

-- ---- an accepted call: k bytes are written, they fit, the region keeps its length and the bytes after them stay
pub record Wrote (output : List ℕ) (k : ℕ) (o : Outcome) : Type 0 where
  pub fits : k ≤ output_length
  pub size : length o.output ≡ length output
  pub stays : drop k o.output ≡ drop k output

-- memory and store keep their lengths; settings, own number and leader list stay
pub record Same (r s : Replica) : Type 0 where
  pub memory : length s.memory ≡ length r.memory
  pub store : length s.store ≡ length r.store
  pub settings : settings_of s.memory ≡ settings_of r.memory
  pub own : own_of s.memory ≡ own_of r.memory
  pub leaders : leaders_of s.memory ≡ leaders_of r.memory

-- no rule of the place "regions" applies, whatever output region of the length is lent
abbrev pub Passes : Replica → Type 0
Passes r = (room : ℕ) → output_length ≤ room → judge {A = Unit {0}} (region_rules (begin r) room) tt ≡ accepts tt

-- ---- calls one after another, each with an output region of its own
pub record Handing : Type 0 where
  pub output : List ℕ
  pub call : Call

abbrev pub HandingTyped : Handing → Type 0
HandingTyped t = CallTyped t.call

unfoldable pub after : Leading → Replica → List Handing → Replica
after lead r [] = r
after lead r (t ∷ ts) = after lead (left (call_on lead r t.output t.call)) ts

-- what each of them leaves: its reply, counters, memory, store and the output region, so also the bytes sent and the releases
unfoldable pub outcomes : Leading → Replica → List Handing → List Outcome
outcomes lead r [] = []
outcomes lead r (t ∷ ts) = let o = call_on lead r t.output t.call in o ∷ outcomes lead (left o) ts

-- What the bytes at hand ask, as the code's types say it. Assumes nothing.
use Rattle.std.specs.Prelude.{ℕ, Bool, cond, Option, Some, None, Result, Ok, Err, List, drop}
use Rattle.std.specs.Borrow.{Bor}
use Rattle.settings.specs.declared.refusal.Refusal.{Refusal}
use Rattle.settings.specs.Refusal.{number}
use Rattle.protocol.specs.Contents.{none}
use Rattle.protocol.specs.OneCall.{Call, receive, timer, propose}
use Rattle.replay.specs.declared.Ask.{Ask}
use Rattle.replay.specs.declared.Ask.TheVariants.{Timer, Propose, Record}
use Rattle.replay.specs.declared.Place.{Place}
use Rattle.replay.specs.declared.Request.{Request}
use Rattle.replay.specs.Input.{Piece, whole, broken, front, used, Asked, calls, answers, asks}
use Rattle.replay.specs.Replay.{goes}

-- a call
unfoldable pub call_of : Ask → Call
call_of (Timer v) = timer v.0
call_of (Propose x) = propose x.bytes none
call_of (Record b) = receive b.now none

-- a call, or none and what refuses it
unfoldable pub asked_of : Result Ask Refusal → Asked
asked_of (Ok a) = calls (call_of a)
asked_of (Err r) = answers (number r)

-- a call, unless the test before it refuses
unfoldable pub checked : {A : Type 0} → Result A Refusal → Call → Asked
checked (Ok a) c = calls c
checked (Err r) c = answers (number r)

-- the record that bytes begin with, or none
unfoldable pub piece_of : Option (Bor (List ℕ)) → Piece
piece_of None = broken
piece_of (Some r) = whole r.now

-- how many bytes a piece takes up, and what it asks
pub record Told : Type 0 where
  pub used : ℕ
  pub asks : Asked

abbrev pub told : Request → Told
told q = record { used = q.used; asks = asked_of q.asks }

abbrev pub told_front : List ℕ → Told
told_front b = record { used = used b; asks = asks (front b) }

-- the piece from the place on, if it is to be taken
abbrev pub told_next : Option Request → Option Told
told_next None = None
told_next (Some q) = Some (told q)

unfoldable pub request_at : Bool → List ℕ → ℕ → Place → Option Told
request_at ended input room p = cond (goes ended input room p) (Some (told_front (drop p.at input))) None

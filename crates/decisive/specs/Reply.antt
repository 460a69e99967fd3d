-- What the call's reply says, and the timeouts that stand in a record beside one of them, as a list and as bytes. Assumes nothing.
use Rattle.std.specs.Prelude.{ℕ, ◌+◌, ◌-◌, ◌*◌, true, false, Option, Some, None, Result, Ok, Err, List, map, ◌++◌, drop}
use Rattle.settings.specs.declared.refusal.Refusal.{Refusal}
use Rattle.settings.specs.Refusal.{number}
use Rattle.settings.specs.Answer.{Answer, accepts, refuses}
use Rattle.codec.specs.Bytes.{part, patch}
use Rattle.wire.specs.declared.Timeout.{Timeout}
use Rattle.wire.specs.Fields.{cut, timeouts_head, timeout_length}
use Rattle.wire.specs.Content.{timeout_of}
use Rattle.decisive.specs.declared.Decisive.{Decisive}
use Rattle.decisive.specs.Decisive.{Whose, none, named}

-- the three numbers of each answer: 0 and a sender, 0 and none, or the refusal and none
unfoldable pub reply_of : Answer Whose → Decisive
reply_of (accepts none) = record { refusal = 0; found = false; sender = 0 }
reply_of (accepts (named i)) = record { refusal = 0; found = true; sender = i }
reply_of (refuses a) = record { refusal = a; found = false; sender = 0 }

-- what the code's results mean: a sender or none, or a refusal by its number
abbrev pub whose_of : Option ℕ → Whose
whose_of None = none
whose_of (Some i) = named i

unfoldable pub judged : Result (Option ℕ) Refusal → Answer Whose
judged (Ok w) = accepts (whose_of w)
judged (Err r) = refuses (number r)

-- the first k timeouts behind a certificate's head
abbrev pub first_timeouts : List ℕ → ℕ → List Timeout
first_timeouts r k = map timeout_of (cut k (drop timeouts_head r))

-- k timeouts but timeout i: those before it, and those behind it
abbrev pub others : List ℕ → ℕ → ℕ → List Timeout
others r k i = first_timeouts r i ++ map timeout_of (cut (k - (i + 1)) (drop (timeouts_head + timeout_length * (i + 1)) r))

-- the region z with the bytes of these timeouts behind a head
unfoldable pub left_out : List ℕ → ℕ → ℕ → List ℕ → List ℕ
left_out r k i z =
    let at = timeouts_head + timeout_length * i in
    let next = timeouts_head + timeout_length * (i + 1) in
    patch (patch z timeouts_head (part r timeouts_head (timeout_length * i))) at (part r next (timeout_length * (k - (i + 1))))

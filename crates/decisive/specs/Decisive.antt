-- Whose timeout decided it (02, 2.3): of a list of timeouts, and as a call over settings and a record. Assumes nothing.
use Rattle.std.specs.Prelude.{ℕ, Bool, cond, not, ◌&&◌, ◌||◌, List, [], ◌∷◌, map, eqb, leb, length}
use Rattle.settings.specs.declared.Settings.{Settings}
use Rattle.settings.specs.Answer.{Answer, Rule, ◌⇒◌, judge}
use Rattle.settings.specs.Quorum.{timeout_quorum, last_view}
use Rattle.settings.specs.Opening.{settings_rules}
use Rattle.codec.specs.Names.{same_bytes}
use Rattle.wire.specs.declared.Timeout.{Timeout}
use Rattle.wire.specs.Fields.{kind_of, sender_of, view_of, slots}
use Rattle.wire.specs.Content.{timeout_of, certificate_of}
use Rattle.wire.specs.Shape.{frame_bad, kind_length, bad_kind, bad_value}
use Rattle.certificate.specs.Good.{progress_good}
use Rattle.certificate.specs.Safe.{safe_of_timeouts}
use Rattle.certificate.specs.Order.{only}
use Rattle.protocol.specs.Calls.{◌then◌}

-- a timeout by sender i
abbrev pub sent_by : ℕ → Timeout → Bool
sent_by i t = eqb t.sender i

-- "taken out": the timeouts but that of sender i
abbrev pub without : ℕ → List Timeout → List Timeout
without i ts = only (λ t. not (sent_by i t)) ts

-- the "safe block by name" of a certificate with these timeouts; what is built of high votes is built of theirs
abbrev pub safe_block : Settings → List Timeout → List ℕ
safe_block s ts = (safe_of_timeouts s ts).name

-- "whose timeout, taken out, leaves a certificate that still has enough timeouts but another safe block by name"
unfoldable pub is_decisive : Settings → List Timeout → ℕ → Bool
is_decisive s ts i =
    leb (timeout_quorum s) (length (without i ts))
    && not (same_bytes (safe_block s (without i ts)) (safe_block s ts))

-- a sender, or none
pub data Whose : Type 0 where
  none : Whose
  named : ℕ → Whose

-- "name the lowest sender whose timeout ...": a record's timeouts ascend by sender (refusal 5), so it is the first that has the property;
-- "Answer "none" if no sender has that property"
unfoldable pub lowest_of : Settings → List Timeout → List Timeout → Whose
lowest_of s ts [] = none
lowest_of s ts (t ∷ later) = cond (is_decisive s ts t.sender) (named t.sender) (lowest_of s ts later)

abbrev pub decisive : Settings → List Timeout → Whose
decisive s ts = lowest_of s ts ts

-- ---- THE CALL, "over a record and the settings"
-- "a kind other than 6 by 4", and one that 4 turns away "has no length of its own"; else 3, 4 and 5 "as the box would"
unfoldable pub form_rules : ℕ → List ℕ → List Rule
form_rules n r =
    let is6 = eqb (kind_of r) 6 in
    (frame_bad r || (is6 && kind_length r)) ⇒ 3
    ∷ (not is6 || bad_kind r) ⇒ 4
    ∷ bad_value n r ⇒ 5
    ∷ []

-- "refuses a bad record as the box would, by ... 6, 8 and 9, with view 0 refused by 7 in its place"
unfoldable pub certificate_rules : Settings → ℕ → List ℕ → List Rule
certificate_rules s n r =
    leb n (sender_of r) ⇒ 6
    ∷ eqb (view_of r) 0 ⇒ 7
    ∷ leb last_view (view_of r) ⇒ 8
    ∷ not (progress_good s (certificate_of r)) ⇒ 9
    ∷ []

abbrev pub record_rules : Settings → ℕ → List ℕ → List Rule
record_rules s n r = form_rules n r then certificate_rules s n r

-- "Bad settings are refused by 1"
abbrev pub decisive_rules : Settings → ℕ → List ℕ → List Rule
decisive_rules s n r = settings_rules s n then record_rules s n r

-- the timeouts inside a record of kind 6
abbrev pub timeouts_in : List ℕ → List Timeout
timeouts_in r = map timeout_of (slots r)

unfoldable pub decisive_call : ℕ → ℕ → ℕ → ℕ → List ℕ → Answer Whose
decisive_call f c k n r =
    let s : Settings = record { f = f; c = c; k = k } in
    judge (decisive_rules s n r) (decisive s (timeouts_in r))

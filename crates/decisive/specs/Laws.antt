-- What is proved of the call (02, 2.3): its refusals, and what its answer says of the record. Assumes nothing.
use Rattle.std.specs.Prelude.{ℕ, suc, ◌≤◌, ◌<◌, true, ◌≡◌, List, [], ◌∷◌, length}
use Rattle.settings.specs.declared.Settings.{Settings}
use Rattle.settings.specs.Answer.{accepts, refuses}
use Rattle.settings.specs.Quorum.{replicas, timeout_quorum}
use Rattle.wire.specs.Fields.{kind_of, view_of, count_of}
use Rattle.wire.specs.Content.{by_timeouts}
use Rattle.wire.specs.Shape.{any}
use Rattle.certificate.specs.Good.{progress_good}
use Rattle.memory.specs.Layout.{settings_of}
use Rattle.memory.specs.Leaders.{Leading}
use Rattle.protocol.specs.Refusals.{output_length}
use Rattle.protocol.specs.Calls.{Replica, record_call}
use Rattle.protocol.specs.OneCall.{InOrder, place, Passes}
use Rattle.refusals.specs.Number.{number_of}
use Rattle.decisive.specs.Decisive.{sent_by, without, safe_block, Whose, none, named, decisive_rules, timeouts_in, decisive_call}

-- ---- the refusals: "Bad settings are refused by 1, and a kind other than 6 by 4. Beyond that ... by 3, 4, 5, 6, 8 and 9, with view 0 refused by 7 in its place"
abbrev pub decisive_order : List ℕ
decisive_order = 1 ∷ 3 ∷ 4 ∷ 5 ∷ 6 ∷ 7 ∷ 8 ∷ 9 ∷ []

abbrev pub DecisiveInOrder : Type 0
DecisiveInOrder = (s : Settings) (n : ℕ) (r : List ℕ) → InOrder decisive_order (decisive_rules s n r)

-- "other numbers are not given": a refusal has a place in that order
abbrev pub NoOtherNumber : Type 0
NoOtherNumber = (f c k n a : ℕ) (r : List ℕ) → decisive_call f c k n r ≡ refuses a → 0 < length (place decisive_order a)

abbrev pub settings : ℕ → ℕ → ℕ → Settings
settings f c k = record { f = f; c = c; k = k }

-- "refuses a bad record as the box would": a replica with these settings, in whatever state, that passes 2 and has not left the record's view
pub record Judges (R : Replica) (f c k n : ℕ) (r : List ℕ) : Type 0 where
  pub cluster : settings_of R.memory ≡ settings f c k
  pub count : n ≡ replicas (settings_of R.memory)
  pub passes : Passes R
  pub current : view_of r < R.counters.view.0 → view_of r ≡ 0

abbrev pub RefusesAsReplica : Type 0
RefusesAsReplica =
    (lead : Leading) (R : Replica) (output : List ℕ) (f c k n : ℕ) (r : List ℕ) → Judges R f c k n r → output_length ≤ length output → kind_of r ≡ 6
    → number_of (decisive_call f c k n r) ≡ number_of (record_call lead R output r).reply

-- ---- the answer, of the record of a certificate that is not refused
module _ (s : Settings) (r : List ℕ) where
  -- sender i is named
  pub record Decides (i : ℕ) : Type 0 where
    -- it "stands in the record", with one timeout
    pub sends : any (sent_by i) (timeouts_in r) ≡ true
    pub once : length (timeouts_in r) ≡ suc (length (without i (timeouts_in r)))
    -- without it the certificate is good, and so "still has enough timeouts"
    pub good : progress_good s (by_timeouts (view_of r) (without i (timeouts_in r))) ≡ true
    -- it has "another safe block by name"
    pub changes : safe_block s (without i (timeouts_in r)) ≡ safe_block s (timeouts_in r) → ⊥
    -- "the lowest sender": taking out a lower one, or one that isn't there, changes nothing
    pub lowest : (j : ℕ) → j < i → safe_block s (without j (timeouts_in r)) ≡ safe_block s (timeouts_in r)

  -- none is named: whoever is taken out, too few are left or the safe block stays
  pub record NobodyDecides : Type 0 where
    pub stays : (j : ℕ) → timeout_quorum s ≤ length (without j (timeouts_in r)) → safe_block s (without j (timeouts_in r)) ≡ safe_block s (timeouts_in r)

abbrev pub NamedDecides : Type 0
NamedDecides = (f c k n i : ℕ) (r : List ℕ) → decisive_call f c k n r ≡ accepts (named i) → Decides (settings f c k) r i

abbrev pub NoneDecides : Type 0
NoneDecides = (f c k n : ℕ) (r : List ℕ) → decisive_call f c k n r ≡ accepts none → NobodyDecides (settings f c k) r

-- "as with exactly n−f−c timeouts"
abbrev pub NoneOfExactlyEnough : Type 0
NoneOfExactlyEnough = (f c k n : ℕ) (r : List ℕ) (w : Whose) → count_of r ≡ timeout_quorum (settings f c k) → decisive_call f c k n r ≡ accepts w → w ≡ none

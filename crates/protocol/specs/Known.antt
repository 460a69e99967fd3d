-- THE KNOWN RESULTS: the ten that 01 marks as proved (01: Known results), of which 02, 2.2 changes one and to which it adds one, as one table, and what a line
-- of it says of the calls. That every line holds is proofs/example/Known.antt. Assumes nothing.
use Rattle.std.specs.Prelude.{ℕ, suc, ◌≤◌, ◌<◌, ◌≡◌, false, cond, List, [], ◌∷◌, eqb, length}
use Rattle.settings.specs.declared.Settings.{Settings}
use Rattle.settings.specs.Answer.{Answer, accepts, refuses}
use Rattle.settings.specs.Opening.{bad_leaders}
use Rattle.settings.specs.Quorum.{block_quorum, weak_quorum, timeout_quorum, slow_quorum, fast_quorum}
use Rattle.codec.specs.Names.{zero_name}
use Rattle.wire.specs.declared.Vote.{Vote}
use Rattle.wire.specs.declared.Carried.{Carried}
use Rattle.wire.specs.declared.Timeout.{Timeout}
use Rattle.wire.specs.Content.{by_timeouts, certificate_of, certificate}
use Rattle.wire.specs.Encode.{encode}
use Rattle.certificate.specs.declared.Certificate.{Certificate}
use Rattle.certificate.specs.Rank.{block_certificate, weak_certificate}
use Rattle.memory.specs.Layout.{memory_length, settings_of}
use Rattle.memory.specs.Leaders.{by_list}
use Rattle.protocol.specs.Refusals.{store_length, output_length}
use Rattle.protocol.specs.Events.{safe_in}
use Rattle.protocol.specs.Calls.{Replica, begin, Outcome, opening_call, record_call}
use Rattle.protocol.specs.OneCall.{Passes}
use Rattle.protocol.specs.Example.{six}

pub data Case : Type 0 where
  -- f, c, k, n: the five quorums in 01's order, or the refusal
  settings : ℕ → ℕ → ℕ → ℕ → Answer (List ℕ) → Case
  -- timeouts of view 3 in the cluster of six, from replica 0 on: their high votes, and what one of them carries, whichever that is (the others
  -- carry genesis): the safe certificate, or the refusal
  timeouts : List Vote → Carried → Answer Certificate → Case

-- the call's refusal, or b where it accepts
unfoldable pub accepting : {B : Type 0} → B → Answer ℕ → Answer B
accepting b (accepts k) = accepts b
accepting b (refuses a) = refuses a

-- ---- "settings (f,c,k) give n and thresholds in the order above": what an opening answers, with the quorums by the settings that it leaves
abbrev pub quorums : Settings → List ℕ
quorums s = block_quorum s ∷ weak_quorum s ∷ timeout_quorum s ∷ slow_quorum s ∷ fast_quorum s ∷ []

abbrev pub quorums_or_refused : Outcome → Answer (List ℕ)
quorums_or_refused o = accepting (quorums (settings_of o.memory)) o.reply

-- ---- "timeouts of view 3 from four boxes": what the record of kind 6 is answered, with its safe certificate by the replica's settings
abbrev pub safe_or_refused : Replica → List ℕ → List ℕ → Answer Certificate
safe_or_refused r output bytes = accepting (safe_in (begin r) (certificate_of bytes)) (record_call by_list r output bytes).reply

-- kind 3
abbrev pub carries : ℕ → List ℕ → ℕ → Carried
carries v x g = record { kind = 3; view = record { 0 = v }; name = x; signers = g }

abbrev pub genesis : Carried
genesis = carries 0 zero_name 0

-- timeouts with these high votes, senders from i on; that of sender j carries c
unfoldable pub sent : Carried → ℕ → ℕ → List Vote → List Timeout
sent c j i [] = []
sent c j i (h ∷ l) = record { sender = i; view = record { 0 = 3 }; high = h; carried = cond (eqb i j) c genesis } ∷ sent c j (suc i) l

-- "In the ring of 6": a replica of that cluster, in a view up to 3, that passes refusal 2
pub record OfSix (r : Replica) : Type 0 where
  pub cluster : settings_of r.memory ≡ six
  pub view : r.counters.view.0 ≤ 3
  pub passes : Passes r

-- ---- WHAT A LINE SAYS, whatever the replica's state is otherwise; settings, by an own number and a leader list that an opening takes
unfoldable pub Holds : Case → Type 0
Holds (settings f c k n a) =
    (r : Replica) (own : ℕ) (leaders : List ℕ) → memory_length ≤ length r.memory → store_length ≤ length r.store → own < n → bad_leaders n leaders ≡ false
    → quorums_or_refused (opening_call r f c k n own leaders) ≡ a
Holds (timeouts high c a) =
    (r : Replica) (output : List ℕ) (sender j : ℕ) → OfSix r → output_length ≤ length output → sender < 6 → j < length high
    → safe_or_refused r output (encode (certificate sender (by_timeouts 3 (sent c j 0 high)))) ≡ a

-- ---- high votes, and signers: bit i for replica i
abbrev pub none : Vote
none = record { view = record { 0 = 0 }; name = zero_name }

abbrev pub votes : List ℕ → Vote
votes x = record { view = record { 0 = 3 }; name = x }

abbrev pub two_signers : ℕ
two_signers = 3

abbrev pub four_signers : ℕ
four_signers = 15

-- ---- THE TABLE, for names "A < B" of blocks. 02, 2.2: "(2,0,1) opens with n = 8 and 6, 3, 6, 5, 8"; the cluster of ten has "6, 4, 7, 5, 8 in 01's order"
abbrev pub known : List ℕ → List ℕ → List Case
known A B =
    settings 1 1 0 6 (accepts (4 ∷ 2 ∷ 4 ∷ 4 ∷ 6 ∷ []))
    ∷ settings 2 2 2 13 (accepts (8 ∷ 5 ∷ 9 ∷ 7 ∷ 11 ∷ []))
    ∷ settings 7 5 0 32 (accepts (20 ∷ 10 ∷ 20 ∷ 20 ∷ 30 ∷ []))
    ∷ settings 2 0 1 8 (accepts (6 ∷ 3 ∷ 6 ∷ 5 ∷ 8 ∷ []))
    ∷ settings 1 2 2 10 (accepts (6 ∷ 4 ∷ 7 ∷ 5 ∷ 8 ∷ []))
    ∷ settings 8 4 0 33 (refuses 1)
    ∷ timeouts (votes A ∷ votes A ∷ votes B ∷ none ∷ []) genesis (accepts (weak_certificate 3 A two_signers))
    ∷ timeouts (votes A ∷ votes A ∷ votes B ∷ votes B ∷ []) genesis (accepts (weak_certificate 3 A two_signers))
    ∷ timeouts (votes A ∷ votes A ∷ votes B ∷ none ∷ []) (carries 3 B four_signers) (accepts (block_certificate 3 B four_signers))
    ∷ timeouts (votes A ∷ votes A ∷ votes B ∷ none ∷ []) (carries 2 B four_signers) (accepts (weak_certificate 3 A two_signers))
    ∷ timeouts (votes A ∷ votes A ∷ votes B ∷ []) genesis (refuses 9)
    ∷ []

-- The place "shape": which slices are records (01: Refusals, 3, 4 and 5). All of 3, inner records included, comes before all of 4, and that
-- before all of 5. Assumes nothing.
use Rattle.std.specs.Prelude.{ℕ, suc, ◌+◌, ◌*◌, ◌^◌, Bool, true, false, not, cond, ◌||◌, List, [], ◌∷◌, eqb, ltb, leb, length}
use Rattle.std.specs.Bool.{beq}
use Rattle.settings.specs.Answer.{Answer, Rule, ◌⇒◌, judge}
use Rattle.codec.specs.Names.{same_bytes, zero_name}
use Rattle.wire.specs.Fields.{header_length, vote_length, block_certificate_length, timeout_length, timeouts_head, block_length, release_length, length_of, kind_of, sender_of, view_of, name_of, signers_of, high_view_of, high_name_of, carried_kind_of, carried_padding, carried_signers_of, count_of, count_padding, progress_of, block_name_of, slots}

-- some element passes the test
unfoldable pub any : {A : Type 0} → (A → Bool) → List A → Bool
any test [] = false
any test (x ∷ l) = test x || any test l

-- ---- 3: "slice under 8 bytes; length field isn't the slice's length or the kind's, inner records included
-- (a kind that 4 turns away has no length of its own)"
unfoldable pub frame_bad : List ℕ → Bool
frame_bad r = ltb (length r) header_length || not (eqb (length_of r) (length r))

unfoldable pub timeouts_length : List ℕ → Bool
timeouts_length r = ltb (length r) timeouts_head || (not (eqb (length r) (timeouts_head + timeout_length * count_of r)) || any frame_bad (slots r))

-- kinds 3 and 6
unfoldable pub certificate_length : List ℕ → Bool
certificate_length r =
    cond (eqb (kind_of r) 3) (not (eqb (length r) block_certificate_length))
    (cond (eqb (kind_of r) 6) (timeouts_length r)
    false)

-- the progress certificate of a proposal, a record of its own
unfoldable pub progress_length : List ℕ → Bool
progress_length r = frame_bad (progress_of r) || certificate_length (progress_of r)

-- by kind
unfoldable pub kind_length : List ℕ → Bool
kind_length r =
    cond (eqb (kind_of r) 1) (not (eqb (length r) vote_length))
    (cond (eqb (kind_of r) 2) (not (eqb (length r) vote_length))
    (cond (eqb (kind_of r) 5) (not (eqb (length r) timeout_length))
    (cond (eqb (kind_of r) 7) (progress_length r)
    (cond (eqb (kind_of r) 8) (not (eqb (length r) block_length))
    (certificate_length r)))))

unfoldable pub bad_length : List ℕ → Bool
bad_length r = frame_bad r || kind_length r

-- ---- 4: "kind not 1, 2, 3, 5, 6, 7, 8, an inner kind out of place, or a timeout's certificate kind not 3 or 4"
unfoldable pub carried_kind_bad : List ℕ → Bool
carried_kind_bad r = cond (eqb (carried_kind_of r) 3) false (not (eqb (carried_kind_of r) 4))

unfoldable pub slot_kind_bad : List ℕ → Bool
slot_kind_bad r = not (eqb (kind_of r) 5) || carried_kind_bad r

-- kinds 3 and 6; another one is out of place
unfoldable pub certificate_kind_bad : List ℕ → Bool
certificate_kind_bad r =
    cond (eqb (kind_of r) 3) false
    (cond (eqb (kind_of r) 6) (any slot_kind_bad (slots r))
    true)

unfoldable pub bad_kind : List ℕ → Bool
bad_kind r =
    cond (eqb (kind_of r) 1) false
    (cond (eqb (kind_of r) 2) false
    (cond (eqb (kind_of r) 5) (carried_kind_bad r)
    (cond (eqb (kind_of r) 7) (certificate_kind_bad (progress_of r))
    (cond (eqb (kind_of r) 8) false
    (certificate_kind_bad r)))))

-- ---- 5: "nonzero padding; zero name in a vote, commit, proposal or block; half-empty high vote; signer ≥ n; inner timeouts of another view
-- or not strictly ascending by sender; inner sender wrong or ≥ n"
-- a signer set is a number, bit i for replica i: one of n or above is in it if the number is at least 2^n
unfoldable pub beyond : ℕ → ℕ → Bool
beyond n signers = leb (2 ^ n) signers

-- a high vote of view 0 has the zero name, and no other has
unfoldable pub half_empty : ℕ → List ℕ → Bool
half_empty view name = not (beq (eqb view 0) (same_bytes name zero_name))

unfoldable pub timeout_value_bad : ℕ → List ℕ → Bool
timeout_value_bad n r =
    not (eqb (carried_padding r) 0) || (half_empty (high_view_of r) (high_name_of r) || beyond n (carried_signers_of r))

-- an inner timeout, of a certificate of that view; low is the least sender that ascends
unfoldable pub slot_value_bad : ℕ → ℕ → ℕ → List ℕ → Bool
slot_value_bad n view low r =
    not (eqb (view_of r) view) || (ltb (sender_of r) low || (leb n (sender_of r) || timeout_value_bad n r))

unfoldable pub slots_value_bad : ℕ → ℕ → ℕ → List (List ℕ) → Bool
slots_value_bad n view low [] = false
slots_value_bad n view low (r ∷ l) = slot_value_bad n view low r || slots_value_bad n view (suc (sender_of r)) l

-- kinds 3 and 6
unfoldable pub certificate_value_bad : ℕ → List ℕ → Bool
certificate_value_bad n r =
    cond (eqb (kind_of r) 3) (beyond n (signers_of r))
    (not (eqb (count_padding r) 0) || slots_value_bad n (view_of r) 0 (slots r))

-- the progress certificate of a proposal of that sender
unfoldable pub progress_value_bad : ℕ → ℕ → List ℕ → Bool
progress_value_bad n sender r = not (eqb (sender_of r) sender) || (leb n (sender_of r) || certificate_value_bad n r)

unfoldable pub proposal_value_bad : ℕ → List ℕ → Bool
proposal_value_bad n r = same_bytes (name_of r) zero_name || progress_value_bad n (sender_of r) (progress_of r)

unfoldable pub bad_value : ℕ → List ℕ → Bool
bad_value n r =
    cond (eqb (kind_of r) 1) (same_bytes (name_of r) zero_name)
    (cond (eqb (kind_of r) 2) (same_bytes (name_of r) zero_name)
    (cond (eqb (kind_of r) 5) (timeout_value_bad n r)
    (cond (eqb (kind_of r) 7) (proposal_value_bad n r)
    (cond (eqb (kind_of r) 8) (same_bytes (block_name_of r) zero_name)
    (certificate_value_bad n r)))))

-- ---- THE PLACE: the first rule that applies answers
abbrev pub shape_rules : ℕ → List ℕ → List Rule
shape_rules n r = bad_length r ⇒ 3 ∷ bad_kind r ⇒ 4 ∷ bad_value n r ⇒ 5 ∷ []

unfoldable pub shape_of : ℕ → List ℕ → Answer (Unit {0})
shape_of n r = judge (shape_rules n r) tt

-- ---- kind 9, which only the host reads: 3 and 4 as for the others, and nothing that 5 could ask
unfoldable pub release_shape : List ℕ → Answer (Unit {0})
release_shape r =
    judge (frame_bad r ⇒ 3 ∷ not (eqb (kind_of r) 9) ⇒ 4 ∷ not (eqb (length r) release_length) ⇒ 3 ∷ []) tt

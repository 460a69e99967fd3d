-- THE RUN PROGRAM'S INPUT (01, Known results: "The run program reads records on standard input"): its opening, how the bytes after it are cut into records, and
-- what each record asks. Assumes nothing.
use Rattle.std.specs.Prelude.{ℕ, zero, suc, ◌+◌, ◌*◌, Bool, cond, ◌&&◌, Option, Some, None, List, [], ◌∷◌, eqb, leb, length, take, drop}
use Rattle.settings.specs.Quorum.{largest}
use Rattle.codec.specs.Bytes.{part}
use Rattle.codec.specs.Names.{name_length}
use Rattle.wire.specs.Fields.{header_length, timeout_length, timeouts_head, proposal_head, number_at, length_of, kind_of, sender_of, view_of}
use Rattle.protocol.specs.Contents.{none}
use Rattle.protocol.specs.OneCall.{Call, receive, timer, propose}
use Rattle.replay.specs.declared.Opening.{Opening}

-- "kind 12 (u16 f, c, k, n, own, 6 zero bytes), then records, kind 10 (timer, view u64) and 11 (propose, name)"
abbrev pub opening_kind : ℕ
opening_kind = 12

abbrev pub opening_length : ℕ
opening_length = 24

abbrev pub timer_kind : ℕ
timer_kind = 10

abbrev pub timer_length : ℕ
timer_length = 16

abbrev pub propose_kind : ℕ
propose_kind = 11

abbrev pub propose_length : ℕ
propose_length = 40

-- "over 3,696 bytes": the longest record, a proposal with a timeout certificate of all replicas
abbrev pub longest_record : ℕ
longest_record = proposal_head + (timeouts_head + timeout_length * largest)

-- ---- the first record, over the input's first 24 bytes, or all where there are fewer
-- "a well-formed kind 12": it is there as a whole, with its length, its kind, "sender 0" and "6 zero bytes"
unfoldable pub well_formed : List ℕ → Bool
well_formed r =
    eqb (length r) opening_length
    && (eqb (length_of r) opening_length && (eqb (kind_of r) opening_kind && (eqb (sender_of r) 0 && eqb (number_at r 18 6) 0)))

-- its five numbers, where it is one
unfoldable pub opening_of : List ℕ → Option Opening
opening_of r =
    cond (well_formed r) (Some (record { f = number_at r 8 2; c = number_at r 10 2; k = number_at r 12 2; n = number_at r 14 2; own = number_at r 16 2 })) None

-- ---- the records after it
-- a length that a record can have: its header's at least
abbrev pub sized : ℕ → Bool
sized n = leb header_length n && leb n longest_record

-- what the input is cut into: records, and at its end bytes that are none: "cut short or over 3,696 bytes", or of a length under a header's
pub data Piece : Type 0 where
  whole : List ℕ → Piece
  broken : Piece

-- the bytes begin with a record: its header is there, its length is one, and so much is there
unfoldable pub begins_whole : List ℕ → Bool
begins_whole b = leb header_length (length b) && (sized (length_of b) && leb (length_of b) (length b))

-- the first piece of bytes that are all that is left of the input
unfoldable pub front : List ℕ → Piece
front b = cond (begins_whole b) (whole (take (length_of b) b)) broken

-- the bytes that it takes up: where it is no record, all
unfoldable pub used : List ℕ → ℕ
used b = cond (begins_whole b) (length_of b) (length b)

-- the pieces of the input's bytes, at most so many
unfoldable pub cut : ℕ → List ℕ → List Piece
cut zero b = []
cut (suc most) [] = []
cut (suc most) (x ∷ b) = front (x ∷ b) ∷ cut most (drop (used (x ∷ b)) (x ∷ b))

-- all of them: each takes up a byte or more
abbrev pub pieces : List ℕ → List Piece
pieces b = cut (length b) b

-- ---- what a piece asks
-- a call, or none and the answer
pub data Asked : Type 0 where
  calls : Call → Asked
  answers : ℕ → Asked

-- kinds 10 and 11 have one length, and 3 refuses every other; "sender 0 in these three (another sender in 10 or 11 answers 6)"
abbrev pub asks_host : List ℕ → ℕ → Call → Asked
asks_host r n c = cond (eqb (length r) n) (cond (eqb (sender_of r) 0) (calls c) (answers 6)) (answers 3)

-- any other kind is the replica's to judge. The input has no contents (02, 2.5: these come in a region of their own)
unfoldable pub asks_record : List ℕ → Asked
asks_record r =
    cond (eqb (kind_of r) timer_kind) (asks_host r timer_length (timer (view_of r)))
    (cond (eqb (kind_of r) propose_kind) (asks_host r propose_length (propose (part r 8 name_length) none)) (calls (receive r none)))

-- "a record ... cut short or over 3,696 bytes prints its line with answer 3"
abbrev pub asks : Piece → Asked
asks (whole r) = asks_record r
asks broken = answers 3

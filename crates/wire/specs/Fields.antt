-- Where the fields of a record stand (01: Records, the table). Assumes nothing.
use Rattle.std.specs.Prelude.{ℕ, zero, suc, ◌/◌, List, [], ◌∷◌, take, drop, length}
use Rattle.std.specs.Slice.Iter.{chunks_exact_rest}
use Rattle.std.specs.declared.slice.ChunksExact.{ChunksExact}
use Rattle.codec.specs.Bytes.{part, le_nat}
use Rattle.codec.specs.Names.{name_length}

-- the lengths of 01's table
abbrev pub header_length : ℕ
header_length = 8

abbrev pub vote_length : ℕ
vote_length = 48

abbrev pub block_certificate_length : ℕ
block_certificate_length = 56

abbrev pub timeout_length : ℕ
timeout_length = 112

-- a timeout certificate before its timeouts
abbrev pub timeouts_head : ℕ
timeouts_head = 24

-- a proposal before its progress certificate
abbrev pub proposal_head : ℕ
proposal_head = 88

abbrev pub block_length : ℕ
block_length = 80

abbrev pub release_length : ℕ
release_length = 56

-- the number in the k bytes from place at on
abbrev pub number_at : List ℕ → ℕ → ℕ → ℕ
number_at r at k = le_nat (part r at k)

module _ (r : List ℕ) where
  -- "Header: length u32 (the whole record), kind u16, sender u16"
  abbrev pub length_of : ℕ
  length_of = number_at r 0 4

  abbrev pub kind_of : ℕ
  kind_of = number_at r 4 2

  abbrev pub sender_of : ℕ
  sender_of = number_at r 6 2

  -- kinds 1, 2, 3, 5, 6, 7 and 9: view
  abbrev pub view_of : ℕ
  view_of = number_at r 8 8

  -- kinds 1, 2, 3, 7 and 9: name
  abbrev pub name_of : List ℕ
  name_of = part r 16 name_length

  -- kind 3: signers
  abbrev pub signers_of : ℕ
  signers_of = number_at r 48 8

  -- kind 5: high vote view, name; certificate kind, 6 zero bytes, view, name, signers
  abbrev pub high_view_of : ℕ
  high_view_of = number_at r 16 8

  abbrev pub high_name_of : List ℕ
  high_name_of = part r 24 name_length

  abbrev pub carried_kind_of : ℕ
  carried_kind_of = number_at r 56 2

  abbrev pub carried_padding : ℕ
  carried_padding = number_at r 58 6

  abbrev pub carried_view_of : ℕ
  carried_view_of = number_at r 64 8

  abbrev pub carried_name_of : List ℕ
  carried_name_of = part r 72 name_length

  abbrev pub carried_signers_of : ℕ
  carried_signers_of = number_at r 104 8

  -- kind 6: count u16, 6 zero bytes
  abbrev pub count_of : ℕ
  count_of = number_at r 16 2

  abbrev pub count_padding : ℕ
  count_padding = number_at r 18 6

  -- kind 7: parent, height, progress certificate
  abbrev pub parent_of : List ℕ
  parent_of = part r 48 name_length

  abbrev pub height_of : ℕ
  height_of = number_at r 80 8

  abbrev pub progress_of : List ℕ
  progress_of = drop proposal_head r

  -- kind 8: name, parent, height
  abbrev pub block_name_of : List ℕ
  block_name_of = part r 8 name_length

  abbrev pub block_parent_of : List ℕ
  block_parent_of = part r 40 name_length

  abbrev pub block_height_of : ℕ
  block_height_of = number_at r 72 8

  -- kind 9: height
  abbrev pub release_height_of : ℕ
  release_height_of = number_at r 48 8

-- the first k timeouts of a row of them, each a record of its own
unfoldable pub cut : ℕ → List ℕ → List (List ℕ)
cut zero s = []
cut (suc k) s = take timeout_length s ∷ cut k (drop timeout_length s)

-- "then count timeouts": the timeouts inside a timeout certificate
abbrev pub slots : List ℕ → List (List ℕ)
slots r = cut (count_of r) (drop timeouts_head r)

-- what an iterator over a row of timeouts has left
abbrev pub slots_left : ChunksExact ℕ → List (List ℕ)
slots_left s = cut (length (chunks_exact_rest s) / timeout_length) (chunks_exact_rest s)

-- Where things stand in the lent memory (01: The box: what a replica keeps). Assumes nothing.
use Rattle.std.specs.Prelude.{ℕ, ◌+◌, ◌*◌, ◌%◌, List, length, take}
use Rattle.settings.specs.declared.Settings.{Settings}
use Rattle.settings.specs.Quorum.{largest}
use Rattle.settings.specs.Opening.{most_leaders}
use Rattle.codec.specs.Bytes.{part, patch, le_bytes}
use Rattle.codec.specs.Names.{name_length}
use Rattle.wire.specs.Fields.{number_at, timeouts_head, timeout_length}

-- the longest progress certificate: a timeout certificate of all replicas
abbrev pub entry_room : ℕ
entry_room = timeouts_head + timeout_length * largest

-- the leader list stands behind the numbers, a byte an entry, and the entry certificate behind it
abbrev pub leaders_place : ℕ
leaders_place = 16

abbrev pub entry_place : ℕ
entry_place = leaders_place + most_leaders

-- a row: a mask of the replicas that have an entry, then an entry of that width for each replica
abbrev pub row_size : ℕ → ℕ
row_size width = 8 + width * largest

-- kept votes and commits: a row for each of 8 views, an entry is a name; kept timeouts: a row for each of 4 views, an entry is a record of kind 5
abbrev pub ballot_rows : ℕ
ballot_rows = 8

abbrev pub timeout_rows : ℕ
timeout_rows = 4

abbrev pub votes_place : ℕ
votes_place = entry_place + entry_room

abbrev pub commits_place : ℕ
commits_place = votes_place + row_size name_length * ballot_rows

abbrev pub timeouts_place : ℕ
timeouts_place = commits_place + row_size name_length * ballot_rows

-- the memory that a host lends has at least so many bytes
abbrev pub memory_length : ℕ
memory_length = timeouts_place + row_size timeout_length * timeout_rows

-- the row of a view
abbrev pub vote_row : ℕ → ℕ
vote_row v = votes_place + row_size name_length * (v % ballot_rows)

abbrev pub commit_row : ℕ → ℕ
commit_row v = commits_place + row_size name_length * (v % ballot_rows)

abbrev pub timeout_row : ℕ → ℕ
timeout_row v = timeouts_place + row_size timeout_length * (v % timeout_rows)

module _ (m : List ℕ) where
  -- f, c, k, own number, number of held blocks, length of the entry certificate, number of entries of the leader list: u16 each, then 2 bytes that stay free
  unfoldable pub settings_of : Settings
  settings_of = record { f = number_at m 0 2; c = number_at m 2 2; k = number_at m 4 2 }

  unfoldable pub own_of : ℕ
  own_of = number_at m 6 2

  unfoldable pub block_count_of : ℕ
  block_count_of = number_at m 8 2

  unfoldable pub entry_length_of : ℕ
  entry_length_of = number_at m 10 2

  unfoldable pub leader_count_of : ℕ
  leader_count_of = number_at m 12 2

  -- 02, 2.1: the leader list that the opening was given: of its 64 places so many
  unfoldable pub leaders_of : List ℕ
  leaders_of = take leader_count_of (part m leaders_place most_leaders)

  -- "It keeps the certificate by which it entered its view": a record of kind 3 or 6
  unfoldable pub entry_of : List ℕ
  entry_of = part m entry_place entry_length_of

  unfoldable pub with_block_count : ℕ → List ℕ
  with_block_count k = patch m 8 (le_bytes 2 k)

  unfoldable pub with_entry : List ℕ → List ℕ
  with_entry r = patch (patch m 10 (le_bytes 2 (length r))) entry_place r

  unfoldable pub with_leaders : List ℕ → List ℕ
  with_leaders l = patch (patch m 12 (le_bytes 2 (length l))) leaders_place l

-- The bytes of each record (01: Records, the table). Assumes nothing.
use Rattle.std.specs.Prelude.{ℕ, ◌+◌, ◌/◌, List, [], ◌∷◌, ◌++◌, map, length}
use Rattle.codec.specs.Bytes.{le_bytes}
use Rattle.wire.specs.declared.Timeout.{Timeout}
use Rattle.wire.specs.Fields.{vote_length, block_certificate_length, timeout_length, timeouts_head, proposal_head, block_length, release_length}
use Rattle.wire.specs.Content.{Certificate, by_block, by_timeouts, Content, vote, commit, certificate, timeout, proposal, block, release}

-- "Header: length u32 (the whole record), kind u16, sender u16"
unfoldable pub header_bytes : ℕ → ℕ → ℕ → List ℕ
header_bytes size kind sender = le_bytes 4 size ++ le_bytes 2 kind ++ le_bytes 2 sender

-- what kinds 1, 2, 3, 7 and 9 begin with: view u64, name
unfoldable pub named_bytes : ℕ → ℕ → ℕ → ℕ → List ℕ → List ℕ
named_bytes size kind sender view name = header_bytes size kind sender ++ le_bytes 8 view ++ name

-- kinds 1 and 2: view, name
unfoldable pub vote_bytes : ℕ → ℕ → ℕ → List ℕ → List ℕ
vote_bytes kind sender view name = header_bytes vote_length kind sender ++ le_bytes 8 view ++ name

-- kind 3: view, name, signers
unfoldable pub block_certificate_bytes : ℕ → ℕ → List ℕ → ℕ → List ℕ
block_certificate_bytes sender view name signers = header_bytes block_certificate_length 3 sender ++ le_bytes 8 view ++ name ++ le_bytes 8 signers

-- kind 5: view; high vote view, name; certificate kind u16, 6 zero bytes, view, name, signers
unfoldable pub timeout_bytes : Timeout → List ℕ
timeout_bytes t =
    header_bytes timeout_length 5 t.sender
    ++ le_bytes 8 t.view.0
    ++ le_bytes 8 t.high.view.0
    ++ t.high.name
    ++ le_bytes 2 t.carried.kind
    ++ le_bytes 6 0
    ++ le_bytes 8 t.carried.view.0
    ++ t.carried.name
    ++ le_bytes 8 t.carried.signers

-- kind 6: view, count u16, 6 zero bytes, then count timeouts, given as bytes
unfoldable pub timeouts_bytes : ℕ → ℕ → List ℕ → List ℕ
timeouts_bytes sender view row =
    header_bytes (timeouts_head + length row) 6 sender ++ le_bytes 8 view ++ le_bytes 2 (length row / timeout_length) ++ le_bytes 6 0 ++ row

-- kind 7: view, name, parent, height u64, progress certificate, given as bytes
unfoldable pub proposal_bytes : ℕ → ℕ → List ℕ → List ℕ → ℕ → List ℕ → List ℕ
proposal_bytes sender view name parent height progress =
    header_bytes (proposal_head + length progress) 7 sender ++ le_bytes 8 view ++ name ++ parent ++ le_bytes 8 height ++ progress

-- kind 8: name, parent, height
unfoldable pub block_bytes : ℕ → List ℕ → List ℕ → ℕ → List ℕ
block_bytes sender name parent height = header_bytes block_length 8 sender ++ name ++ parent ++ le_bytes 8 height

-- kind 9: view, name, height
unfoldable pub release_bytes : ℕ → ℕ → List ℕ → ℕ → List ℕ
release_bytes sender view name height = header_bytes release_length 9 sender ++ le_bytes 8 view ++ name ++ le_bytes 8 height

-- one list after another
unfoldable pub joined : List (List ℕ) → List ℕ
joined [] = []
joined (s ∷ l) = s ++ joined l

unfoldable pub certificate_bytes : ℕ → Certificate → List ℕ
certificate_bytes sender (by_block v x g) = block_certificate_bytes sender v x g
certificate_bytes sender (by_timeouts v ts) = timeouts_bytes sender v (joined (map timeout_bytes ts))

unfoldable pub encode : Content → List ℕ
encode (vote s v x) = vote_bytes 1 s v x
encode (commit s v x) = vote_bytes 2 s v x
encode (certificate s k) = certificate_bytes s k
encode (timeout t) = timeout_bytes t
encode (proposal s v x y h k) = proposal_bytes s v x y h (certificate_bytes s k)
encode (block s x y h) = block_bytes s x y h
encode (release s v x h) = release_bytes s v x h

-- ---- what stands before a timeout's certificate, before a row of timeouts of that size, and before a progress certificate of that size
unfoldable pub timeout_head : Timeout → List ℕ
timeout_head t = header_bytes timeout_length 5 t.sender ++ le_bytes 8 t.view.0 ++ le_bytes 8 t.high.view.0 ++ t.high.name

unfoldable pub timeouts_head_bytes : ℕ → ℕ → ℕ → List ℕ
timeouts_head_bytes sender view size =
    header_bytes (timeouts_head + size) 6 sender ++ le_bytes 8 view ++ le_bytes 2 (size / timeout_length) ++ le_bytes 6 0

unfoldable pub proposal_head_bytes : ℕ → ℕ → List ℕ → List ℕ → ℕ → ℕ → List ℕ
proposal_head_bytes sender view name parent height size =
    header_bytes (proposal_head + size) 7 sender ++ le_bytes 8 view ++ name ++ parent ++ le_bytes 8 height

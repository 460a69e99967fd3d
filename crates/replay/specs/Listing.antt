-- THE INPUT OF 01'S LISTING, as bytes (01, Known results: "Settings (1,1,0), n 6, own 1; timer 2; timer 1; timer 1; propose the name of 32 bytes 01 hex"). That the
-- program prints 01's lines on it is proofs/Listing.antt. Assumes nothing.
use Rattle.std.specs.Prelude.{ℕ, List, ◌++◌}
use Rattle.codec.specs.Bytes.{le_bytes}
use Rattle.wire.specs.Encode.{header_bytes}
use Rattle.protocol.specs.Listing.{listed_name}
use Rattle.replay.specs.Input.{opening_kind, opening_length, timer_kind, timer_length, propose_kind, propose_length}

-- "kind 12 (u16 f, c, k, n, own, 6 zero bytes), then records, kind 10 (timer, view u64) and 11 (propose, name), sender 0 in these three"
unfoldable pub opening_bytes : ℕ → ℕ → ℕ → ℕ → ℕ → List ℕ
opening_bytes f c k n own = header_bytes opening_length opening_kind 0 ++ le_bytes 2 f ++ le_bytes 2 c ++ le_bytes 2 k ++ le_bytes 2 n ++ le_bytes 2 own ++ le_bytes 6 0

unfoldable pub timer_bytes : ℕ → List ℕ
timer_bytes view = header_bytes timer_length timer_kind 0 ++ le_bytes 8 view

unfoldable pub propose_bytes : List ℕ → List ℕ
propose_bytes name = header_bytes propose_length propose_kind 0 ++ name

unfoldable pub listing_input : List ℕ
listing_input = opening_bytes 1 1 0 6 1 ++ timer_bytes 2 ++ timer_bytes 1 ++ timer_bytes 1 ++ propose_bytes listed_name

-- What the certificates that rules B and C form say when they are read, and that they fit in the memory. Assumes nothing.
use mathlib.Core.Path.{◌≡◌, refl, ap, ◌∙◌}
use mathlib.Core.List.{List, map}
use Prim.Native.Nat.{ℕ, ◌^◌, ◌≤◌, ◌<◌}
use native.Mathlib.Omega.{arith}
use lib.ListN.{length}
use Rattle.settings.specs.Quorum.{largest, last_view}
use Rattle.codec.specs.Bytes.{part, le_nat, le_bytes}
use Rattle.codec.proofs.Laws.{length-patch}
use Rattle.codec.proofs.Le.{le_nat-le_bytes}
use Rattle.wire.specs.Fields.{kind_of, view_of, slots, timeout_length}
use Rattle.wire.specs.Content.{timeout_of, by_block, by_timeouts, certificate_of}
use Rattle.wire.specs.Encode.{header_bytes, timeouts_bytes, block_certificate_bytes, certificate_bytes}
use Rattle.wire.specs.Fit.{IsName, CertificateFits}
use Rattle.wire.proofs.Lengths.{length_timeouts, length_block_certificate}
use Rattle.wire.proofs.Contents.{certificate_back}
use Rattle.memory.specs.Layout.{entry_room, memory_length, timeout_row}
use Rattle.memory.specs.Kept.{gathered}
use Rattle.memory.specs.Formed.{formed}
use Rattle.memory.proofs.Apart.{timeouts, row_fits}
use Rattle.memory.proofs.Rows.{gathered_le}
use Rattle.protocol.specs.Events.{with_sender}

-- another sender leaves the length
pub length_sender : (j : ℕ) (r : List ℕ) → length (with_sender j r) ≡ length r
length_sender j r = length-patch r 6 (le_bytes 2 j)

-- ---- a timeout certificate, whatever its timeouts are
module _ (sender view : ℕ) (row : List ℕ) where
  timeouts_kind : kind_of (timeouts_bytes sender view row) ≡ 6
  unfolding timeouts_bytes header_bytes le_bytes part le_nat
  timeouts_kind = refl

  timeouts_view : view < last_view → view_of (timeouts_bytes sender view row) ≡ view
  unfolding timeouts_bytes header_bytes le_bytes part
  timeouts_view h = let e : part (timeouts_bytes sender view row) 8 8 ≡ le_bytes 8 view = refl in ap le_nat e ∙ le_nat-le_bytes 8 view (omega arith)

  timeouts_read : view < last_view → certificate_of (timeouts_bytes sender view row) ≡ by_timeouts view (map timeout_of (slots (timeouts_bytes sender view row)))
  unfolding certificate_of
  timeouts_read h = rw timeouts_kind (ap (λ (v : ℕ). by_timeouts v (map timeout_of (slots (timeouts_bytes sender view row)))) (timeouts_view h))

-- the one that rule B forms is of the view for which it is formed, and it fits
module _ (m : List ℕ) (view n own : ℕ) where
  pub formed_read : view < last_view → certificate_of (formed m view n own) ≡ by_timeouts view (map timeout_of (slots (formed m view n own)))
  unfolding formed
  formed_read h = timeouts_read own view (gathered m (timeout_row view) timeout_length 0 n) h

  pub formed_fits : n ≤ largest → memory_length ≤ length m → length (formed m view n own) ≤ entry_room
  unfolding formed
  formed_fits h l =
      let row = gathered m (timeout_row view) timeout_length 0 n in
      let g = gathered_le m (timeout_row view) timeout_length 0 n n (omega arith) (omega (arith, row_fits timeouts view)) in
      omega (arith, length_timeouts own view row)

-- ---- a block certificate
module _ (sender view : ℕ) (x : List ℕ) (signers : ℕ) where
  pub block_view : view < last_view → view_of (block_certificate_bytes sender view x signers) ≡ view
  unfolding block_certificate_bytes header_bytes le_bytes part
  block_view h = let e : part (block_certificate_bytes sender view x signers) 8 8 ≡ le_bytes 8 view = refl in ap le_nat e ∙ le_nat-le_bytes 8 view (omega arith)

  -- the one that rule C forms is read as what it is formed of
  pub block_read : sender < 2 ^ 16 → view < last_view → IsName x → signers < 2 ^ 64 → certificate_of (block_certificate_bytes sender view x signers) ≡ by_block view x signers
  unfolding certificate_bytes CertificateFits
  block_read a b c d = certificate_back sender (by_block view x signers) a (omega arith, c, d)

  pub block_fits : IsName x → length (block_certificate_bytes sender view x signers) ≤ entry_room
  block_fits c = omega (arith, length_block_certificate x c sender view signers)

-- The lengths of the records, for any values of their numbers. Assumes nothing.
use mathlib.Core.Path.{◌≡◌}
use mathlib.Core.List.{List}
use Prim.Native.Nat.{ℕ, ◌+◌}
use lib.ListN.{length, length-append}
use Rattle.codec.proofs.Le.{length-le_bytes}
use Rattle.wire.specs.declared.Timeout.{Timeout}
use Rattle.wire.specs.Fields.{header_length, vote_length, block_certificate_length, timeout_length, timeouts_head, proposal_head, release_length}
use Rattle.wire.specs.Encode.{header_bytes, named_bytes, vote_bytes, block_certificate_bytes, timeout_bytes, timeouts_bytes, proposal_bytes, release_bytes, timeout_head, timeouts_head_bytes, proposal_head_bytes}
use Rattle.wire.specs.Fit.{IsName, TimeoutFits}

pub length_header : (size kind sender : ℕ) → length (header_bytes size kind sender) ≡ header_length
unfolding header_bytes
length_header n k s = simp (length-append, length-le_bytes)

pub length_named : (size kind sender view : ℕ) (name : List ℕ) → length name ≡ 32 → length (named_bytes size kind sender view name) ≡ 48
unfolding named_bytes
length_named n k s v x h = simp (length-append, length_header, length-le_bytes, h)

pub length_timeouts : (s v : ℕ) (row : List ℕ) → length (timeouts_bytes s v row) ≡ timeouts_head + length row
unfolding timeouts_bytes
length_timeouts s v row = simp (length-append, length_header, length-le_bytes)

pub length_timeout : (t : Timeout) → TimeoutFits t → length (timeout_bytes t) ≡ timeout_length
unfolding timeout_bytes
length_timeout t h = simp (length-append, length_header, length-le_bytes, h.high_name.size, h.carried_name.size)

-- those with one name
module _ (x : List ℕ) (hx : IsName x) where
  pub length_vote : (k s v : ℕ) → length (vote_bytes k s v x) ≡ vote_length
  unfolding vote_bytes
  length_vote k s v = simp (length-append, length_header, length-le_bytes, hx.size)

  pub length_block_certificate : (s v g : ℕ) → length (block_certificate_bytes s v x g) ≡ block_certificate_length
  unfolding block_certificate_bytes
  length_block_certificate s v g = simp (length-append, length_header, length-le_bytes, hx.size)

  pub length_release : (s v h : ℕ) → length (release_bytes s v x h) ≡ release_length
  unfolding release_bytes
  length_release s v h = simp (length-append, length_header, length-le_bytes, hx.size)

  -- and a parent's
  module _ (y : List ℕ) (hy : IsName y) where
    pub length_proposal : (s v h : ℕ) (progress : List ℕ) → length (proposal_bytes s v x y h progress) ≡ proposal_head + length progress
    unfolding proposal_bytes
    length_proposal s v h progress = simp (length-append, length_header, length-le_bytes, hx.size, hy.size)

-- ---- what stands before an inner record
pub length-timeout_head : (t : Timeout) → length t.high.name ≡ 32 → length (timeout_head t) ≡ 56
unfolding timeout_head
length-timeout_head t h = simp (length-append, length_header, length-le_bytes, h)

pub length_timeouts_head : (sender view size : ℕ) → length (timeouts_head_bytes sender view size) ≡ 24
unfolding timeouts_head_bytes
length_timeouts_head sender view size = simp (length-append, length_header, length-le_bytes)

pub length_proposal_head : (sender view : ℕ) (name parent : List ℕ) (height size : ℕ) → length name ≡ 32 → length parent ≡ 32
    → length (proposal_head_bytes sender view name parent height size) ≡ 88
unfolding proposal_head_bytes
length_proposal_head sender view name parent height size p q = simp (length-append, length_header, length-le_bytes, p, q)

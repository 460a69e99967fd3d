use mathlib.Core.List.{append_assoc}
use Rattle.codec.specs.Bytes.{le_bytes}
use Rattle.codec.proofs.Le.{length-le_bytes}
use Rattle.wire.specs.Encode.{header_bytes, timeouts_head_bytes}
use Rattle.wire.proofs.Writes.{first, next, whole, zeros}
use Rattle.wire.proofs.Lengths.{length_header}
use Prim.Native.Nat.{◌+◌, ◌/◌}
use Rattle.wire.proofs.write.put_timeouts_head.Goals as goal

pub returns : goal.returns
unfolding timeouts_head_bytes
returns c = let a = c.args in
    whole (timeouts_head_bytes a.sender a.view.0 a.size)
    (next (le_bytes 6 (0)) 6
    (next (le_bytes 2 (a.size / 112)) 2
    (next (le_bytes 8 a.view.0) 8
    (first a.out.now a.at (header_bytes (24 + a.size) 6 a.sender) (rw c.into.ensures at c.put_header.ensures) (length_header (24 + a.size) 6 a.sender))
    c.put_u64.ensures (length-le_bytes 8 a.view.0))
    c.put_le.ensures (length-le_bytes 2 (a.size / 112)))
    (rw zeros c.clear.ensures) (length-le_bytes 6 (0)))
    (simp append_assoc)

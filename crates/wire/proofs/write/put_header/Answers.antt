use mathlib.Core.List.{append_assoc}
use Rattle.codec.specs.Bytes.{le_bytes}
use Rattle.codec.proofs.Le.{length-le_bytes}
use Rattle.wire.specs.Encode.{header_bytes}
use Rattle.wire.proofs.Writes.{first, next, whole}
use Rattle.wire.proofs.write.put_header.Goals as goal

pub returns : goal.returns
unfolding header_bytes
returns c = let a = c.args in
    whole (header_bytes a.size a.kind a.sender)
    (next (le_bytes 2 a.sender) 2
    (next (le_bytes 2 a.kind) 2
    (first a.out.now a.at (le_bytes 4 a.size) c.put_u32.ensures (length-le_bytes 4 a.size))
    c.put_u16.ensures (length-le_bytes 2 a.kind))
    c.put_u16-2.ensures (length-le_bytes 2 a.sender))
    (simp append_assoc)

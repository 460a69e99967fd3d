use mathlib.Core.List.{append_assoc}
use Rattle.codec.specs.Bytes.{le_bytes}
use Rattle.codec.proofs.Le.{length-le_bytes}
use Rattle.wire.specs.Encode.{header_bytes, named_bytes}
use Rattle.wire.proofs.Writes.{first, next, whole}
use Rattle.wire.proofs.Lengths.{length_header}
use borrow.Author.Rules.{rules}
use Rattle.wire.proofs.write.put_named.Goals as goal

pub returns : goal.returns
unfolding named_bytes
returns c = let a = c.args in
    whole (named_bytes a.size a.kind a.sender a.view.0 a.name)
    (next a.name 32
    (next (le_bytes 8 a.view.0) 8
    (first a.out.now a.at (header_bytes a.size a.kind a.sender) c.put_header.ensures (length_header a.size a.kind a.sender))
    c.put_u64.ensures (length-le_bytes 8 a.view.0))
    c.put_name.ensures (search rules))
    (simp append_assoc)

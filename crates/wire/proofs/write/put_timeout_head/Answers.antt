use lib.ListN.{length}
use mathlib.Core.Path.{◌≡◌}
use mathlib.Core.List.{append_assoc}
use Rattle.codec.specs.Bytes.{le_bytes}
use Rattle.codec.proofs.Le.{length-le_bytes}
use Rattle.wire.specs.Encode.{header_bytes, timeout_head}
use Rattle.wire.proofs.Writes.{first, next, whole}
use Rattle.wire.proofs.Lengths.{length_header}
use borrow.Author.Rules.{rules}
use Rattle.wire.proofs.write.put_timeout_head.Goals as goal

pub returns : goal.returns
unfolding timeout_head
returns c = let size : length c.args.t.high.name ≡ 32 = search rules in
    let a = c.args in
    whole (timeout_head a.t)
    (next a.t.high.name 32
    (next (le_bytes 8 a.t.high.view.0) 8
    (next (le_bytes 8 a.t.view.0) 8
    (first a.out.now a.at (header_bytes 112 5 a.t.sender) (rw c.into.ensures at c.put_header.ensures) (length_header 112 5 a.t.sender))
    c.put_u64.ensures (length-le_bytes 8 a.t.view.0))
    c.put_u64-2.ensures (length-le_bytes 8 a.t.high.view.0))
    c.put_name.ensures size)
    (simp append_assoc)

use lib.ListN.{length}
use mathlib.Core.Path.{◌≡◌}
use mathlib.Core.List.{append_assoc}
use Rattle.codec.specs.Bytes.{le_bytes}
use Rattle.codec.proofs.Le.{length-le_bytes}
use Rattle.wire.specs.Encode.{named_bytes, proposal_head_bytes}
use Rattle.wire.proofs.Writes.{first, next, whole}
use Rattle.wire.proofs.Lengths.{length_named}
use Prim.Native.Nat.{◌+◌}
use borrow.Author.Rules.{rules}
use Rattle.wire.proofs.write.put_proposal_head.Goals as goal

pub returns : goal.returns
unfolding named_bytes proposal_head_bytes
returns c = let size : length c.args.child.name ≡ 32 = search rules in
    let size-2 : length c.args.child.parent ≡ 32 = search rules in
    let a = c.args in
    whole (proposal_head_bytes a.sender a.view.0 a.child.name a.child.parent a.child.height.0 a.size)
    (next (le_bytes 8 a.child.height.0) 8
    (next a.child.parent 32
    (first a.out.now a.at (named_bytes (88 + a.size) 7 a.sender a.view.0 a.child.name) (rw c.into.ensures at c.put_named.ensures) (length_named (88 + a.size) 7 a.sender a.view.0 a.child.name size))
    c.put_name.ensures size-2)
    c.put_u64.ensures (length-le_bytes 8 a.child.height.0))
    (simp append_assoc)

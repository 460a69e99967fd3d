use mathlib.Core.List.{append_assoc}
use Rattle.codec.specs.Bytes.{le_bytes}
use Rattle.codec.proofs.Le.{length-le_bytes}
use lib.ListN.{length}
use mathlib.Core.Path.{◌≡◌}
use Rattle.wire.specs.Encode.{named_bytes, block_certificate_bytes}
use Rattle.wire.proofs.Writes.{first, next, whole}
use Rattle.wire.proofs.Lengths.{length_named}
use borrow.Author.Rules.{rules}
use Rattle.wire.proofs.write.put_block_certificate.Goals as goal

pub returns : goal.returns
unfolding named_bytes block_certificate_bytes
returns c = let a = c.args in
    let size : length a.vote.name ≡ 32 = search rules in
    whole (block_certificate_bytes a.sender a.vote.view.0 a.vote.name a.signers)
    (next (le_bytes 8 a.signers) 8
    (first a.out.now a.at (named_bytes 56 3 a.sender a.vote.view.0 a.vote.name) (rw c.into.ensures at c.put_named.ensures) (length_named 56 3 a.sender a.vote.view.0 a.vote.name size))
    c.put_u64.ensures (length-le_bytes 8 a.signers))
    (simp append_assoc)

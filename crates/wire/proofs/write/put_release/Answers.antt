use mathlib.Core.List.{append_assoc}
use Rattle.codec.specs.Bytes.{le_bytes}
use Rattle.codec.proofs.Le.{length-le_bytes}
use lib.ListN.{length}
use mathlib.Core.Path.{◌≡◌}
use Rattle.wire.specs.Encode.{named_bytes, release_bytes}
use Rattle.wire.proofs.Writes.{first, next, whole}
use Rattle.wire.proofs.Lengths.{length_named}
use borrow.Author.Rules.{rules}
use Rattle.wire.proofs.write.put_release.Goals as goal

pub returns : goal.returns
unfolding named_bytes release_bytes
returns c = let a = c.args in
    let size : length a.release.name ≡ 32 = search rules in
    whole (release_bytes a.sender a.release.view.0 a.release.name a.release.height.0)
    (next (le_bytes 8 a.release.height.0) 8
    (first a.out.now a.at (named_bytes 56 9 a.sender a.release.view.0 a.release.name) (rw c.into.ensures at c.put_named.ensures) (length_named 56 9 a.sender a.release.view.0 a.release.name size))
    c.put_u64.ensures (length-le_bytes 8 a.release.height.0))
    (simp append_assoc)

use lib.ListN.{length}
use mathlib.Core.Path.{◌≡◌}
use mathlib.Core.List.{append_assoc}
use Rattle.codec.specs.Bytes.{le_bytes}
use Rattle.codec.proofs.Le.{length-le_bytes}
use Rattle.wire.specs.Encode.{timeout_head, timeout_bytes}
use Rattle.wire.proofs.Writes.{first, next, whole, zeros}
use Rattle.wire.proofs.Lengths.{length-timeout_head}
use borrow.Author.Rules.{rules}
use Rattle.wire.proofs.write.put_timeout.Goals as goal

pub returns : goal.returns
unfolding timeout_head timeout_bytes
returns c = let size : length c.args.t.high.name ≡ 32 = search rules in
    let size-2 : length c.args.t.carried.name ≡ 32 = search rules in
    let a = c.args in
    whole (timeout_bytes a.t)
    (next (le_bytes 8 a.t.carried.signers) 8
    (next a.t.carried.name 32
    (next (le_bytes 8 a.t.carried.view.0) 8
    (next (le_bytes 6 (0)) 6
    (next (le_bytes 2 a.t.carried.kind) 2
    (first a.out.now a.at (timeout_head a.t) c.put_timeout_head.ensures (length-timeout_head a.t size))
    c.put_u16.ensures (length-le_bytes 2 a.t.carried.kind))
    (rw zeros c.clear.ensures) (length-le_bytes 6 (0)))
    c.put_u64.ensures (length-le_bytes 8 a.t.carried.view.0))
    c.put_name.ensures size-2)
    c.put_u64-2.ensures (length-le_bytes 8 a.t.carried.signers))
    (simp append_assoc)

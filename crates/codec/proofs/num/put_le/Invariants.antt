use Rattle.std.proofs.Common.{◌≡◌, ◌-◌, ◌++◌, take}
use Rattle.codec.specs.Bytes.{le_bytes}
use Rattle.codec.proofs.num.put_le.Given as goal

abbrev pub invariant-loop-byte : goal.invariant-loop-byte
invariant-loop-byte l = take l.byte-index l.byte-items ++ le_bytes (l.k - l.byte-index) l.rest ≡ le_bytes l.k l.x

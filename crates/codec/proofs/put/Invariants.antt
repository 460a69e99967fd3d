use Rattle.std.proofs.Common.{◌≡◌, ◌+◌, length, drop}
use Rattle.codec.specs.Bytes.{patch}
use Rattle.codec.proofs.put.Given as goal

abbrev pub invariant-loop-i : goal.invariant-loop-i
invariant-loop-i l = (length l.mem ≡ length l.initial.mem) × (patch l.mem (l.at + l.i) (drop l.i l.v) ≡ patch l.initial.mem l.at l.v)

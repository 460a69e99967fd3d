use mathlib.Core.Path.{◌≡◌}
use Prim.Native.Nat.{◌+◌}
use lib.ListN.{length, drop}
use Rattle.codec.specs.Bytes.{part, patch}
use Rattle.run.proofs.reading.move_to_front.Given as goal

abbrev pub invariant-loop-i : goal.invariant-loop-i
invariant-loop-i l = (length l.buf ≡ length l.initial.buf) × ((patch l.buf (0 + l.i) (drop l.i (part l.initial.buf l.at l.n)) ≡ patch l.initial.buf 0 (part l.initial.buf l.at l.n)) × (drop (l.at + l.i) l.buf ≡ drop (l.at + l.i) l.initial.buf))

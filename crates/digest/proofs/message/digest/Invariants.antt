use Prim.Native.Nat.{◌*◌}
use mathlib.Core.Path.{◌≡◌}
use lib.ListN.{drop}
use Rattle.codec.specs.Bytes.{patch}
use Rattle.digest.specs.Sha256.{spell}
use Rattle.digest.proofs.message.digest.Given as goal

abbrev pub invariant-loop-i : goal.invariant-loop-i
invariant-loop-i l = patch l.r (4 * l.i) (spell (drop l.i l.words)) ≡ spell l.words

use Rattle.digest.specs.Sha256.{Maj}
use Rattle.digest.proofs.Bitwise.{majority}
use native.Mathlib.Omega.{arith}
use Rattle.digest.proofs.word.maj.Goals as goal

pub returns : goal.returns
unfolding Maj
returns c = majority 32 c.args.x c.args.y c.args.z (omega arith) (omega arith) (omega arith)

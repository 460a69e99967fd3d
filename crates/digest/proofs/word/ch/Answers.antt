use Rattle.digest.specs.Sha256.{Ch}
use Rattle.digest.proofs.Bitwise.{choose}
use native.Mathlib.Omega.{arith}
use Rattle.digest.proofs.word.ch.Goals as goal

pub returns : goal.returns
unfolding Ch
returns c = choose 32 c.args.x c.args.y c.args.z (omega arith) (omega arith) (omega arith)

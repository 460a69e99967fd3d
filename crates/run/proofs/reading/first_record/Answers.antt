use lib.ListN.{length-take}
use native.Mathlib.Omega.{arith}
use Rattle.run.proofs.reading.first_record.Goals as goal

pub returns-then-buf-lt-OPENING : goal.returns-then-buf-lt-OPENING
returns-then-buf-lt-OPENING g c = record { got = 0; most = omega arith; is = c.opening.ensures }

pub returns : goal.returns
returns g c = record { got = c.read_full-got.result; most = omega (arith, c.read_full-got.ensures, c.read_full-got.auto.free, length-take 24 c.args.buf.now); is = c.opening-2.ensures }

use Rattle.std.proofs.lemmas.Grind.{common_steps}
use Rattle.std.proofs.lemmas.Bool.Decides.{nat_tests}
use mathlib.Core.Path.{◌≡◌, sym, ◌∙◌}
use Prim.Native.Nat.{◌<◌}
use mathlib.Core.Bool.{false}
use borrow.Author.Tests.{lt-ltb}
use Rattle.codec.proofs.Words.{shifted}
use Rattle.certificate.specs.Safe.{joins}
use Rattle.certificate.proofs.Signers.{joined_lt}
use native.Mathlib.Omega.{arith}
use Rattle.certificate.proofs.safe.joins.Goals as goal

pub overflow_add-result : goal.overflow_add-result
overflow_add-result c = let h : c.args.i < 64 = omega arith in rw (shifted _ h) (record { fits = joined_lt 64 _ _ c.ranges.signers.fits h (sym c.signs.ensures ∙ c.if-not-signs.true) })

pub returns-then-not-signs : goal.returns-then-not-signs
unfolding joins
returns-then-not-signs c = let h : c.args.i < 64 = omega arith in let e : c.signs.result ≡ false = c.if-not-signs.true in rw (lt-ltb _ _ c.if-i-n.true, ← c.signs.ensures, e, shifted _ h)

pub returns : goal.returns
unfolding joins
returns c = grind (arith, common_steps, nat_tests)

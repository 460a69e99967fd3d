use Prim.Native.Nat.{ℕ, ◌^◌, ◌≤◌, ◌<◌}
use native.Mathlib.Nat.{lt_of_lt_of_le, pow-le-pow_right}
use lib.Dec.{lit<}
use borrow.Author.Tests.{lt-leb, le-ltb}
use mathlib.Core.Path.{sym}
use Rattle.wire.specs.Shape.{beyond}
use Rattle.shape.proofs.signer_beyond.Goals as goal

-- no number of 64 bits reaches 2^n from n = 64 on
below-wide : (n x : ℕ) → 64 ≤ n → x < 2 ^ 64 → x < 2 ^ n
below-wide n x h b = lt_of_lt_of_le b (pow-le-pow_right (lit< tt) h)

pub returns-else-n-lt64 : goal.returns-else-n-lt64
unfolding beyond
returns-else-n-lt64 c = rw (le-ltb _ _ c.if-n-lt64.false) (sym (lt-leb _ _ (below-wide _ _ c.if-n-lt64.false c.ranges.signers.fits)))

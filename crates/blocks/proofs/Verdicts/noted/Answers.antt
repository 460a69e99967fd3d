-- The bit that is added was not set.
use mathlib.Core.Path.{◌≡◌, ◌∙◌}
use Prim.Native.Nat.{ℕ, ◌*◌, ◌%◌, ◌^◌, ◌<◌}
use native.Mathlib.Nat.{one-mul}
use native.Mathlib.Omega.{arith}
use lib.Dec.{lit<}
use lib.Pow.{shl_exact}
use borrow.Author.Tests.{lt-ltb, le-ltb}
use Rattle.certificate.proofs.Signers.{joined_lt}
use Rattle.blocks.specs.Steps.{noted_of}
use Rattle.blocks.proofs.Judging.{free}
use Rattle.blocks.proofs.Verdicts.noted.Goals as goal

-- a bit shifted by less than the width
shifted : (n : ℕ) → n < 128 → (1 * 2 ^ n) % 2 ^ 128 ≡ 2 ^ n
shifted n h = shl_exact 1 n 128 (lit< tt) (omega arith) ∙ one-mul (2 ^ n)

pub overflow_add-result : goal.overflow_add-result
overflow_add-result c = rw (shifted _ c.if-i-lt-STORE_LENGTH.true) (record { fits = joined_lt 128 _ _ (omega arith) c.if-i-lt-STORE_LENGTH.true (free _ _ c.requires c.if-i-lt-STORE_LENGTH.true) })

pub returns-then-i-lt-STORE_LENGTH : goal.returns-then-i-lt-STORE_LENGTH
unfolding noted_of
returns-then-i-lt-STORE_LENGTH c = rw (shifted _ c.if-i-lt-STORE_LENGTH.true, lt-ltb _ _ c.if-i-lt-STORE_LENGTH.true)

pub returns : goal.returns
unfolding noted_of
returns c = rw (le-ltb _ _ c.if-i-lt-STORE_LENGTH.false)

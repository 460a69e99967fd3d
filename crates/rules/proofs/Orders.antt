-- What a test of the order of two views says of their numbers. Assumes nothing.
use mathlib.Core.Path.{◌≡◌, sym, ◌∙◌}
use mathlib.Core.Bool.{Bool, true, false}
use Prim.Native.Nat.{ℕ, ◌≤◌, ◌<◌}
use lib.Dec.{ltb, leb}
use borrow.Author.Tests.{ltb-true, ltb-false, leb-true, leb-false}
use borrow.Author.Rules.{rules}
use Rattle.std.proofs.Common.{is_lt, is_le, nat_cmp}

lt_is : (a b : ℕ) → is_lt (nat_cmp a b) ≡ ltb a b
lt_is a b = search rules

le_is : (a b : ℕ) → is_le (nat_cmp a b) ≡ leb a b
le_is a b = search rules

module _ (a b : ℕ) {t : Bool} where
  pub below : t ≡ is_lt (nat_cmp a b) → t ≡ true → a < b
  below e h = ltb-true a b (sym (e ∙ lt_is a b) ∙ h)

  pub not_below : t ≡ is_lt (nat_cmp a b) → t ≡ false → b ≤ a
  not_below e h = ltb-false a b (sym (e ∙ lt_is a b) ∙ h)

  pub at_most : t ≡ is_le (nat_cmp a b) → t ≡ true → a ≤ b
  at_most e h = leb-true a b (sym (e ∙ le_is a b) ∙ h)

  pub not_at_most : t ≡ is_le (nat_cmp a b) → t ≡ false → b < a
  not_at_most e h = leb-false a b (sym (e ∙ le_is a b) ∙ h)

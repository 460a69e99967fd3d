-- The tip, or what stands at the place.
use mathlib.Core.Path.{◌≡◌, sym, ◌∙◌}
use Prim.Native.Nat.{ℕ}
use lib.Dec.{ltb}
use borrow.Author.Rules.{rules}
use Rattle.std.proofs.Common.{is_lt, nat_cmp}
use Rattle.blocks.proofs.Judging.{nowhere, goes_to, not_below, not_held}
use Rattle.blocks.proofs.step.Goals as goal

lt_is : (a b : ℕ) → is_lt (nat_cmp a b) ≡ ltb a b
lt_is a b = search rules

pub returns-in-Some : goal.returns-in-Some
returns-in-Some c = goes_to c.args.tip c.args.held.now c.args.b (sym c.is_named.ensures ∙ c.if-is_named.false) c.in-Some.at nowhere (rw c.in-Some.is at c.place.ensures) (sym (lt_is _ _) ∙ sym c.if-lt.ensures)

pub returns-in_default : goal.returns-in_default
returns-in_default c = not_below c.args.tip c.args.held.now c.args.b (sym c.is_named.ensures ∙ c.if-is_named.false) c.in-Some.at nowhere (rw c.in-Some.is at c.place.ensures) (sym (lt_is _ _) ∙ sym c.if-lt.ensures)

pub returns-in_default-2 : goal.returns-in_default-2
returns-in_default-2 c = not_held c.args.tip c.args.held.now c.args.b (sym c.is_named.ensures ∙ c.if-is_named.false) (rw c.in_default.is at c.place.ensures)

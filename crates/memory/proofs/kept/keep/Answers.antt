use Prim.Native.Nat.{ℕ, ◌^◌}
use mathlib.Core.Bool.{false}
use Rattle.certificate.specs.Safe.{signs}
use lib.ListN.{length}
use mathlib.Core.Path.{◌≡◌, sym, ap, ◌∙◌}
use Prim.Native.Nat.{◌<◌}
use Rattle.codec.proofs.Words.{shifted}
use Rattle.certificate.proofs.Signers.{joined_lt}
use Rattle.memory.proofs.Places.{entry_inside}
use Rattle.memory.specs.Kept.{keep, has}
use borrow.Author.Rules.{rules}
use native.Mathlib.Omega.{arith}
use Rattle.memory.proofs.kept.keep.Goals as goal

pub returns-then-has : goal.returns-then-has
unfolding keep
returns-then-has c = rw (← c.has.ensures, c.if-has.true)

pub put-requires : goal.put-requires
put-requires c = omega (arith, c.entry_at.ensures, entry_inside (length c.args.e.now) c.args.i 32 c.requires.1.1.0)

pub overflow_add-given : goal.overflow_add-given
unfolding has
overflow_add-given c = let h : c.args.i < 64 = omega arith in
    let e : signs c.mask-given.result c.args.i ≡ false = ap (λ (g : ℕ). signs g c.args.i) c.mask-given.ensures ∙ sym c.has.ensures ∙ c.if-has.false in
    let b : c.mask-given.result < 2 ^ 64 = search rules in
    rw (shifted _ h) (record { fits = joined_lt 64 _ _ b h e })

pub returns : goal.returns
unfolding keep
returns c = let h : c.args.i < 64 = omega arith in rw (← c.has.ensures, c.if-has.false, c.put_u64.ensures, c.put.ensures, c.entry_at.ensures, c.mask-given.ensures, shifted _ h)

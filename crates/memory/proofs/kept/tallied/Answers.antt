use Prim.Native.Nat.{◌^◌, ◌≤◌}
use lib.Pow.{pow_mono}
use Prim.Native.Nat.{◌<◌}
use Rattle.codec.proofs.Words.{shifted}
use Rattle.memory.specs.Kept.{tallied}
use native.Mathlib.Omega.{arith}
use Rattle.memory.proofs.kept.tallied.Goals as goal

pub overflow_add-result-then-backs : goal.overflow_add-result-then-backs
overflow_add-result-then-backs c = let h : c.args.i < 64 = omega arith in
    let q : c.args.i ≤ 31 = omega arith in
    let p : 2 ^ c.args.i ≤ 2 ^ 31 = pow_mono q in
    rw (shifted _ h) (record { fits = omega arith })

pub returns-then-backs : goal.returns-then-backs
unfolding tallied
returns-then-backs c = let h : c.args.i < 64 = omega arith in rw (← c.backs.ensures, c.if-backs.true, shifted _ h)

pub returns : goal.returns
unfolding tallied
returns c = rw (← c.backs.ensures, c.if-backs.false)

use mathlib.Core.Path.{ap}
use Prim.Native.Nat.{ℕ, ◌+◌}
use native.Mathlib.Omega.{arith}
use Rattle.replay.proofs.report.Goals as goal

pub put_line-requires : goal.put_line-requires
put_line-requires c = c.requires.0

pub overflow_add-result : goal.overflow_add-result
overflow_add-result c = omega (arith, c.requires.1)

pub overflow_add-result-2 : goal.overflow_add-result-2
overflow_add-result-2 c = omega (arith, c.requires.0)

pub returns : goal.returns
returns c = let k = ap (λ (n : ℕ). record { at = c.args.p.at + c.args.used; filled = c.args.p.filled + 40; next = n }) c.next_call.ensures in (k, c.put_line.ensures)

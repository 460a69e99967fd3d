use Rattle.memory.proofs.Places.{entry_small}
use native.Mathlib.Omega.{arith}
use Rattle.memory.proofs.kept.entry_at.Goals as goal

pub overflow_mul-result : goal.overflow_mul-result
overflow_mul-result c = omega (arith, entry_small c.args.width c.args.i c.requires.1.0 c.requires.1.1)

pub overflow_add-result : goal.overflow_add-result
overflow_add-result c = omega (arith, entry_small c.args.width c.args.i c.requires.1.0 c.requires.1.1)

pub overflow_add-result-2 : goal.overflow_add-result-2
overflow_add-result-2 c = omega (arith, entry_small c.args.width c.args.i c.requires.1.0 c.requires.1.1)

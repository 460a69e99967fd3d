use Rattle.memory.proofs.Rows.{put_one, put_none}
use mathlib.Core.Path.{sym, ◌∙◌}
use Rattle.memory.proofs.Places.{entry_inside}
use native.Mathlib.Omega.{arith}
use Rattle.memory.proofs.kept.gather_one.Goals as goal

pub overflow_add-from : goal.overflow_add-from
overflow_add-from c = omega (arith, c.entry_at-from.ensures, entry_inside c.args.width c.args.i 32 c.requires.1.1.0)

pub slice_bounds-put-end : goal.slice_bounds-put-end
slice_bounds-put-end c = omega (arith, c.entry_at-from.ensures, entry_inside c.args.width c.args.i 32 c.requires.1.1.0)

pub returns-then-has : goal.returns-then-has
returns-then-has c = put_one _ _ _ c.args.i 32 _ _ c.requires.1.1.0 c.requires.1.1.1.0 (sym c.has.ensures ∙ c.if-has.true) c.entry_at-from.ensures c.put.ensures

pub returns : goal.returns
returns c = put_none _ _ _ c.args.i 32 _ _ c.requires.1.1.0 c.requires.1.1.1.0 (sym c.has.ensures ∙ c.if-has.false)

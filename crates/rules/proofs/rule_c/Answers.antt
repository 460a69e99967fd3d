use Rattle.rules.proofs.Orders.{below}
use Rattle.rules.proofs.Views.{c_below}
use native.Mathlib.Omega.{arith}
use Rattle.rules.proofs.rule_c.Goals as goal

pub returns-then-lt : goal.returns-then-lt
returns-then-lt c = c_below c.args.d _ _ c.args.view.0 (omega (arith, c.requires.0.room)) (below _ _ c.lt.ensures c.if-lt.true)

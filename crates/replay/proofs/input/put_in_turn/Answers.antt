use mathlib.Core.Path.{refl, sym, ◌∙◌}
use lib.ListN.{length-set}
use Rattle.replay.proofs.InTurn.{turn_put, end_put}
use native.Mathlib.Omega.{arith}
use Rattle.replay.proofs.input.put_in_turn.Goals as goal

pub loop-i-init : goal.loop-i-init
loop-i-init c = (refl, refl)

pub loop-i-preserved : goal.loop-i-preserved
loop-i-preserved c = let l = c.loop-i in (simp length-set l.invariant.0, turn_put l.list l.i (omega arith) ∙ l.invariant.1)

pub returns : goal.returns
returns c = let l = c.loop-i in sym (end_put l.list l.i (omega arith)) ∙ l.invariant.1

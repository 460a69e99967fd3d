use mathlib.Core.Path.{sym, ◌∙◌}
use Prim.Native.Nat.{◌-◌, ◌^◌}
use Rattle.run.specs.Running.{spent}
use Rattle.run.proofs.Turning.{one_more, no_more_turns, all_turns}
use native.Mathlib.Omega.{arith}
use Rattle.run.proofs.run_turns.Goals as goal

pub loop-turn-init : goal.loop-turn-init
loop-turn-init g c = spent _

pub take_turn-t-requires : goal.take_turn-t-requires
take_turn-t-requires g c = (sym c.goes_on.ensures ∙ c.if-not-goes_on.false, omega arith)

pub loop-turn-preserved : goal.loop-turn-preserved
loop-turn-preserved g c = one_more c.loop-turn.invariant (sym c.goes_on.ensures ∙ c.if-not-goes_on.false) c.take_turn-t.ensures

pub returns-then-not-goes_on : goal.returns-then-not-goes_on
returns-then-not-goes_on g c = no_more_turns (2 ^ 64 - 1) c.loop-turn.invariant (omega arith) (sym c.goes_on.ensures ∙ c.if-not-goes_on.true)

pub returns : goal.returns
returns g c = all_turns (2 ^ 64 - 1) c.loop-turn.invariant (omega arith)

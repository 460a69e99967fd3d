use mathlib.Core.Path.{sym, ◌∙◌}
use Rattle.settings.proofs.Leaders.{from_on, from_here, from_end}
use Rattle.settings.proofs.has_from.Goals as goal

pub returns-then-n-leader : goal.returns-then-n-leader
returns-then-n-leader c = let a = c.args in let l = c.loop-leader in sym (l.invariant ∙ from_here a.n a.leaders.now l.leader-index c.loop-leader-test.true c.if-n-leader.true)

pub loop-leader-preserved : goal.loop-leader-preserved
loop-leader-preserved c = let a = c.args in let l = c.loop-leader in l.invariant ∙ from_on a.n a.leaders.now l.leader-index c.loop-leader-test.true c.if-n-leader.false

pub returns : goal.returns
returns c = let a = c.args in let l = c.loop-leader in sym (l.invariant ∙ from_end a.n a.leaders.now l.leader-index c.loop-leader-test.false)

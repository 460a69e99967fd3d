-- The pieces that are left leave what all were to leave.
use mathlib.Core.Path.{◌≡◌}
use Rattle.replica.specs.Reply.{lent_to}
use Rattle.replay.specs.Replay.{standing, steps}
use Rattle.replay.proofs.run_steps.Given as goal

abbrev pub invariant-pieces : goal.invariant-pieces
invariant-pieces l =
    steps l.ended l.input l.left (standing (lent_to l.counters l.mem l.store) l.out l.lines l.p)
    ≡ steps l.ended l.input l.most (standing (lent_to l.initial.counters l.initial.mem l.initial.store) l.initial.out l.initial.lines l.fn.first)

abbrev pub decreases-pieces : goal.decreases-pieces
decreases-pieces l = l.left

use Rattle.replica.specs.Reply.{lent_to}
use Rattle.run.specs.Running.{between, Turns}
use Rattle.run.proofs.run_turns.Given as goal

abbrev pub invariant-loop-turn : goal.invariant-loop-turn
invariant-loop-turn g l =
    Turns l._turn (between (lent_to l.initial.counters l.initial.mem l.initial.store) l.initial.out l.initial.buf l.initial.lines l.fn.first)
    (between (lent_to l.counters l.mem l.store) l.out l.buf l.lines l.t)

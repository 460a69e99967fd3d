use mathlib.Core.Path.{◌≡◌}
use Prim.Native.Nat.{◌+◌, ◌-◌}
use Rattle.memory.specs.Window.{without_ballots}
use Rattle.memory.proofs.window.drop_ballots.Given as goal

abbrev pub invariant-loop-i : goal.invariant-loop-i
invariant-loop-i l = without_ballots l.mem (l.from.0 + l.i) (l.k - l.i) ≡ without_ballots l.initial.mem l.from.0 l.k

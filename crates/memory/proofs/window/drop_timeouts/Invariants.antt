use mathlib.Core.Path.{◌≡◌}
use Prim.Native.Nat.{◌+◌, ◌-◌}
use Rattle.memory.specs.Window.{without_timeouts}
use Rattle.memory.proofs.window.drop_timeouts.Given as goal

abbrev pub invariant-loop-i : goal.invariant-loop-i
invariant-loop-i l = without_timeouts l.mem (l.from.0 + l.i) (l.k - l.i) ≡ without_timeouts l.initial.mem l.from.0 l.k

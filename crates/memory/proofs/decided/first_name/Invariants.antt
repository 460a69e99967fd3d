use mathlib.Core.Path.{◌≡◌}
use Prim.Native.Nat.{◌-◌}
use Rattle.memory.specs.Decided.{first_of}
use Rattle.memory.proofs.decided.first_name.Given as goal

abbrev pub invariant-loop-i : goal.invariant-loop-i
invariant-loop-i l = first_of l.mem l.row 0 l.n ≡ first_of l.mem l.row l.i (l.n - l.i)

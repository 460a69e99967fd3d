use mathlib.Core.Path.{◌≡◌}
use Prim.Native.Nat.{◌+◌, ◌*◌, ◌-◌, ◌≤◌}
use lib.ListN.{length}
use Rattle.codec.specs.Bytes.{patch}
use Rattle.memory.specs.Kept.{gathered}
use Rattle.memory.proofs.kept.gather.Given as goal

abbrev pub invariant-loop-i : goal.invariant-loop-i
invariant-loop-i l = record {
  within : l.to ≤ l.at + l.width * l.i;
  place : l.to + length (gathered l.mem l.row l.width l.i (l.n - l.i)) ≡ l.at + length (gathered l.mem l.row l.width 0 l.n);
  written : patch l.out l.to (gathered l.mem l.row l.width l.i (l.n - l.i)) ≡ patch l.initial.out l.at (gathered l.mem l.row l.width 0 l.n);
}

-- The turns that are left leave what all were to leave; and what there is, is ready for the next one.
use Prim.Native.Nat.{◌-◌, ◌*◌, ◌<◌, ◌≤◌}
use mathlib.Core.Path.{◌≡◌}
use lib.ListN.{length}
use Rattle.wire.specs.Fields.{release_length}
use Rattle.protocol.specs.Rules.{again}
use Rattle.act.specs.Draft.{work_of, left_by, Ready}
use Rattle.release.specs.Released.{held_blocks}
use Rattle.release.proofs.release_all.Given as goal

abbrev pub invariant-turns : goal.invariant-turns
invariant-turns l =
    (left_by (again (l.k - l.counter) (work_of l.draft l.mem l.out l.store)) l.out ≡ left_by (again l.k (work_of l.fn.d l.fn.mem l.fn.out l.fn.store)) l.fn.out)
    × ((l.draft.at ≤ length l.out) × (l.counter < l.k → Ready l.draft l.mem l.out (release_length * length (held_blocks l.mem l.store))))

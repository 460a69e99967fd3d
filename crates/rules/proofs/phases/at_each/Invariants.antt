use Prim.Native.Nat.{◌-◌}
use Rattle.protocol.specs.Rules.{each}
use Rattle.act.specs.Draft.{Does}
use Rattle.rules.proofs.phases.at_each.Given as goal

abbrev pub invariant-loop-view : goal.invariant-loop-view
invariant-loop-view g l = Does (each g.law.does l.fn.first.0 (l.view - l.fn.first.0)) l.initial.next l.initial.mem l.initial.out l.next l.mem l.out

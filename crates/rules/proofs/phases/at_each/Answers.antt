use borrow.Author.Rules.{rules}
use Prim.Native.Nat.{◌-◌}
use native.Mathlib.Nat.{mul-le-mul_left}
use Rattle.act.proofs.Steps.{ready_facts, ready_regular}
use Rattle.rules.proofs.Running.{run_start, run_turn, run_ready, run_ends}
use native.Mathlib.Omega.{arith}
use Rattle.rules.proofs.phases.at_each.Goals as goal

pub highest-end-requires : goal.highest-end-requires
highest-end-requires g c = (ready_facts _ _ _ c.requires.1.0).view_last

pub loop-view-init : goal.loop-view-init
loop-view-init g c = run_start g.law.does g.law.longer c.args.d _ _ c.args.first.0 (omega (arith, c.requires.1.0.room))

pub rule-next-requires : goal.rule-next-requires
rule-next-requires g c =
    let f = ready_facts _ _ _ c.requires.1.0 in
    c.requires.1.1.1.0 _ _ _ _
    (run_ready g.law.does g.law.room g.law.keeps g.law.grows c.args.first.0 (c.loop-view.view - c.args.first.0) c.loop-view.invariant c.requires.1.0 (ready_regular c.args.d _ _ c.requires.1.0 (search rules) (λ j. (c.slice_known-1.given j).fits)) (omega (arith, c.highest-end.ensures, f.view_last, c.loop-view-test.true, c.loop-view.auto.view, c.requires.1.1.0)) (mul-le-mul_left g.law.room (omega (arith, c.highest-end.ensures, c.loop-view-test.true, c.loop-view.auto.view))))
    (omega (arith, c.highest-end.ensures, f.view_last, c.loop-view-test.true))

pub loop-view-preserved : goal.loop-view-preserved
loop-view-preserved g c = run_turn g.law.does g.law.longer c.args.first.0 c.loop-view.view c.loop-view.auto.view c.loop-view.invariant (c.requires.1.1.1.1 _ _ _ _ _ _ _ c.rule-next.ensures)

pub returns : goal.returns
returns g c =
    let f = ready_facts _ _ _ c.requires.1.0 in
    run_ends g.law.does c.args.first.0 c.loop-view.view c.highest-end.result.0 c.highest-end.ensures c.loop-view.auto.view (omega (arith, c.highest-end.ensures, f.view_last, f.view_first, c.requires.1.1.0, c.loop-view.auto.view-end)) (omega (arith, c.loop-view-test.false)) c.loop-view.invariant

use borrow.Author.Rules.{rules}
use Rattle.act.proofs.Steps.{ready_facts, ready_regular, ready_less}
use Rattle.rules.proofs.Running.{ready_b, ready_c, phases_do}
use native.Mathlib.Omega.{arith}
use Rattle.rules.proofs.phases.run_all.Goals as goal

pub run_a-a-requires : goal.run_a-a-requires
run_a-a-requires c = ready_less _ _ _ _ _ (omega arith) c.requires

pub run_b-b-requires : goal.run_b-b-requires
run_b-b-requires c = ready_b c.requires (ready_regular c.args.d _ _ c.requires (search rules) (λ j. (c.slice_known-1.given j).fits)) c.run_a-a.ensures

pub run_c-requires : goal.run_c-requires
run_c-requires c =
    let r = ready_c c.requires (ready_regular c.args.d _ _ c.requires (search rules) (λ j. (c.slice_known-1.given j).fits)) c.run_a-a.ensures c.run_b-b.ensures in
    (r, (ready_facts _ _ _ r).view_first)

pub shape_of-mem : goal.shape_of-mem
shape_of-mem c = omega (arith, c.run_a-a.auto.mem, c.run_b-b.auto.mem, c.run_c.auto.mem)

pub shape_of-out : goal.shape_of-out
shape_of-out c = omega (arith, c.run_a-a.auto.out, c.run_b-b.auto.out, c.run_c.auto.out)

pub returns : goal.returns
returns c = phases_do c.run_a-a.ensures c.run_b-b.ensures c.run_c.ensures

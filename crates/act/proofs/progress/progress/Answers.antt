use Prim.Native.Nat.{◌≤◌, ◌<◌}
use borrow.Author.Rules.{rules}
use Rattle.act.proofs.Steps.{ready_facts}
use Rattle.act.proofs.Advancing.{below_does, put_in_output, came_does}
use Rattle.act.proofs.progress.progress.Goals as goal

pub adopt_safe-requires : goal.adopt_safe-requires
adopt_safe-requires c = (c.requires.0.long, ((ready_facts _ _ _ c.requires.0).few, c.requires.1.form))

pub returns-then-lt : goal.returns-then-lt
returns-then-lt c = let h : c.u64_at.result < c.args.d.counters.view.0 = search rules in below_does c.args.d _ _ c.args.rec.now c.requires.0 c.requires.1 c.u64_at.ensures h c.adopt_safe.ensures

pub act_on-requires : goal.act_on-requires
act_on-requires c = let h : c.args.d.counters.view.0 ≤ c.u64_at.result = search rules in put_in_output c.args.d _ _ c.args.rec.now c.requires.0 c.requires.1 c.u64_at.ensures h c.put.ensures c.own.ensures c.put_u16.ensures

pub returns : goal.returns
returns c = let h : c.args.d.counters.view.0 ≤ c.u64_at.result = search rules in came_does c.args.d _ _ c.args.rec.now c.requires.0 c.requires.1 c.u64_at.ensures h c.put.ensures c.own.ensures c.put_u16.ensures c.act_on.ensures

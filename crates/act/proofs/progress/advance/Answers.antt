use mathlib.Core.Path.{ap, ◌∙◌}
use Rattle.settings.specs.declared.View.{View}
use Rattle.protocol.proofs.call.Regular.{adopting-view}
use Rattle.memory.proofs.Entering.{length-entered}
use Rattle.act.proofs.Steps.{ready_facts}
use Rattle.act.proofs.Advancing.{lent_form, lent_most, view_read, advance_does}
use lib.ListN.{length}
use native.Mathlib.Omega.{arith}
use Rattle.act.proofs.progress.advance.Goals as goal

pub adopt_safe-counters-requires : goal.adopt_safe-counters-requires
adopt_safe-counters-requires c = let i = c.requires in (i.ready.long, ((ready_facts _ _ _ i.ready).few, lent_form _ _ _ _ i))

pub overflow_add-next : goal.overflow_add-next
overflow_add-next c = let i = c.requires in omega (arith, view_read _ _ _ _ i c.u64_at.ensures, i.progress.view)

pub enter-requires : goal.enter-requires
enter-requires c = let i = c.requires in let e = view_read _ _ _ _ i c.u64_at.ensures in let w = ap (λ (x : View). x.0) (ap (λ x. x.view) c.adopt_safe-counters.ensures ∙ adopting-view _ _) in (i.ready.long, (omega (arith, e, i.view, w), omega (arith, e, i.progress.view)))

pub put_entry-requires : goal.put_entry-requires
put_entry-requires c = let i = c.requires in let l = lent_most _ _ _ _ i in (omega (arith, l, i.ready.long, ap length c.enter.ensures ∙ length-entered _ _ _), omega (arith, l))

pub returns : goal.returns
returns c = let i = c.requires in advance_does _ _ _ _ i c.adopt_safe-counters.ensures c.u64_at.ensures c.enter.ensures c.put_entry.ensures c.entering.ensures

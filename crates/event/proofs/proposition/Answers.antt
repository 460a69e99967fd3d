use mathlib.Core.Path.{sym, ◌∙◌}
use borrow.Author.Tests.{eqb-true, eqb-false}
use borrow.Author.Rules.{rules}
use Rattle.act.proofs.Steps.{ready_facts, ready_regular, ready_less}
use Rattle.act.proofs.Advancing.{progress_form, progress_room}
use Rattle.event.proofs.Holding.{adopted_ready, now_gives, next_ready, next_room, next_gives}
use native.Mathlib.Omega.{arith}
use Rattle.event.proofs.proposition.Goals as goal

pub adopt_safe-requires : goal.adopt_safe-requires
adopt_safe-requires c = (c.requires.0.long, ((ready_facts _ _ _ c.requires.0).few, c.requires.1.0.form))

pub hold_and_vote-requires : goal.hold_and_vote-requires
hold_and_vote-requires c = let R = ready_regular c.args.d _ _ c.requires.0 (search rules) (λ j. (c.slice_known-1.given j).fits) in
    let f = progress_form _ c.args.rec.now (λ j. (c.shared_slice_known-1.given j).fits) c.requires.1.0 in
    (adopted_ready c.args.d _ _ c.args.rec.now 48 (ready_less _ _ _ _ 48 (omega arith) c.requires.0) R f c.adopt_safe.ensures, c.requires.1.1)

pub returns-then-eq : goal.returns-then-eq
returns-then-eq c = now_gives c.args.d _ _ c.args.view.0 c.args.block c.args.held c.args.rec.now (omega (arith, c.requires.0.room)) (eqb-true _ _ (sym c.eq.ensures ∙ c.if-eq.true)) c.adopt_safe.ensures c.hold_and_vote.ensures

pub progress-next-requires : goal.progress-next-requires
progress-next-requires c = (ready_less _ _ _ _ _ (omega (arith, progress_room _ c.args.rec.now (ready_facts _ _ _ c.requires.0).few c.requires.1.0)) c.requires.0, c.requires.1.0)

pub hold_and_vote-requires-2 : goal.hold_and_vote-requires-2
hold_and_vote-requires-2 c = let R = ready_regular c.args.d _ _ c.requires.0 (search rules) (λ j. (c.slice_known-1.given j).fits) in
    let f = progress_form _ c.args.rec.now (λ j. (c.shared_slice_known-1.given j).fits) c.requires.1.0 in
    (next_ready c.args.d _ _ c.args.view.0 c.args.block c.args.held c.args.rec.now R f c.progress-next.ensures c.requires.0, next_room c.args.d _ _ c.args.view.0 c.args.block c.args.held c.args.rec.now R f c.progress-next.ensures c.requires.1.1)

pub returns : goal.returns
returns c = let k = c.well_formed.1.1.0.1.1.0.1.1.1.1 in let high = k.0 in let lock = k.1.0 in let weak = k.1.1.0 in let tip = k.1.1.1.0 in let R = ready_regular c.args.d _ _ c.requires.0 (search rules) (λ j. (c.slice_known-1.given j).fits) in
    let f = progress_form _ c.args.rec.now (λ j. (c.shared_slice_known-1.given j).fits) c.requires.1.0 in
    next_gives c.args.d _ _ c.args.view.0 c.args.block c.args.held c.args.rec.now R f c.progress-next.ensures (eqb-false _ _ (sym c.eq.ensures ∙ c.if-eq.false)) c.hold_and_vote-2.ensures

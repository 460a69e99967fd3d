-- One piece more, and what is left where there is no other.
use mathlib.Core.Path.{sym, ◌∙◌}
use lib.ListN.{length}
use Rattle.replica.specs.Reply.{lent_to}
use Rattle.replay.specs.Replay.{Standing, standing}
use Rattle.replay.proofs.Whole.{steps_end}
use Rattle.replay.proofs.Moves.{Next, next_is, none_goes, next_fits, piece_taken, one_more, no_more}
use native.Mathlib.Omega.{arith}
use Rattle.replay.proofs.run_steps.Goals as goal

pub returns-in_default : goal.returns-in_default
returns-in_default c =
    let l = c.pieces in
    let a = c.args in
    let s : Standing = standing (lent_to l.counters l.mem l.store) l.out l.lines l.p in
    sym (steps_end a.ended a.input.now l.left s (none_goes a.ended a.input.now (length l.lines) l.p (rw c.in_default.is at c.next_request.ensures))) ∙ l.invariant

pub report-p-requires : goal.report-p-requires
report-p-requires c =
    let l = c.pieces in
    let n : Next c.args.ended c.args.input.now (length l.lines) l.p c.in-Some.request = next_is _ _ _ _ _ (rw c.in-Some.is at c.next_request.ensures) in
    let f = next_fits c.args.ended c.args.input.now (length l.lines) l.p c.in-Some.request n in
    (f.line, omega (arith, f.within))

pub pieces-preserved : goal.pieces-preserved
pieces-preserved c =
    let l = c.pieces in
    let a = c.args in
    let n : Next a.ended a.input.now (length l.lines) l.p c.in-Some.request = next_is _ _ _ _ _ (rw c.in-Some.is at c.next_request.ensures) in
    let s : Standing = standing (lent_to l.counters l.mem l.store) l.out l.lines l.p in
    one_more a.ended a.input.now s _ l.left c.pieces-test.true (piece_taken a.ended a.input.now l.lines l.p (lent_to l.counters l.mem l.store) l.out c.in-Some.request n c.answer-answer.ensures c.report-p.ensures) ∙ l.invariant

pub returns : goal.returns
returns c =
    let l = c.pieces in
    let a = c.args in
    no_more a.ended a.input.now (standing (lent_to l.counters l.mem l.store) l.out l.lines l.p) l.left (omega (arith, c.pieces-test.false)) ∙ l.invariant

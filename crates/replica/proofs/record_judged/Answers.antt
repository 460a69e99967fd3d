-- What was wanted, and what the store holds of it: `perform` judges by these.
use mathlib.Core.Path.{refl, sym, ap, ◌∙◌}
use Rattle.std.proofs.lemmas.Result.{err_from_is_err_and, IfOk-at_ok}
use Rattle.settings.specs.Refusal.{refused}
use Rattle.wire.specs.Content.{content}
use Rattle.refusals.specs.Number.{or_else}
use Rattle.refusals.specs.Early.{lent}
use Rattle.refusals.proofs.Numbers.{passed_on, refused_none}
use Rattle.judge.specs.Want.{wanted, record_want}
use Rattle.judge.specs.Late.{record_late}
use Rattle.judge.proofs.Wants.{wanted_ok}
use Rattle.perform.specs.declared.Judged.{Judged}
use Rattle.perform.specs.Perform.{judged_by, record_number}
use Rattle.perform.proofs.Deciding.{judges_early, record_shaped, record_judges}
use Rattle.replica.proofs.record_judged.Goals as goal

pub returns-in_err-want : goal.returns-in_err-want
unfolding record_number
returns-in_err-want c = let p = err_from_is_err_and c.from_residual.result c.from_residual.ensures.1 in
    judges_early _ _ (lent c.args.counters c.args.mem.now c.args.store.now) _ (record_late (lent c.args.counters c.args.mem.now c.args.store.now) (record_want (lent c.args.counters c.args.mem.now c.args.store.now) c.args.room c.args.rec.now) (content c.args.rec.now)) refl (c.record.ensures c.args.store.now refl) c.in_err-want.was p.1 p.2

pub late_record-requires : goal.late_record-requires
unfolding wanted
late_record-requires c = λ _. record_shaped c.args.room c.args.rec.now (lent c.args.counters c.args.mem.now c.args.store.now) _ _ _ (record { want = (sym (wanted_ok _) ∙ (rw c.in_ok-want.was at (c.record.ensures c.args.store.now refl))); found = c.wanted_blocks-found.ensures.found; under = c.wanted_blocks-found.ensures.under }) refl

pub returns-in_err-late_record : goal.returns-in_err-late_record
unfolding wanted or_else
returns-in_err-late_record c = let p = err_from_is_err_and c.from_residual-in_err-late_record.result c.from_residual-in_err-late_record.ensures.1 in
    record_judges c.args.room c.args.rec.now (lent c.args.counters c.args.mem.now c.args.store.now) _ _ _ (record { want = (sym (wanted_ok _) ∙ (rw c.in_ok-want.was at (c.record.ensures c.args.store.now refl))); found = c.wanted_blocks-found.ensures.found; under = c.wanted_blocks-found.ensures.under }) _ refl (passed_on c.in_err-late_record.was p.1 p.2 ∙ c.late_record.ensures.refusal) (rw p.1 tt)

pub returns : goal.returns
unfolding wanted or_else refused judged_by
returns c = record_judges c.args.room c.args.rec.now (lent c.args.counters c.args.mem.now c.args.store.now) _ _ _ (record { want = (sym (wanted_ok _) ∙ (rw c.in_ok-want.was at (c.record.ensures c.args.store.now refl))); found = c.wanted_blocks-found.ensures.found; under = c.wanted_blocks-found.ensures.under }) _ refl (sym (refused_none c.in_ok-late_record.was) ∙ c.late_record.ensures.refusal) (ap (λ (j : Judged). j.held) (IfOk-at_ok _ c.in_ok-late_record.was c.late_record.ensures.found))

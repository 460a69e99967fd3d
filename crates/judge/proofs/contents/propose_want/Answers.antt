use mathlib.Core.Path.{sym, ◌∙◌}
use native.Mathlib.Omega.{arith}
use Rattle.std.proofs.lemmas.Result.{err_from_is_err_and}
use Rattle.refusals.specs.Early.{early_propose}
use Rattle.refusals.proofs.Numbers.{refused_none, refused_some}
use Rattle.settings.specs.Refusal.{number}
use Rattle.judge.specs.Want.{wanted}
use Rattle.judge.proofs.Passing.{Ready, ready}
use Rattle.judge.proofs.Wants.{wanted_err, wanted_ok, with_region, with_length, with_early, with_asked}
use Rattle.judge.proofs.contents.propose_want.Goals as goal

pub returns-in_err-regions : goal.returns-in_err-regions
returns-in_err-regions c = let p = err_from_is_err_and c.from_residual.result c.from_residual.ensures.1 in
    λ s e. wanted_err c.in_err-regions.was p.1 p.2 ∙ with_region _ _ _ _ (c.regions.ensures s e) (refused_some c.in_err-regions.was)

pub returns-then-too_long : goal.returns-then-too_long
unfolding wanted number
returns-then-too_long c = λ s e. with_length _ _ _ _ (sym (c.regions.ensures s e) ∙ refused_none c.in_ok-regions.was) (sym c.too_long.ensures ∙ c.if-too_long.true)

pub propose_early-requires : goal.propose_early-requires
propose_early-requires c = let readied : Ready c.args.c c.args.mem.now = ready _ _ _ _ _ c.regions.ensures (refused_none c.in_ok-regions.was) in (omega (arith, readied.long), (readied.listed, readied.first))

pub returns-in_err-propose_early : goal.returns-in_err-propose_early
unfolding early_propose
returns-in_err-propose_early c = let p = err_from_is_err_and c.from_residual-in_err-propose_early.result c.from_residual-in_err-propose_early.ensures.1 in
    λ s e. wanted_err c.in_err-propose_early.was p.1 p.2 ∙ with_early _ _ _ _ (sym (c.regions.ensures s e) ∙ refused_none c.in_ok-regions.was) (sym c.too_long.ensures ∙ c.if-too_long.false) c.propose_early.ensures (refused_some c.in_err-propose_early.was)

pub entry_base-requires : goal.entry_base-requires
entry_base-requires c = let readied : Ready c.args.c c.args.mem.now = ready _ _ _ _ _ c.regions.ensures (refused_none c.in_ok-regions.was) in (readied.long, (readied.few, readied.entry))

pub names-requires : goal.names-requires
names-requires c = let readied : Ready c.args.c c.args.mem.now = ready _ _ _ _ _ c.regions.ensures (refused_none c.in_ok-regions.was) in omega (arith, readied.long)

pub returns : goal.returns
unfolding early_propose
returns c = λ s e. wanted_ok _ ∙ with_asked _ _ _ _ (sym (c.regions.ensures s e) ∙ refused_none c.in_ok-regions.was) (sym c.too_long.ensures ∙ c.if-too_long.false) (sym c.propose_early.ensures ∙ refused_none c.in_ok-propose_early.was) (rw c.entry_base.ensures at c.names.ensures)

-- One turn more, and what is left where there is no other.
use mathlib.Core.Path.{refl, sym, ◌∙◌}
use mathlib.Core.List.{[]}
use native.Mathlib.Omega.{arith}
use Rattle.act.specs.Draft.{work_of}
use Rattle.release.specs.Search.{standing, known_by}
use Rattle.release.proofs.Search.{target_known}
use Rattle.release.proofs.Regular.{regular_same}
use Rattle.release.proofs.Releasing.{may_release, within, ready_next, turn_more, turn_none, turns_over}
use Rattle.release.proofs.release_all.Goals as goal

pub lowest_target-requires : goal.lowest_target-requires
lowest_target-requires c =
    let R = c.turns.invariant.1.1 c.turns-test.true in
    (R.long, regular_same (work_of c.turns.draft c.turns.mem c.turns.out []) (standing (known_by c.turns.draft.counters.view c.turns.draft.counters.tip) c.turns.mem c.turns.store) refl refl R.regular)

pub returns-in_default : goal.returns-in_default
returns-in_default c =
    let l = c.turns in
    let none = target_known (work_of l.draft l.mem l.out l.store) ∙ sym c.lowest_target.ensures ∙ c.in_default.is in
    turn_none l.draft l.mem l.out l.store _ l.invariant.1.0 none ∙ l.invariant.0

pub release_target-draft-requires : goal.release_target-draft-requires
release_target-draft-requires c =
    let l = c.turns in
    let some = target_known (work_of l.draft l.mem l.out l.store) ∙ sym c.lowest_target.ensures ∙ c.in-Some.is in
    may_release l.draft c.in-Some.target l.mem l.out l.store (l.invariant.1.1 c.turns-test.true) some

pub turns-preserved : goal.turns-preserved
turns-preserved c =
    let l = c.turns in
    let R = l.invariant.1.1 c.turns-test.true in
    let some = target_known (work_of l.draft l.mem l.out l.store) ∙ sym c.lowest_target.ensures ∙ c.in-Some.is in
    let done = c.release_target-draft.ensures in (
      turn_more l.draft c.in-Some.target l.mem l.out l.store R some _ _ _ _ done l.counter c.args.k c.turns-test.true ∙ l.invariant.0,
      (
        within l.draft c.in-Some.target l.mem l.out l.store R some _ _ _ _ done,
        λ _. ready_next l.draft c.in-Some.target l.mem l.out l.store R some _ _ _ _ done,
      ),
    )

pub returns : goal.returns
returns c = let l = c.turns in turns_over l.draft l.mem l.out l.store _ l.invariant.1.0 (omega (arith, c.turns-test.false)) ∙ l.invariant.0

use borrow.Author.Tests.{leb-false}
use mathlib.Core.Path.{◌≡◌, refl, sym, ap, ◌∙◌}
use Rattle.memory.specs.Decided.{choice_of, choose}
use Rattle.memory.proofs.Forming.{choose_on}
use Rattle.memory.proofs.Passing.{choose_enough}
use native.Mathlib.Omega.{arith}
use Rattle.memory.proofs.decided.choose.Goals as goal

pub loop-i-init : goal.loop-i-init
unfolding choose
loop-i-init c = refl

pub returns-then-not-more_to_see : goal.returns-then-not-more_to_see
returns-then-not-more_to_see c = let a = c.args in
    let l = c.loop-i in
    let few = leb-false _ _ (sym c.more_to_see.ensures ∙ c.if-not-more_to_see.true) in
    l.invariant ∙ choose_enough _ a.row a.n a.quorum (choice_of a.after) (choice_of a.first) (omega (arith, c.requires.1.1)) l.i few (omega arith)

pub loop-i-preserved : goal.loop-i-preserved
loop-i-preserved c = choose_on _ _ _ _ _ c.loop-i.i c.loop-i.invariant c.consider-best.ensures

pub returns : goal.returns
returns c = let e : c.loop-i.i ≡ c.args.n = omega arith in c.loop-i.invariant ∙ ap (choose _ _ _ _ _) e

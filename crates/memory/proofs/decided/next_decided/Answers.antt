use mathlib.Core.Path.{sym, ◌∙◌}
use Rattle.memory.specs.Decided.{choice_of}
use Rattle.memory.proofs.Passing.{found_is_next, few_none}
use Rattle.memory.proofs.decided.next_decided.Goals as goal

pub too_few-requires : goal.too_few-requires
too_few-requires c = (c.requires.0, c.requires.1.0)

pub returns-then-too_few : goal.returns-then-too_few
returns-then-too_few c = sym (few_none _ _ c.requires.1.0 (sym c.too_few.ensures ∙ c.if-too_few.true) _)

pub returns : goal.returns
returns c = let p = c.requires in
    rw (c.choose.ensures, c.choose-voted.ensures, c.commit_row.ensures, c.vote_row.ensures) (found_is_next _ c.args.q (choice_of c.args.after) p.1.1.0 p.1.1.1)

use Rattle.std.proofs.Common.{arith, ◌≡◌, ◌&&◌, ◌||◌, true, false}
use Rattle.std.proofs.lemmas.Grind.{common_steps}
use Rattle.memory.specs.Decided.{choice_of, above}
use Rattle.memory.proofs.Sole.{found_sole, found_by_search}
use Rattle.memory.proofs.decided.find_decided.Goals as goal

pub returns-then-c : goal.returns-then-c
returns-then-c c = let v = c.standing_of-v in let w = c.standing_of-c in let p = c.requires in
    let alone : (v.result.alone && w.result.alone) ≡ true = grind (arith, common_steps) in
    let decided : c.if-c-2.decided ≡ ((v.result.backed || w.result.backed) && above (choice_of c.args.after) c.likely-name.result) = grind (arith, common_steps) in
    found_sole _ _ _ c.likely-name.ensures c.vote_row.ensures c.commit_row.ensures v.ensures w.ensures p.1.0 p.1.1.0 p.1.1.1 alone decided c.then_some.ensures

pub returns : goal.returns
returns c = let v = c.standing_of-v in let w = c.standing_of-c in
    let others : (v.result.alone && w.result.alone) ≡ false = grind (arith, common_steps) in
    found_by_search _ _ _ c.likely-name.ensures c.vote_row.ensures c.commit_row.ensures v.ensures w.ensures others c.next_decided.ensures

use Rattle.std.proofs.Common.{◌≡◌, ◌∙◌, refl}
use borrow.Author.Rules.{rules}
use borrow.Author.Tests.{lt-ltb, le-ltb}
use Rattle.memory.specs.Decided.{choice_of, likely}
use Rattle.memory.proofs.decided.likely.Goals.{then-kept_count-q, else-kept_count-q}
use Rattle.memory.proofs.decided.likely.Goals as goal

pub returns : goal.returns
unfolding likely
returns c =
    let found : c.unwrap_or.result ≡ (choice_of c.first_name.result).name = search rules in
    found ∙ c.first_name.ensures ∙ elim c.if-kept_count-q.branch [
      | then-kept_count-q w ↦ rw (w.row-is, w.commit_row-row.ensures, ← c.vote_row.ensures, ← c.kept_count.ensures, lt-ltb _ _ w.if-kept_count-q.true) refl
      | else-kept_count-q w ↦ rw (w.row-is, w.vote_row-row.ensures, ← c.vote_row.ensures, ← c.kept_count.ensures, le-ltb _ _ w.if-kept_count-q.false) refl
    ]

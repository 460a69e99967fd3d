use mathlib.Core.Path.{◌≡◌, ap}
use Rattle.certificate.specs.declared.Tally.{Tally}
use Rattle.memory.specs.Kept.{tally}
use Rattle.memory.specs.Decided.{standing}
use Rattle.memory.proofs.Counting.{tally_kept}
use native.Mathlib.Omega.{arith}
use Rattle.memory.proofs.decided.standing_of.Goals as goal

pub overflow_sub-others : goal.overflow_sub-others
overflow_sub-others c = let a = c.args in let e : c.count_backers-t.result.count ≡ (tally a.mem.now a.row a.name a.n).count = ap (λ (t : Tally). t.count) c.count_backers-t.ensures in omega (arith, c.kept_count.ensures, e, tally_kept a.mem.now a.row a.name a.n (omega arith))

pub returns : goal.returns
unfolding standing
returns c = rw (c.kept_count.ensures, c.count_backers-t.ensures)

use Rattle.std.proofs.lemmas.Grind.{common_steps}
use Rattle.std.proofs.lemmas.Bool.Decides.{nat_tests}
use lib.ListN.{length-drop}
use Rattle.codec.proofs.Laws.{part-drop, part_rest}
use Rattle.wire.specs.Content.{progress_means, Within}
use Rattle.certificate.specs.Good.{progress_good}
use Rattle.certificate.proofs.Timeouts.{count_timeouts}
use native.Mathlib.Omega.{arith}
use Rattle.certificate.proofs.good.timeouts_good.Goals as goal

pub overflow_add-t : goal.overflow_add-t
unfolding Within
overflow_add-t c = omega (arith, c.requires)

pub u64_at-requires : goal.u64_at-requires
unfolding Within
u64_at-requires c = omega (arith, c.requires)

pub returns-then-timeout_quorum-t : goal.returns-then-timeout_quorum-t
unfolding progress_good progress_means
returns-then-timeout_quorum-t c = rw (part-drop, ← c.u64_at.ensures, count_timeouts, c.all_good.ensures, part_rest) (grind (arith, common_steps, nat_tests))

pub returns-else-timeout_quorum-t : goal.returns-else-timeout_quorum-t
unfolding progress_good progress_means
returns-else-timeout_quorum-t c = rw (part-drop, ← c.u64_at.ensures, count_timeouts) (grind (arith, common_steps, nat_tests))

pub slice_bounds-all_good-count : goal.slice_bounds-all_good-count
unfolding Within
slice_bounds-all_good-count c = omega (arith, c.requires)

pub slice_bounds-all_good-start : goal.slice_bounds-all_good-start
unfolding Within
slice_bounds-all_good-start c = omega (arith, c.requires)

pub all_good-requires : goal.all_good-requires
unfolding Within
all_good-requires c = rw (part_rest, length-drop) (omega (arith, c.requires))

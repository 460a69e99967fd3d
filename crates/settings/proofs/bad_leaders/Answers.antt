use Rattle.std.proofs.lemmas.Grind.{common_steps}
use Rattle.std.proofs.lemmas.Bool.Decides.{nat_tests}
use Rattle.settings.specs.Opening.{bad_leaders}
use native.Mathlib.Omega.{arith}
use Rattle.settings.proofs.bad_leaders.Goals as goal

pub returns-then-leaders-gt-MOST_LEADERS : goal.returns-then-leaders-gt-MOST_LEADERS
unfolding bad_leaders
returns-then-leaders-gt-MOST_LEADERS c = grind (arith, common_steps, nat_tests)

pub returns-else-leaders-gt-MOST_LEADERS : goal.returns-else-leaders-gt-MOST_LEADERS
unfolding bad_leaders
returns-else-leaders-gt-MOST_LEADERS c = grind (arith, common_steps, nat_tests)

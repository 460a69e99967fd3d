use Rattle.rules.proofs.Running.{law_b}
use Rattle.rules.proofs.phases.run_b.Given as goal

abbrev pub ghost-at_each : goal.ghost-at_each
ghost-at_each a = law_b

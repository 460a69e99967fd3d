use Rattle.rules.proofs.Running.{law_a}
use Rattle.rules.proofs.phases.run_a.Given as goal

abbrev pub ghost-at_each : goal.ghost-at_each
ghost-at_each a = law_a

use Rattle.act.proofs.Steps.{does_same}
use Rattle.rules.specs.Phases.{phase_c}
use Rattle.rules.proofs.phases.run_c.Goals as goal

pub returns : goal.returns
unfolding phase_c
returns c = does_same _ phase_c (λ s. rw c.lowest.ensures) c.at_each.ensures

use mathlib.Core.Path.{refl}
use Rattle.act.proofs.Steps.{does_same}
use Rattle.rules.specs.Phases.{phase_a}
use Rattle.rules.proofs.phases.run_a.Goals as goal

pub returns : goal.returns
unfolding phase_a
returns c = does_same _ phase_a (λ s. refl) c.at_each.ensures

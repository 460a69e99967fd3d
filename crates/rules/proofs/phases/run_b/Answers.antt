use mathlib.Core.Path.{refl}
use Rattle.act.proofs.Steps.{does_same}
use Rattle.rules.specs.Phases.{phase_b}
use Rattle.rules.proofs.phases.run_b.Goals as goal

pub returns : goal.returns
unfolding phase_b
returns c = does_same _ phase_b (λ s. refl) c.at_each.ensures

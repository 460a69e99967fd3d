use Rattle.rules.proofs.Views.{voted_is, some_quorum}
use mathlib.Core.Path.{ap, ◌∙◌}
use Rattle.settings.specs.declared.Settings.{Settings}
use Rattle.settings.specs.Quorum.{replicas}
use native.Mathlib.Omega.{arith}
use Rattle.rules.proofs.smallest_voted.Goals as goal

pub settings-s-requires : goal.settings-s-requires
settings-s-requires c = omega (arith, c.requires.0)

pub n-n-requires : goal.n-n-requires
n-n-requires c = tt

pub block_quorum-requires : goal.block_quorum-requires
block_quorum-requires c = tt

pub overflow_add-wanted : goal.overflow_add-wanted
overflow_add-wanted c = omega (arith, c.requires.1, c.n-n.ensures ∙ ap (λ (z : Settings). replicas z) c.settings-s.ensures)

pub next_decided-requires : goal.next_decided-requires
next_decided-requires c = (c.requires.0, (omega (arith, c.requires.1, c.n-n.ensures ∙ ap (λ (z : Settings). replicas z) c.settings-s.ensures), (some_quorum _ c.block_quorum.ensures, omega arith)))

pub returns : goal.returns
returns c = voted_is _ _ c.settings-s.ensures c.n-n.ensures c.block_quorum.ensures c.next_decided.ensures

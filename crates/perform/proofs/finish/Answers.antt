use Rattle.act.proofs.Steps.{ready_less}
use Rattle.perform.proofs.Completing.{run_ready}
use Rattle.perform.proofs.Typing.{event_typed}
use mathlib.Core.Path.{refl}
use native.Mathlib.Omega.{arith}
use Rattle.perform.proofs.finish.Goals as goal

pub run-draft-requires : goal.run-draft-requires
run-draft-requires c = ready_less _ _ _ _ _ (omega arith) c.requires

pub returns : goal.returns
returns c = (refl, (c.run-draft.ensures, (c.block_count.ensures, run_ready c.requires (event_typed c.args.event _ c.well_formed.1.1.0) (λ j. (c.slice_known-1.given j).fits) c.run-draft.ensures)))

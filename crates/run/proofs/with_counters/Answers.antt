use mathlib.Core.Path.{refl}
use Rattle.run.proofs.Turning.{program_went}
use native.Mathlib.Omega.{arith}
use Rattle.run.proofs.with_counters.Goals as goal

pub returns : goal.returns
returns g c =
    program_went c.args.mem.now c.args.store.now c.args.out.now c.args.lines.now _ c.first_record-opening.ensures (omega arith) c.put_in_turn.ensures c.opened-c.ensures c.open_call-refusal.ensures c.begin-p.ensures
    refl c.run_turns.ensures

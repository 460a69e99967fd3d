use Prim.Native.Nat.{◌+◌, ◌*◌, ◌≤◌}
use Rattle.memory.proofs.Rows.{gathered_le}
use mathlib.Core.Path.{refl, ap, ◌∙◌}
use lib.ListN.{length}
use Rattle.codec.proofs.Laws.{length-patch}
use Rattle.memory.specs.Kept.{gathered}
use Rattle.memory.specs.Formed.{formed}
use Rattle.memory.proofs.Forming.{form_made}
use native.Mathlib.Omega.{arith}
use Rattle.memory.proofs.formed.form.Goals as goal

pub put_timeouts_head-requires : goal.put_timeouts_head-requires
put_timeouts_head-requires c = let a = c.args in let p = c.requires in
    let r = c.timeout_row.result in
    let b : r + (8 + 112 * 32) ≤ length a.mem.now = omega (arith, c.timeout_row.ensures) in
    let g = gathered_le a.mem.now r 112 0 a.n 32 (omega arith) b in
    (omega (arith, ap length c.gather-end.ensures.1 ∙ length-patch _ _ _), omega (arith, c.gather-end.ensures.0))

pub returns : goal.returns
unfolding formed
returns c = let a = c.args in
    rw (← c.timeout_row.ensures) (form_made a.sender a.view.0 a.at a.out.now (gathered a.mem.now c.timeout_row.result 112 0 a.n) c.gather-end.ensures.0 c.gather-end.ensures.1 refl c.put_timeouts_head.ensures)

use mathlib.Core.Path.{◌≡◌}
use Prim.Native.Nat.{◌+◌, ◌*◌, ◌-◌, ◌/◌}
use native.Mathlib.Omega.{arith}
use lib.ListN.{length, take, drop, length-drop}
use lib.Seq.{length-take-le}
use Rattle.wire.proofs.Turns.{cut_front}
use Rattle.wire.proofs.read.timeouts.Goals as goal

pub returns-clause-slots : goal.returns-clause-slots
returns-clause-slots c = let a = c.args in
    let n = 24 + 112 * a.count - 24 in
    let s = drop 24 a.rec.now in
    let l = length-take-le n s (simp length-drop (omega arith)) in
    let e : length (take n s) / 112 ≡ a.count = omega arith in
    rw (c.chunks_exact.ensures.rest, e) (cut_front a.count n s (omega arith))

use Prim.Native.Nat.{◌+◌, ◌-◌, ◌%◌, ◌<◌}
use native.Mathlib.Nat.{mod-lt}
use Rattle.memory.specs.Layout.{leaders_place}
use Rattle.memory.proofs.Leading.{leader_at}
use native.Mathlib.Omega.{arith}
use Rattle.memory.proofs.leaders.leader.Goals as goal

pub returns : goal.returns
returns c = let a = c.args in
    let pre = c.requires in
    rw c.leader_count.ensures (leader_at a.mem.now pre.0 pre.1.0.1 a.view.0 pre.1.0.0)

pub overflow_add-result : goal.overflow_add-result
overflow_add-result c = let a = c.args in let k = c.leader_count in let pre = c.requires in let less : (a.view.0 - 1) % k.result < k.result = mod-lt (a.view.0 - 1) (omega (arith, k.ensures, pre.1.0.0)) in omega (arith, less, k.ensures, pre.1.0.1)

pub bounds-mem-i : goal.bounds-mem-i
bounds-mem-i c = let a = c.args in let k = c.leader_count in let pre = c.requires in let less : (a.view.0 - 1) % k.result < k.result = mod-lt (a.view.0 - 1) (omega (arith, k.ensures, pre.1.0.0)) in omega (arith, less, k.ensures, pre.0, pre.1.0.1)

pub overflow_cast-result : goal.overflow_cast-result
overflow_cast-result c = let a = c.args in omega (arith, c.shared_slice_known-2-1.given (leaders_place + (a.view.0 - 1) % c.leader_count.result))

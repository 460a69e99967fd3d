use mathlib.Core.Path.{refl, sym, ap, ◌∙◌}
use Prim.Native.Nat.{◌+◌}
use native.Mathlib.Nat.{add-zero}
use lib.ListN.{length-set, drop_of_length-le}
use Rattle.codec.specs.Bytes.{patch}
use Rattle.codec.proofs.Laws.{patch_nil, patch_turn}
use native.Mathlib.Omega.{arith}
use Rattle.codec.proofs.put.Goals as goal

pub loop-i-init : goal.loop-i-init
loop-i-init c = (refl, rw add-zero)

pub loop-i-preserved : goal.loop-i-preserved
loop-i-preserved c = let l = c.loop-i in
    let a = c.args in
    (simp length-set l.invariant.0, patch_turn l.mem a.at l.i a.v.now (omega arith) ∙ l.invariant.1)

pub returns : goal.returns
returns c = let l = c.loop-i in
    let a = c.args in
    sym (patch_nil l.mem (a.at + l.i)) ∙ ap (patch l.mem (a.at + l.i)) (sym (drop_of_length-le a.v.now (omega arith))) ∙ l.invariant.1

use mathlib.Core.Path.{refl, sym, ap, ◌∙◌}
use Prim.Native.Nat.{◌+◌, ◌-◌, ◌≤◌}
use lib.ListN.{length, get_or, length-set, drop_of_length-le}
use Rattle.codec.specs.Bytes.{part, patch}
use Rattle.codec.proofs.Laws.{patch_nil, length-part}
use Rattle.run.proofs.Laws.{move_turn, move_rest}
use native.Mathlib.Omega.{arith}
use Rattle.run.proofs.reading.move_to_front.Goals as goal

pub loop-i-init : goal.loop-i-init
loop-i-init c = (refl, (refl, refl))

pub loop-i-preserved : goal.loop-i-preserved
loop-i-preserved c = let l = c.loop-i in
    let a = c.args in
    (simp length-set l.invariant.0, (move_turn a.buf.now l.buf a.at a.n l.i (omega arith) c.requires l.invariant.1.1 ∙ l.invariant.1.0, move_rest a.buf.now l.buf a.at l.i (get_or l.buf (a.at + l.i) 0) l.invariant.1.1))

pub returns : goal.returns
returns c = let l = c.loop-i in
    let a = c.args in
    let none : length (part a.buf.now a.at a.n) ≤ l.i = omega (arith, length-part a.buf.now a.at a.n c.requires, c.loop-i-test.false) in
    sym (patch_nil l.buf (0 + l.i)) ∙ (ap (patch l.buf (0 + l.i)) (sym (drop_of_length-le (part a.buf.now a.at a.n) none)) ∙ l.invariant.1.0)

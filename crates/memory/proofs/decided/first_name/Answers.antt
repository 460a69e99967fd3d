use mathlib.Core.Path.{◌≡◌, sym, ap, ◌∙◌}
use Prim.Native.Nat.{◌-◌}
use Rattle.memory.specs.Kept.{kept}
use Rattle.memory.specs.Decided.{first_of}
use Rattle.memory.proofs.Sole.{first_there, first_on, first_none}
use native.Mathlib.Omega.{arith}
use Rattle.memory.proofs.decided.first_name.Goals as goal

pub loop-i-init : goal.loop-i-init
loop-i-init c = let a = c.args in let e : a.n ≡ a.n - 0 = omega arith in ap (first_of _ _ 0) e

pub returns-then-has : goal.returns-then-has
unfolding kept
returns-then-has c = let l = c.loop-i in c.name_at.ensures ∙ rw c.entry_at.ensures (first_there _ _ l.i _ (omega arith) (sym c.has.ensures ∙ c.if-has.true)) ∙ sym l.invariant

pub loop-i-preserved : goal.loop-i-preserved
loop-i-preserved c = let l = c.loop-i in l.invariant ∙ first_on _ _ l.i _ (omega arith) (sym c.has.ensures ∙ c.if-has.false)

pub returns : goal.returns
returns c = let l = c.loop-i in sym (l.invariant ∙ first_none _ _ l.i _ (omega arith))

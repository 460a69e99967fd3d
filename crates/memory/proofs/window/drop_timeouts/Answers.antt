use mathlib.Core.Path.{◌≡◌, sym, ap, ◌∙◌}
use Prim.Native.Nat.{ℕ, ◌+◌, ◌-◌}
use mathlib.Core.List.{List}
use native.Mathlib.Nat.{add-zero, sub-zero}
use Rattle.memory.specs.Layout.{timeout_row}
use Rattle.memory.specs.Kept.{cleared}
use Rattle.memory.specs.Window.{without_timeouts}
use Rattle.memory.proofs.Drops.{timeouts_on, timeouts_end}
use native.Mathlib.Omega.{arith}
use Rattle.memory.proofs.window.drop_timeouts.Goals as goal

pub loop-i-init : goal.loop-i-init
loop-i-init c = rw (add-zero, sub-zero)

pub clear_row-requires : goal.clear_row-requires
clear_row-requires c = omega (arith, c.timeout_row.ensures)

pub loop-i-preserved : goal.loop-i-preserved
loop-i-preserved c = let l = c.loop-i in let a = c.args in
    let e : c.clear_row.new.mem ≡ cleared l.mem (timeout_row (a.from.0 + l.i)) 112 = c.clear_row.ensures ∙ ap (λ (r : ℕ). cleared l.mem r 112) c.timeout_row.ensures in
    ap (λ (s : List ℕ). without_timeouts s (a.from.0 + (l.i + 1)) (a.k - (l.i + 1))) e ∙ sym (timeouts_on _ _ _ l.i c.loop-i-test.true) ∙ l.invariant

pub returns : goal.returns
returns c = sym (timeouts_end _ _ _ c.loop-i.i c.loop-i-test.false) ∙ c.loop-i.invariant

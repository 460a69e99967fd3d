use mathlib.Core.Path.{refl, sym, ap, ◌∙◌}
use Prim.Native.Nat.{ℕ, ◌+◌}
use native.Mathlib.Numerals.{add-one}
use native.Mathlib.Omega.{arith}
use lib.ListN.{set}
use Rattle.digest.specs.Sha256.{◌!◌, round}
use Rattle.digest.specs.Turns.{run, turn, turns}
use Rattle.digest.proofs.block.eight.Goals as goal

pub loop-i-init : goal.loop-i-init
unfolding turns
loop-i-init g c = λ f m. refl

pub loop-i-preserved : goal.loop-i-preserved
unfolding turns turn
loop-i-preserved g c = λ f m. let l = c.loop-i in
    let a = c.args in
    let k = a.k.now in
    let t = a.t + l.i in
    ap (run (set l.w t c.word-x.result)) c.round-v.ensures
    ∙ ap (λ (x : ℕ). run (set l.w t x) (round l.v (k ! t) x)) (m _ t c.word-x.result (omega arith) (omega arith) c.word-x.ensures)
    ∙ ap (turn f k t) (l.invariant f m) ∙ ap (λ (j : ℕ). turns f k a.t j (run a.w.now a.v)) (sym (add-one l.i))

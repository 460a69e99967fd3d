use Prim.Native.Nat.{ℕ, suc, ◌+◌}
use mathlib.Core.Path.{◌≡◌, ap}
use Rattle.judge.specs.Late.{child_of}
use native.Mathlib.Omega.{arith}
use Rattle.judge.proofs.contents.next_child.Goals as goal

pub returns : goal.returns
returns c = let a = c.args in
    let e : a.lower.height.0 + 1 ≡ suc a.lower.height.0 = omega arith in
    ap (λ (h : ℕ). child_of a.name a.want.base h) e

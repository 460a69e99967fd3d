use mathlib.Core.Path.{refl, sym, ap, ◌∙◌}
use Prim.Native.Nat.{ℕ, ◌-◌, ◌≤◌}
use mathlib.Core.List.{List}
use lib.ListN.{length, take, length-take, drop_of_length-le}
use Rattle.run.proofs.Laws.{kept_hand}
use native.Mathlib.Omega.{arith}
use Rattle.run.proofs.reading.keep.Goals as goal

pub returns-then-t-p : goal.returns-then-t-p
returns-then-t-p c = let a = c.args in
    let short : length (take a.t.have a.buf.now) ≤ a.p.at = omega (arith, length-take a.t.have a.buf.now, c.if-t-p.true) in
    record { hand = sym (drop_of_length-le (take a.t.have a.buf.now) short); have = omega (arith, c.if-t-p.true); ended = refl; next = refl }

pub move_to_front-requires : goal.move_to_front-requires
move_to_front-requires c = omega (arith, c.requires, c.if-t-p.false)

pub returns : goal.returns
returns c = let a = c.args in
    record { hand = ap (λ (s : List ℕ). take (a.t.have - a.p.at) s) c.move_to_front.ensures ∙ kept_hand a.buf.now a.p.at a.t.have c.if-t-p.false c.requires; have = refl; ended = refl; next = refl }

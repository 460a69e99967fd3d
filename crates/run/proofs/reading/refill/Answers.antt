use mathlib.Core.Path.{◌≡◌, refl, sym, ap, ◌∙◌}
use mathlib.Core.Bool.{true}
use Prim.Native.Nat.{ℕ}
use lib.ListN.{take}
use Rattle.replay.specs.Replay.{known}
use Rattle.run.proofs.Laws.{no_read, one_read, take_lesser}
use Rattle.run.proofs.reading.refill.Goals as goal
use Rattle.run.proofs.reading.refill.Goals.{then-t-via-then-t, then-t-via-else-t+then-is_known}

pub returns-then-t : goal.returns-then-t
returns-then-t g c = let a = c.args in
    let same = take_lesser a.buf.now a.t.have in
    no_read a.t a.buf.now c.min-have.result c.min-have.ensures a.t.ended refl (elim c.then-t.branch [
      | then-t-via-then-t w ↦ rw w.if-t.true
      | then-t-via-else-t+then-is_known w ↦
          let k : known (take a.t.have a.buf.now) ≡ true = ap known (sym same ∙ ap (λ (n : ℕ). take n a.buf.now) (sym c.min-have.ensures)) ∙ (sym w.is_known.ensures ∙ w.if-is_known.true) in
          rw (w.if-t.false, k)
    ])

pub returns : goal.returns
returns g c = let a = c.args in
    one_read a.t a.buf.now c.min-have.result c.min-have.ensures c.read-got.new.free _ c.read-got.result c.if-t.false (sym c.is_known.ensures ∙ c.if-is_known.false) c.read-got.ensures

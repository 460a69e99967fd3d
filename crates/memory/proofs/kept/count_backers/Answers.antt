use mathlib.Core.Path.{◌≡◌, refl, ap, ◌∙◌}
use Prim.Native.Nat.{◌≤◌, ◌<◌, ◌^◌}
use Rattle.memory.specs.Kept.{tally}
use Rattle.memory.proofs.Rows.{tally-count, tally-signers, tally_on}
use native.Mathlib.Omega.{arith}
use Rattle.memory.proofs.kept.count_backers.Goals as goal

pub loop-i-init : goal.loop-i-init
unfolding tally
loop-i-init c = refl

pub tallied-c-requires : goal.tallied-c-requires
tallied-c-requires c = let l = c.loop-i in
    let a : l.c.count ≤ l.i = rw l.invariant (tally-count _ _ _ l.i) in
    let b : l.c.signers < 2 ^ l.i = rw l.invariant (tally-signers _ _ _ l.i) in
    (c.requires.0, (omega arith, (c.requires.1.1, (a, b))))

pub loop-i-preserved : goal.loop-i-preserved
loop-i-preserved c = tally_on _ _ _ _ c.loop-i.invariant c.tallied-c.ensures

pub returns : goal.returns
returns c = let e : c.loop-i.i ≡ c.args.n = omega arith in c.loop-i.invariant ∙ ap (tally _ _ _) e

use Rattle.std.proofs.Common.{arith}
use Rattle.std.proofs.lemmas.Grind.{common_steps}
use mathlib.Core.Path.{◌≡◌}
use mathlib.Core.Bool.{true, false}
use Rattle.memory.specs.Kept.{kept}
use Rattle.memory.specs.Decided.{consider}
use Rattle.memory.proofs.decided.consider.Goals as goal

pub returns-then-not-has : goal.returns-then-not-has
unfolding consider
returns-then-not-has c = let e : c.has.result ≡ false = c.if-not-has.true in rw (← c.has.ensures, e)

pub returns-then-backed : goal.returns-then-backed
unfolding consider kept
returns-then-backed c = let e : c.has.result ≡ true = c.if-not-has.false in
    rw (← c.has.ensures, e, ← c.entry_at.ensures, ← c.name_at-name.ensures, ← c.improves.ensures, c.if-improves.true, ← c.backed.ensures, c.if-backed.true)

pub returns : goal.returns
unfolding consider kept
returns c = grind (arith, common_steps)

use Rattle.rules.proofs.Orders.{below, not_below}
use Prim.Native.Nat.{◌≤◌}
use mathlib.Core.Path.{refl}
use borrow.Author.Tests.{lt-ltb, le-ltb}
use Rattle.rules.proofs.phases.echoable.Goals as goal

pub returns-then-lt : goal.returns-then-lt
returns-then-lt c = rw (lt-ltb c.args.timed.0 c.args.view.0 (below _ _ c.lt.ensures c.if-lt.true), c.kept_count-kept.ensures, c.n.ensures, c.timeout_row.ensures) refl

pub returns : goal.returns
returns c = let h : c.args.view.0 ≤ c.args.timed.0 = not_below _ _ c.lt.ensures c.if-lt.false in rw (c.timeout_quorum.ensures, le-ltb c.args.timed.0 c.args.view.0 h, c.kept_count-kept.ensures, c.n.ensures, c.timeout_row.ensures) refl

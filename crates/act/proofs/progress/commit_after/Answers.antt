use Prim.Native.Nat.{◌≤◌, ◌<◌}
use borrow.Author.Rules.{rules}
use Rattle.act.proofs.Advancing.{commits, commits_not}
use native.Mathlib.Omega.{arith}
use Rattle.act.proofs.progress.commit_after.Goals as goal

pub returns-then-lt : goal.returns-then-lt
returns-then-lt c = let a = c.args in let h : a.d.counters.timed.0 < a.b.view.0 = search rules in commits a.d _ _ a.b h c.name_at-name.ensures c.send_commit.ensures

pub returns : goal.returns
returns c = let a = c.args in let h : a.b.view.0 ≤ a.d.counters.timed.0 = search rules in commits_not a.d _ _ a.b h (omega (arith, c.requires.0.room))

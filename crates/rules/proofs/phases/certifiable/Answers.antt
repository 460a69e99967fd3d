use Rattle.rules.proofs.Orders.{below, not_below}
use borrow.Author.Tests.{lt-ltb, le-ltb}
use Rattle.memory.specs.Decided.{standing}
use mathlib.Core.Path.{refl, sym, ◌∙◌}
use Rattle.rules.proofs.phases.certifiable.Goals as goal

pub returns-then-lt : goal.returns-then-lt
returns-then-lt c = rw (lt-ltb c.args.view.0 c.args.lock.view.0 (below _ _ c.lt.ensures c.if-lt.true)) refl

pub returns-then-eq : goal.returns-then-eq
unfolding standing
returns-then-eq c = rw (c.standing_of-w.ensures, c.block_quorum.ensures, c.n.ensures, c.vote_row.ensures, le-ltb c.args.view.0 c.args.lock.view.0 (not_below _ _ c.lt.ensures c.if-lt.false), sym c.eq.ensures ∙ c.if-eq.true) refl

pub returns : goal.returns
returns c = rw (c.kept_count.ensures, c.n-2.ensures, c.vote_row-2.ensures, c.block_quorum-2.ensures, le-ltb c.args.view.0 c.args.lock.view.0 (not_below _ _ c.lt.ensures c.if-lt.false), sym c.eq.ensures ∙ c.if-eq.false) refl

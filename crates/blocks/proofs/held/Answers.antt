-- The tip first, and then what is found.
use mathlib.Core.Path.{sym, ◌∙◌}
use Rattle.blocks.specs.Store.{held}
use Rattle.blocks.proofs.held.Goals as goal

pub returns-then-is_named : goal.returns-then-is_named
unfolding held
returns-then-is_named c = rw (sym c.is_named.ensures ∙ c.if-is_named.true)

pub returns : goal.returns
unfolding held
returns c = rw (sym c.is_named.ensures ∙ c.if-is_named.false) c.search.ensures

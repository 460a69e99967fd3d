-- Where the first bytes differ, the names do.
use mathlib.Core.Path.{sym, ap, ◌∙◌}
use lib.ListN.{get_or}
use borrow.Author.Tests.{ne_eqb}
use Rattle.codec.proofs.Library.{pointwise_same}
use Rattle.codec.proofs.Order.{ne_same}
use Rattle.blocks.proofs.Block.is_named.Goals as goal

pub returns-then-self-name : goal.returns-then-self-name
returns-then-self-name c = c.eq.ensures ∙ pointwise_same _ _

pub returns-else-self-name : goal.returns-else-self-name
returns-else-self-name c = rw (ne_eqb _ _ c.if-self-name.false) (sym (ne_same _ _ (λ e. c.if-self-name.false (ap (λ l. get_or l 0 0) e))))

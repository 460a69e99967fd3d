use Rattle.settings.specs.Refusal.{refused, number}
use mathlib.Core.Path.{sym, ◌∙◌}
use Rattle.codec.proofs.Laws.{part_lent}
use Rattle.memory.specs.Kept.{kept}
use Rattle.refusals.specs.Early.{kept_rules}
use Rattle.refusals.proofs.Numbers.{skip, hit, none, and_both, and_not, and_nor}
use Rattle.refusals.proofs.early.timeout_kept.Goals as goal

pub returns-then-not-has : goal.returns-then-not-has
unfolding kept_rules refused number
returns-then-not-has c = let e = sym c.has.ensures ∙ c.if-not-has.true in skip _ _ (and_not _ _ e) (skip _ _ e none)

pub returns-then-same_bytes : goal.returns-then-same_bytes
unfolding kept_rules kept refused number
returns-then-same_bytes c = let e = sym c.has.ensures ∙ c.if-not-has.false in hit _ _ (and_both _ _ e (rw (part_lent, c.entry_at-at.ensures) at (sym c.same_bytes.ensures ∙ c.if-same_bytes.true)))

pub returns : goal.returns
unfolding kept_rules kept refused number
returns c = let e = sym c.has.ensures ∙ c.if-not-has.false in skip _ _ (and_nor _ _ e (rw (part_lent, c.entry_at-at.ensures) at (sym c.same_bytes.ensures ∙ c.if-same_bytes.false))) (hit _ _ e)

-- What stands at the place.
use mathlib.Core.Path.{sym, ap, ◌∙◌}
use Rattle.std.proofs.lemmas.List.{get_or_default}
use Rattle.blocks.specs.Store.{genesis, found}
use Rattle.blocks.proofs.Finding.{place_some, place_none}
use Rattle.blocks.proofs.search.Goals as goal

pub returns-in_err-at : goal.returns-in_err-at
returns-in_err-at c = rw (c.from_residual.ensures, ← c.entries-held.ensures) (sym (place_none _ _ (rw c.in_err-at.was at c.place.ensures)))

pub returns : goal.returns
returns c =
    let e = place_some _ _ c.in_ok-at.at (rw c.in_ok-at.was at c.place.ensures) in
    ap found (get_or_default _ c.in_ok-at.at _ genesis e.0) ∙ rw (← c.entries-held.ensures) (sym e.1.1)

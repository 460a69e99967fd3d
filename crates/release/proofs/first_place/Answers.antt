use Rattle.release.specs.Search.{first_place}
use Rattle.release.proofs.first_place.Goals as goal

pub returns : goal.returns
unfolding first_place
returns c = rw (c.views_after.ensures, c.tries.ensures, ← c.highest.ensures, ← c.lowest-low.ensures)

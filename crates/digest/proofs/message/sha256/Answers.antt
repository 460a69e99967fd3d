use mathlib.Core.Path.{ap, ◌∙◌}
use mathlib.Core.List.{◌++◌}
use lib.ListN.{length}
use Rattle.digest.specs.declared.Words.{Words}
use Rattle.digest.specs.Sha256.{absorb, padding, digest, sha256}
use Rattle.digest.proofs.message.sha256.Goals as goal

pub returns : goal.returns
unfolding sha256
returns c = let m = c.args.message.now in
    c.digest.ensures ∙ ap digest (c.finish.ensures ∙ ap (λ (H : Words). absorb H (m ++ padding (length m))) c.start.ensures)

use Rattle.codec.specs.Bytes.{be_nat}
use Rattle.digest.proofs.Schedule.{read_four, part_four}
use mathlib.Core.Path.{ap, ◌∙◌}
use Rattle.digest.proofs.word.word_at.Goals as goal

pub returns : goal.returns
returns c = c.from_be_bytes.ensures ∙ read_four _ _ _ _ ∙ ap be_nat (part_four c.args.m.now c.args.at c.requires)

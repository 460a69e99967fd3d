use mathlib.Core.Path.{ap, ◌∙◌}
use Rattle.codec.specs.Bytes.{patch}
use Rattle.digest.specs.Sha256.{compress}
use Rattle.digest.proofs.Padding.{written_8, bits_bytes}
use Rattle.digest.proofs.message.close.Goals as goal

pub returns : goal.returns
returns c = let a = c.args in c.compress.ensures ∙ ap (compress a.h) (c.put.ensures ∙ ap (patch a.block 56) (c.to_be_bytes.ensures ∙ written_8 _ ∙ bits_bytes a.n))

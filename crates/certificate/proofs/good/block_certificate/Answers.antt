use Rattle.codec.proofs.Laws.{part-drop}
use Rattle.wire.specs.Content.{Within}
use native.Mathlib.Omega.{arith}
use Rattle.certificate.proofs.good.block_certificate.Goals as goal

pub overflow_add-b : goal.overflow_add-b
unfolding Within
overflow_add-b c = omega (arith, c.requires)

pub name_at-requires : goal.name_at-requires
unfolding Within
name_at-requires c = omega (arith, c.requires)

pub returns : goal.returns
returns c = rw (c.name_at.ensures, part-drop)

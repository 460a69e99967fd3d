use mathlib.Core.Path.{ap, ◌∙◌}
use mathlib.Core.List.{List}
use Prim.Native.Nat.{ℕ}
use lib.ListN.{length}
use Rattle.codec.specs.Bytes.{patch}
use Rattle.digest.proofs.Padding.{patch_zeros}
use Rattle.digest.proofs.message.meet.Goals as goal

pub returns : goal.returns
returns c = let f = c.args.front.now in let r = c.args.rest.now in
    c.put-2.ensures ∙ ap (λ (l : List ℕ). patch l (length f) r) c.put.ensures ∙ patch_zeros 64 f r c.requires

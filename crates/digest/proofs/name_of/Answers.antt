use mathlib.Core.Path.{ap, ◌∙◌}
use mathlib.Core.List.{List, ◌++◌, append_assoc}
use Prim.Native.Nat.{ℕ}
use Rattle.codec.specs.Bytes.{le_bytes}
use Rattle.digest.specs.Sha256.{sha256}
use Rattle.digest.specs.Name.{preimage, name_of}
use Rattle.digest.proofs.name_of.Goals as goal

pub returns : goal.returns
unfolding name_of preimage
returns c = let a = c.args in let s = a.contents.now in
    c.joined.ensures ∙ ap (λ (l : List ℕ). sha256 (l ++ s)) c.front-head.ensures ∙ ap sha256 (append_assoc a.parent (le_bytes 8 a.height) s)

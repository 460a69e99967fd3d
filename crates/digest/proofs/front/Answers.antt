use Rattle.codec.specs.Bytes.{patch, le_bytes}
use Rattle.codec.proofs.Le.{length-le_bytes}
use lib.ListN.{replicate}
use mathlib.Core.List.{List}
use Prim.Native.Nat.{ℕ, ◌+◌}
use mathlib.Core.Path.{ap, ◌∙◌}
use Rattle.digest.proofs.Padding.{patch_two}
use borrow.Author.Rules.{rules}
use Rattle.digest.proofs.front.Goals as goal

pub returns : goal.returns
returns c = let a = c.args in
    c.put_u64.ensures ∙ ap (λ (l : List ℕ). patch l 32 (le_bytes 8 a.height)) c.put.ensures
    ∙ patch_two (replicate 40 0) a.parent (le_bytes 8 a.height) 32 (search rules) (ap (λ (k : ℕ). 32 + k) (length-le_bytes 8 a.height))

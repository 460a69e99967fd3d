use mathlib.Core.Path.{sym, ap, ap₂, ◌∙◌}
use mathlib.Core.List.{List, ◌++◌}
use Prim.Native.Nat.{ℕ, ◌+◌, ◌-◌}
use lib.ListN.{length, length-append}
use Rattle.codec.proofs.Laws.{part_rest}
use Rattle.digest.specs.declared.Words.{Words}
use Rattle.digest.specs.Sha256.{compress, absorb, padding, digest, sha256, H⁰}
use Rattle.digest.proofs.Padding.{length_filled, filled, absorb_two}
use native.Mathlib.Omega.{arith}
use Rattle.digest.proofs.message.long.Goals as goal

pub slice_bounds-meet-end : goal.slice_bounds-meet-end
slice_bounds-meet-end c = let a = c.args in sym (length_filled a.front.now a.rest.now c.requires.0 c.requires.1)

pub meet-block-requires : goal.meet-block-requires
meet-block-requires c = let a = c.args in omega (arith, length_filled a.front.now a.rest.now c.requires.0 c.requires.1)

pub returns : goal.returns
unfolding sha256
returns c = let f = c.args.front.now in let r = c.args.rest.now in
    let p = padding (length f + length r) in
    let h = c.compress-h.ensures ∙ ap₂ compress c.start.ensures (c.meet-block.ensures ∙ filled f r c.requires.0 c.requires.1) in
    c.digest.ensures
    ∙ ap digest
    (c.finish.ensures ∙ ap₂ (λ (H : Words) (l : List ℕ). absorb H (l ++ p)) h (part_rest r (64 - length f))
    ∙ absorb_two f r c.requires.0 c.requires.1 H⁰ p ∙ ap (λ (k : ℕ). absorb H⁰ ((f ++ r) ++ padding k)) (sym (length-append f r)))

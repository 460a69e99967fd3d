use mathlib.Core.Path.{sym, ap, ◌∙◌}
use mathlib.Core.List.{List}
use Prim.Native.Nat.{ℕ, ◌+◌}
use lib.ListN.{length, take, length-append}
use Rattle.digest.specs.Sha256.{sha256}
use Rattle.digest.proofs.Padding.{short_take}
use Rattle.digest.proofs.message.short.Goals as goal

pub slice_bounds-sha256-end : goal.slice_bounds-sha256-end
slice_bounds-sha256-end c = let f = c.args.front.now in let r = c.args.rest.now in
    sym (ap (λ (l : List ℕ). length (take (length f + length r) l)) c.meet-block.ensures ∙ ap length (short_take f r) ∙ length-append f r)

pub returns : goal.returns
returns c = let f = c.args.front.now in let r = c.args.rest.now in
    c.sha256.ensures ∙ ap (λ (l : List ℕ). sha256 (take (length f + length r) l)) c.meet-block.ensures ∙ ap sha256 (short_take f r)

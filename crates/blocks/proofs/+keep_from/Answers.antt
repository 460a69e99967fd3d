-- The entry at place i is judged, what lies behind it is stored, and it is stored.
use mathlib.Core.Path.{◌≡◌, refl, sym, ◌∙◌, ap}
use Prim.Native.Nat.{ℕ, ◌<◌}
use native.Mathlib.Omega.{arith}
use mathlib.Core.Bool.{Bool, true, false}
use mathlib.Core.List.{List}
use lib.ListN.{length, take, get_or}
use Rattle.std.proofs.lemmas.List.{get_or_default}
use Rattle.blocks.specs.Store.{genesis, descends}
use Rattle.blocks.specs.Steps.{noted_of}
use Rattle.blocks.specs.declared.Block.{Block}
use Rattle.blocks.proofs.Judging.{nowhere, not_yet, noted_more}
use Rattle.blocks.proofs.Dropping.{held_within, stored_none, stored_more, stored_same}
use Rattle.blocks.proofs.+keep_from.Goals as goal

-- an entry of the held ones, as it is read
module _ (l held : List Block) (is : held ≡ l) (i : ℕ) (h : i < length held) where
  within : i < length l
  within = rw is at h

  entry : get_or held i nowhere ≡ get_or l i genesis
  entry = rw is (get_or_default l i nowhere genesis within)

  judged_is : (tip : Block) (good : Bool) → good ≡ descends tip held (get_or held i nowhere) → descends tip l (get_or l i genesis) ≡ good
  judged_is tip good e = sym (e ∙ ap (λ (z : List Block). descends tip z (get_or held i nowhere)) is ∙ ap (descends tip l) entry)

pub returns-then-held-i : goal.returns-then-held-i
returns-then-held-i t c = stored_none _ _ _ _ _ (rw c.entries-held.ensures at c.if-held-i.true)

pub noted-requires : goal.noted-requires
noted-requires t c = not_yet _ _ _ _ c.requires.1.1

pub keep_from-end-requires : goal.keep_from-end-requires
keep_from-end-requires t c =
    let l = take c.args.count c.args.store.now in
    let h = within l _ c.entries-held.ensures c.args.i c.if-held-i.false in
    let good = judged_is l _ c.entries-held.ensures c.args.i c.if-held-i.false c.args.tip _ c.judged.ensures in
    (omega (arith, h, (held_within c.args.count c.args.store.now).0), (omega (arith, h), (omega (arith, c.requires.1.0), noted_more c.args.tip l c.args.i c.args.v c.requires.1.1 true _ (sym (good ∙ c.if-judged.true)) c.noted.ensures)))

pub keep_from-requires : goal.keep_from-requires
unfolding noted_of
keep_from-requires t c =
    let l = take c.args.count c.args.store.now in
    let h = within l _ c.entries-held.ensures c.args.i c.if-held-i.false in
    let good = judged_is l _ c.entries-held.ensures c.args.i c.if-held-i.false c.args.tip _ c.judged.ensures in
    (omega (arith, h, (held_within c.args.count c.args.store.now).0), (omega (arith, h), (omega (arith, c.requires.1.0), noted_more c.args.tip l c.args.i c.args.v c.requires.1.1 false _ (sym (good ∙ c.if-judged.false)) refl)))

pub returns-then-judged : goal.returns-then-judged
returns-then-judged t c =
    let l = take c.args.count c.args.store.now in
    let h = within l _ c.entries-held.ensures c.args.i c.if-held-i.false in
    let good = judged_is l _ c.entries-held.ensures c.args.i c.if-held-i.false c.args.tip _ c.judged.ensures in
    stored_more c.args.tip l c.args.store.now c.args.i c.args.at _ _ h _ (entry l _ c.entries-held.ensures c.args.i c.if-held-i.false) (good ∙ c.if-judged.true) c.keep_from-end.ensures

pub returns-else-judged : goal.returns-else-judged
returns-else-judged t c =
    let l = take c.args.count c.args.store.now in
    let h = within l _ c.entries-held.ensures c.args.i c.if-held-i.false in
    let good = judged_is l _ c.entries-held.ensures c.args.i c.if-held-i.false c.args.tip _ c.judged.ensures in
    stored_same c.args.tip l c.args.store.now c.args.i c.args.at _ _ h (good ∙ c.if-judged.false) c.keep_from.ensures

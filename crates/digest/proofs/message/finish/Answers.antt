use mathlib.Core.Path.{◌≡◌, sym, ap, ◌∙◌}
use mathlib.Core.List.{List, ◌++◌, append_assoc}
use lib.ListN.{length}
use Rattle.std.specs.Slice.Iter.{chunks_exact_rest}
use Rattle.digest.specs.Sha256.{absorb, padding}
use Rattle.digest.proofs.Padding.{behind_blocks, behind_block, absorb_block}
use borrow.Author.Rules.{rules}
use Rattle.digest.proofs.message.finish.Goals as goal

pub loop-block-preserved : goal.loop-block-preserved
loop-block-preserved c = let l = c.loop-block in
    let b = c.in-Some.block.now in
    let s = chunks_exact_rest c.next.new.self in
    let p = padding c.args.n in
    let e : chunks_exact_rest l.block-iterator ≡ b ++ s = search rules in
    let n : length b ≡ 64 = search rules in (
      search rules,
      (
        sym (behind_block b s n) ∙ ap behind_blocks (sym e) ∙ l.invariant.1.0,
        ap (λ v. absorb v (s ++ p)) c.compress-v.ensures ∙ sym (absorb_block l.v b (s ++ p) n)
            ∙ ap (absorb l.v) (sym (append_assoc b s p) ∙ ap (λ (x : List _). x ++ p) (sym e)) ∙ l.invariant.1.1,
      ),
    )

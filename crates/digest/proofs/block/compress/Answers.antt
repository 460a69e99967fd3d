use mathlib.Core.Path.{◌≡◌, refl, sym, ap, ◌∙◌}
use mathlib.Core.List.{List}
use Prim.Native.Nat.{ℕ, ◌+◌, ◌-◌}
use native.Mathlib.Nat.{zero-add}
use lib.ListN.{length, replicate}
use Rattle.digest.specs.declared.Words.{Words}
use Rattle.digest.specs.Sha256.{words, next, schedule, rounds, plus, compress}
use Rattle.digest.specs.Turns.{Run, run, word_of, turns}
use Rattle.digest.proofs.Schedule.{length_k}
use Rattle.digest.proofs.Turns.{turns_add, turned}
use borrow.Author.Rules.{rules}
use native.Mathlib.Omega.{arith}
use Rattle.digest.proofs.block.compress.Goals as goal

pub loop-t-init : goal.loop-t-init
unfolding turns
loop-t-init c = (search rules, (refl, refl))

pub loop-t-preserved : goal.loop-t-preserved
unfolding word_of
loop-t-preserved c = let l = c.loop-t in
    let k = c.constants-k.result in
    let f = word_of c.args.m.now in
    let s = run (replicate 64 0) c.args.h in (
      omega arith,
      (
        omega arith,
        c.eight-v.ensures f (λ w i x a b e. search rules) ∙ ap (turns f k l.t 8) l.invariant.1.1
            ∙ ap (λ (j : ℕ). turns f k j 8 (turns f k 0 l.t s)) (sym (zero-add l.t)) ∙ sym (turns_add f k 0 l.t 8 s),
      ),
    )

pub loop-t-2-init : goal.loop-t-2-init
unfolding turns
loop-t-2-init c = (search rules, (search rules, (refl, refl)))

pub loop-t-2-preserved : goal.loop-t-2-preserved
loop-t-2-preserved c = let l = c.loop-t-2 in
    let k = c.constants-k.result in
    let s = run c.loop-t.w c.loop-t.v in
    let d : 16 + (l.t - 16) ≡ l.t = omega arith in
    let g : l.t - 16 + 8 ≡ l.t + 8 - 16 = omega arith in (
      omega arith,
      (
        omega arith,
        (
          omega arith,
          c.eight-v-in-loop-t-2.ensures next (λ w i x a b e. search rules) ∙ ap (turns next k l.t 8) l.invariant.1.1.1
              ∙ ap (λ (j : ℕ). turns next k j 8 (turns next k 16 (l.t - 16) s)) (sym d) ∙ sym (turns_add next k 16 (l.t - 16) 8 s) ∙ ap (λ (j : ℕ). turns next k 16 j s) g,
        ),
      ),
    )

pub returns : goal.returns
unfolding compress
returns c = let l = c.loop-t-2 in
    let k = c.constants-k in
    let h = c.args.h in
    let m = c.args.m.now in
    let f = word_of m in
    let a : c.loop-t.t ≡ 16 = omega arith in
    let b : l.t - 16 ≡ 48 = omega arith in
    let first = c.loop-t.invariant.1.1 ∙ ap (λ (j : ℕ). turns f k.result 0 j (run (replicate 64 0) h)) a in
    let later = l.invariant.1.1.1 ∙ ap (λ (j : ℕ). turns next k.result 16 j (run c.loop-t.w c.loop-t.v)) b ∙ ap (turns next k.result 16 48) first in
    c.plus.ensures
    ∙ ap (λ (v : Words). plus v h)
    (ap (λ (r : Run). r.variables) later ∙ turned m k.result h (ap length k.ensures ∙ length_k) ∙ ap (λ (x : List ℕ). rounds x (schedule (words 16 m)) h) k.ensures)

use mathlib.Core.Path.{◌≡◌, sym, ap, ◌∙◌}
use Prim.Native.Nat.{ℕ, ◌+◌, ◌-◌}
use mathlib.Core.List.{List}
use native.Mathlib.Nat.{add-zero, sub-zero}
use lib.ListN.{length}
use Rattle.memory.specs.Layout.{vote_row, commit_row}
use Rattle.memory.specs.Kept.{cleared}
use Rattle.memory.specs.Window.{without_ballots}
use Rattle.memory.proofs.Drops.{length-cleared, ballots_on, ballots_end}
use native.Mathlib.Omega.{arith}
use Rattle.memory.proofs.window.drop_ballots.Goals as goal

pub loop-i-init : goal.loop-i-init
loop-i-init c = rw (add-zero, sub-zero)

pub clear_row-requires : goal.clear_row-requires
clear_row-requires c = omega (arith, c.vote_row.ensures)

pub clear_row-requires-in-loop-i : goal.clear_row-requires-in-loop-i
clear_row-requires-in-loop-i c = omega (arith, c.commit_row.ensures, ap length c.clear_row.ensures ∙ length-cleared _ _ _)

pub loop-i-preserved : goal.loop-i-preserved
loop-i-preserved c = let l = c.loop-i in let a = c.args in
    let e : c.clear_row.new.mem ≡ cleared l.mem (vote_row (a.from.0 + l.i)) 32 = c.clear_row.ensures ∙ ap (λ (r : ℕ). cleared l.mem r 32) c.vote_row.ensures in
    let f : c.clear_row-in-loop-i.new.mem ≡ cleared (cleared l.mem (vote_row (a.from.0 + l.i)) 32) (commit_row (a.from.0 + l.i)) 32 = c.clear_row-in-loop-i.ensures ∙ ap (λ (r : ℕ). cleared c.clear_row.new.mem r 32) c.commit_row.ensures ∙ ap (λ (s : List ℕ). cleared s (commit_row (a.from.0 + l.i)) 32) e in
    ap (λ (s : List ℕ). without_ballots s (a.from.0 + (l.i + 1)) (a.k - (l.i + 1))) f ∙ sym (ballots_on _ _ _ l.i c.loop-i-test.true) ∙ l.invariant

pub returns : goal.returns
returns c = sym (ballots_end _ _ _ c.loop-i.i c.loop-i-test.false) ∙ c.loop-i.invariant

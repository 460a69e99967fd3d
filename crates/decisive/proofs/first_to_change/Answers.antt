use mathlib.Core.Path.{◌≡◌, sym, ap, ◌∙◌}
use mathlib.Core.List.{List}
use Prim.Native.Nat.{ℕ, ◌-◌, ◌<◌}
use native.Mathlib.Nat.{sub-zero}
use lib.ListN.{length}
use Rattle.wire.proofs.Turns.{slot_turn, slot_end}
use Rattle.wire.specs.Fields.{sender_of}
use Rattle.std.specs.Iterator.Adapters.{enumerate_source, enumerate_count}
use Rattle.decisive.specs.Decisive.{safe_block, named}
use Rattle.decisive.specs.Reply.{first_timeouts, others, left_out}
use Rattle.decisive.proofs.Copies.{copied, length-left_out, slot_next, found_here, goes_on_lem, not_found}
use borrow.Author.Rules.{rules}
use native.Mathlib.Omega.{arith}
use Rattle.decisive.proofs.first_to_change.Goals as goal

pub loop-i-init : goal.loop-i-init
loop-i-init c = record {
  long = search rules;
  size = rw (c.into_iter-i-iterator.ensures.into_iter_gives, c.enumerate-i-items.ensures.source) c.timeouts.ensures.size;
  left = rw (c.into_iter-i-iterator.ensures.into_iter_gives, c.enumerate-i-items.ensures.source, c.enumerate-i-items.ensures.count, sub-zero) c.timeouts.ensures.slots;
  later = rw (c.into_iter-i-iterator.ensures.into_iter_gives, c.enumerate-i-items.ensures.count, sub-zero);
}

pub leave_out-requires : goal.leave_out-requires
leave_out-requires c = let p = c.requires.1 in
    let turn = slot_turn (enumerate_source c.loop-i.i-iterator) (enumerate_source c.next.new.self) c.loop-i.invariant.size c.in-Some.slot c.in-Some.ensures.steps.0 in
    let next = slot_next c.args.rec.now c.args.count (enumerate_count c.loop-i.i-iterator) c.loop-i.invariant.left turn.1 in
    (p.0, (omega (arith, next.0, c.in-Some.ensures.steps.1), (p.1.1.0, omega (arith, p.0, c.loop-i.invariant.long))))

pub u16_at-requires : goal.u16_at-requires
u16_at-requires c =
    omega (arith, c.in-Some.ensures.steps.0.1.1, c.loop-i.invariant.size)

pub returns-then-ne : goal.returns-then-ne
returns-then-ne c = let p = c.requires.1 in
    let turn = slot_turn (enumerate_source c.loop-i.i-iterator) (enumerate_source c.next.new.self) c.loop-i.invariant.size c.in-Some.slot c.in-Some.ensures.steps.0 in
    let next = slot_next c.args.rec.now c.args.count (enumerate_count c.loop-i.i-iterator) c.loop-i.invariant.left turn.1 in
    let below : enumerate_count c.loop-i.i-iterator < c.args.count = next.0 in
    let without : c.safe_block.result ≡ safe_block c.args.s (others c.args.rec.now c.args.count (enumerate_count c.loop-i.i-iterator)) =
    c.safe_block.ensures
    ∙ ap (λ (t : List ℕ). safe_block c.args.s (first_timeouts t (c.args.count - 1))) (c.leave_out.ensures ∙ ap (λ (j : ℕ). left_out c.args.rec.now c.args.count j c.loop-i.rest) c.in-Some.ensures.steps.1)
    ∙ ap (safe_block c.args.s) (copied _ _ _ _ below p.1.1.0 (omega (arith, p.0, c.loop-i.invariant.long))) in
    let p = c.requires.1.1 in
    ap named (c.u16_at.ensures ∙ ap sender_of next.1)
    ∙ sym (c.loop-i.invariant.later ∙ found_here _ _ c.args.rec.now _ _ p.1.1.0 below p.0 without p.1.1.1 c.ne.ensures c.if-ne.true)

pub loop-i-preserved : goal.loop-i-preserved
loop-i-preserved c = let p = c.requires.1 in
    let turn = slot_turn (enumerate_source c.loop-i.i-iterator) (enumerate_source c.next.new.self) c.loop-i.invariant.size c.in-Some.slot c.in-Some.ensures.steps.0 in
    let next = slot_next c.args.rec.now c.args.count (enumerate_count c.loop-i.i-iterator) c.loop-i.invariant.left turn.1 in
    let below : enumerate_count c.loop-i.i-iterator < c.args.count = next.0 in
    let without : c.safe_block.result ≡ safe_block c.args.s (others c.args.rec.now c.args.count (enumerate_count c.loop-i.i-iterator)) =
    c.safe_block.ensures
    ∙ ap (λ (t : List ℕ). safe_block c.args.s (first_timeouts t (c.args.count - 1))) (c.leave_out.ensures ∙ ap (λ (j : ℕ). left_out c.args.rec.now c.args.count j c.loop-i.rest) c.in-Some.ensures.steps.1)
    ∙ ap (safe_block c.args.s) (copied _ _ _ _ below p.1.1.0 (omega (arith, p.0, c.loop-i.invariant.long))) in
    let p = c.requires.1.1 in
    record {
      long = ap length c.leave_out.ensures ∙ length-left_out _ _ _ _ ∙ c.loop-i.invariant.long;
      size = turn.0;
      left = rw c.in-Some.ensures.steps.2 next.2;
      later = rw c.in-Some.ensures.steps.2 (c.loop-i.invariant.later ∙ goes_on_lem _ _ c.args.rec.now _ _ p.1.1.0 below p.0 without p.1.1.1 c.ne.ensures c.if-ne.false);
    }

pub returns : goal.returns
returns c = let p = c.requires.1.1 in
    sym (c.loop-i.invariant.later ∙ not_found _ _ c.args.rec.now _ _ p.1.1.0 (sym c.loop-i.invariant.left ∙ slot_end _ _ c.loop-i.invariant.size c.in-None.ensures.steps.0))

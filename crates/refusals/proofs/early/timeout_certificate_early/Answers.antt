use mathlib.Core.Path.{◌≡◌, sym, ap, ◌∙◌}
use lib.ListN.{drop}
use Rattle.std.proofs.Common.{arith}
use Rattle.std.proofs.lemmas.Grind.{common_steps}
use Rattle.settings.specs.Refusal.{refused, number}
use Rattle.codec.specs.Bytes.{le_nat}
use Rattle.codec.proofs.Laws.{part-drop}
use Rattle.wire.specs.Fields.{view_of}
use Rattle.wire.specs.Content.{progress_means, Within}
use Rattle.protocol.specs.Refusals.{refusals}
use Rattle.refusals.specs.Number.{first_of}
use Rattle.refusals.proofs.early.timeout_certificate_early.Goals as goal

pub returns-then-n-u16_at : goal.returns-then-n-u16_at
unfolding refusals progress_means refused number first_of
returns-then-n-u16_at c = grind (arith, common_steps)

pub overflow_add-t : goal.overflow_add-t
unfolding Within
overflow_add-t c = omega (arith, c.requires.1.1)

pub u64_at-requires : goal.u64_at-requires
unfolding Within
u64_at-requires c = omega (arith, c.requires.1.1)

pub timeouts_good-requires : goal.timeouts_good-requires
timeouts_good-requires c = c.requires.1.1

pub returns-then-below_view : goal.returns-then-below_view
unfolding refusals progress_means refused number first_of
returns-then-below_view c = let view_is : c.u64_at.result ≡ view_of (drop c.args.t.place c.args.rec.now) = c.u64_at.ensures ∙ ap le_nat (sym (part-drop c.args.rec.now c.args.t.place 8 8)) in
    grind (arith, common_steps)

pub returns-then-le : goal.returns-then-le
unfolding refusals progress_means refused number first_of
returns-then-le c = let view_is : c.u64_at.result ≡ view_of (drop c.args.t.place c.args.rec.now) = c.u64_at.ensures ∙ ap le_nat (sym (part-drop c.args.rec.now c.args.t.place 8 8)) in
    grind (arith, common_steps)

pub returns-then-timeouts_good : goal.returns-then-timeouts_good
unfolding refusals progress_means refused number first_of
returns-then-timeouts_good c = let view_is : c.u64_at.result ≡ view_of (drop c.args.t.place c.args.rec.now) = c.u64_at.ensures ∙ ap le_nat (sym (part-drop c.args.rec.now c.args.t.place 8 8)) in
    grind (arith, common_steps)

pub returns : goal.returns
unfolding refusals progress_means refused number first_of
returns c = let view_is : c.u64_at.result ≡ view_of (drop c.args.t.place c.args.rec.now) = c.u64_at.ensures ∙ ap le_nat (sym (part-drop c.args.rec.now c.args.t.place 8 8)) in
    grind (arith, common_steps)

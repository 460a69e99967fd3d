use mathlib.Core.Path.{◌≡◌, ap, ◌∙◌}
use Prim.Native.Nat.{◌+◌, ◌-◌, ◌≤◌}
use lib.ListN.{take, drop}
use Rattle.codec.proofs.Laws.{part_lent, length-part}
use Rattle.wire.proofs.Certificates.{Stands, within}
use Rattle.certificate.specs.declared.Certificate.{Certificate}
use Rattle.memory.specs.Layout.{entry_place, entry_of, entry_length_of}
use Rattle.refusals.proofs.Regular.{sized_block, sized_timeouts}
use Rattle.judge.proofs.Passing.{entry_fits}
use native.Mathlib.Omega.{arith}
use Rattle.judge.proofs.entry_base.Goals as goal

pub overflow_add-entry : goal.overflow_add-entry
overflow_add-entry c = let fits : (24 ≤ entry_length_of c.args.mem.now) × (entry_length_of c.args.mem.now ≤ 3608) = entry_fits _ _ c.requires.1.0 c.requires.0 c.requires.1.1 in
    omega (arith, fits.1, c.entry_length.ensures)

pub slice_bounds-entry-end : goal.slice_bounds-entry-end
slice_bounds-entry-end c = let fits : (24 ≤ entry_length_of c.args.mem.now) × (entry_length_of c.args.mem.now ≤ 3608) = entry_fits _ _ c.requires.1.0 c.requires.0 c.requires.1.1 in
    omega (arith, fits.1, c.entry_length.ensures, c.requires.0)

pub progress-requires : goal.progress-requires
unfolding entry_of
progress-requires c = let entry-is : take (entry_place + c.entry_length.result - entry_place) (drop entry_place c.args.mem.now) ≡ entry_of c.args.mem.now = part_lent c.args.mem.now entry_place c.entry_length.result ∙ rw c.entry_length.ensures in
    let fits : (24 ≤ entry_length_of c.args.mem.now) × (entry_length_of c.args.mem.now ≤ 3608) = entry_fits _ _ c.requires.1.0 c.requires.0 c.requires.1.1 in
    let stands : Stands (entry_of c.args.mem.now) 0 = record {
      head = rw (length-part c.args.mem.now entry_place (entry_length_of c.args.mem.now) (omega (arith, fits.1, c.requires.0))) fits.0;
      block = λ q. omega (arith, sized_block _ _ c.requires.1.1 q);
      timeouts = λ q. omega (arith, sized_timeouts _ _ c.requires.1.1 q);
    } in
    rw entry-is (stands.head, stands.block)

pub safe_certificate-requires : goal.safe_certificate-requires
unfolding entry_of
safe_certificate-requires c = let entry-is : take (entry_place + c.entry_length.result - entry_place) (drop entry_place c.args.mem.now) ≡ entry_of c.args.mem.now = part_lent c.args.mem.now entry_place c.entry_length.result ∙ rw c.entry_length.ensures in
    let fits : (24 ≤ entry_length_of c.args.mem.now) × (entry_length_of c.args.mem.now ≤ 3608) = entry_fits _ _ c.requires.1.0 c.requires.0 c.requires.1.1 in
    let stands : Stands (entry_of c.args.mem.now) 0 = record {
      head = rw (length-part c.args.mem.now entry_place (entry_length_of c.args.mem.now) (omega (arith, fits.1, c.requires.0))) fits.0;
      block = λ q. omega (arith, sized_block _ _ c.requires.1.1 q);
      timeouts = λ q. omega (arith, sized_timeouts _ _ c.requires.1.1 q);
    } in
    (rw c.settings.ensures c.requires.1.0, within _ 0 (rw entry-is stands) c.progress.ensures.0)

pub returns : goal.returns
unfolding entry_of
returns c = let entry-is : take (entry_place + c.entry_length.result - entry_place) (drop entry_place c.args.mem.now) ≡ entry_of c.args.mem.now = part_lent c.args.mem.now entry_place c.entry_length.result ∙ rw c.entry_length.ensures in
    rw (c.progress.ensures.1, entry-is, c.settings.ensures) at (ap (λ (k : Certificate). k.name) c.safe_certificate.ensures)

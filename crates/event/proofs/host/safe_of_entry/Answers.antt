use mathlib.Core.Path.{ap, ◌∙◌}
use Rattle.settings.specs.declared.Settings.{Settings}
use Rattle.settings.specs.Quorum.{replicas}
use Rattle.wire.specs.Content.{Certificate}
use Rattle.wire.proofs.Certificates.{within}
use Rattle.certificate.specs.Safe.{safe_certificate}
use Rattle.protocol.proofs.call.Regular.{form_room}
use Rattle.act.proofs.Advancing.{form_stands}
use Rattle.event.proofs.Proposing.{entry_in, entry_lent, safe_is}
use native.Mathlib.Omega.{arith}
use Rattle.event.proofs.host.safe_of_entry.Goals as goal

pub entry_length-requires : goal.entry_length-requires
entry_length-requires c = omega (arith, c.requires.0)

pub overflow_add-entry : goal.overflow_add-entry
overflow_add-entry c = omega (arith, c.entry_length.ensures, c.well_formed.0.0, entry_in c.args.mem.now c.requires.0 (form_room _ _ c.requires.1.0 c.requires.1.1))

pub slice_bounds-entry-end : goal.slice_bounds-entry-end
slice_bounds-entry-end c = omega (arith, c.entry_length.ensures, entry_in c.args.mem.now c.requires.0 (form_room _ _ c.requires.1.0 c.requires.1.1))

pub progress-requires : goal.progress-requires
progress-requires c = let S = form_stands _ _ c.requires.1.1 in rw (entry_lent c.args.mem.now c.entry_length.ensures) (S.head, S.block)

pub settings-requires : goal.settings-requires
settings-requires c = omega (arith, c.requires.0)

pub safe_certificate-requires : goal.safe_certificate-requires
safe_certificate-requires c = (omega (arith, c.requires.1.0, ap (λ (z : Settings). replicas z) c.settings.ensures), within _ 0 (rw (entry_lent c.args.mem.now c.entry_length.ensures) (form_stands _ _ c.requires.1.1)) c.progress.ensures.0)

pub returns : goal.returns
returns c = safe_is c.args.mem.now c.entry_length.ensures c.settings.ensures (c.safe_certificate.ensures ∙ ap (λ (k : Certificate). safe_certificate c.settings.result k) c.progress.ensures.1)

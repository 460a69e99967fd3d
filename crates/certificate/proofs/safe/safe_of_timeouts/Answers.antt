use mathlib.Core.Path.{sym, ap, ◌∙◌}
use mathlib.Core.List.{map}
use Rattle.wire.specs.Content.{timeout_of}
use Rattle.wire.proofs.Turns.{slot_turn, slot_end}
use Rattle.certificate.specs.Safe.{safe_of_timeouts}
use Rattle.certificate.proofs.Built.{safe_made}
use Rattle.certificate.proofs.safe.safe_of_timeouts.Goals as goal

pub returns-in_default : goal.returns-in_default
unfolding safe_of_timeouts
returns-in_default c = let e = sym c.timeouts-slots.ensures.slots ∙ slot_end c.timeouts-slots.result c.next.new.self c.timeouts-slots.ensures.size (rw c.in_default.is at c.next.ensures.steps) in rw e

pub returns : goal.returns
returns c = let e = sym c.timeouts-slots.ensures.slots ∙ (slot_turn c.timeouts-slots.result c.next.new.self c.timeouts-slots.ensures.size c.in-Some.first c.in-Some.ensures.steps).1 in
    rw (c.built_best.ensures, c.carried_best-highest.ensures, c.into.ensures, c.timeout.ensures) (safe_made c.args.settings _ _ (ap (map timeout_of) e))

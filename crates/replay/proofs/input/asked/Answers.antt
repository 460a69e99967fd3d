use mathlib.Core.Path.{sym, ◌∙◌}
use Rattle.codec.specs.Bytes.{part}
use Rattle.codec.specs.Names.{name_length}
use Rattle.wire.specs.Fields.{view_of}
use Rattle.protocol.specs.Contents.{none}
use Rattle.protocol.specs.OneCall.{timer, propose}
use Rattle.replay.specs.Input.{timer_length, propose_length}
use Rattle.replay.specs.Requests.{call_of, asked_of, checked}
use Rattle.replay.proofs.Laws.{timer_asks, propose_asks, record_asks, host_length, err_asked}
use native.Mathlib.Omega.{arith}
use Rattle.replay.proofs.input.asked.Goals as goal

pub returns-in_err-from_host-in-10 : goal.returns-in_err-from_host-in-10
unfolding checked
returns-in_err-from_host-in-10 c =
    let r = c.args.rec.now in
    let e = c.in_err-from_host-in-10 in
    err_asked c.from_residual.result e.field-0.0 c.from_residual.ensures ∙ (e.ensures (timer (view_of r)) ∙ sym (timer_asks r (sym c.u16_at.ensures ∙ c.in-10.is)))

pub u64_at-requires : goal.u64_at-requires
unfolding checked
u64_at-requires c = let r = c.args.rec.now in omega (arith, host_length r timer_length (timer (view_of r)) (c.in_ok-from_host-in-10.ensures (timer (view_of r))))

pub returns-in_ok-from_host-in-10 : goal.returns-in_ok-from_host-in-10
unfolding checked asked_of call_of
returns-in_ok-from_host-in-10 c =
    let r = c.args.rec.now in rw c.u64_at.ensures (c.in_ok-from_host-in-10.ensures (timer (view_of r)) ∙ sym (timer_asks r (sym c.u16_at.ensures ∙ c.in-10.is)))

pub returns-in_err-from_host-in-11 : goal.returns-in_err-from_host-in-11
unfolding checked
returns-in_err-from_host-in-11 c =
    let r = c.args.rec.now in
    let e = c.in_err-from_host-in-11 in
    err_asked c.from_residual-in_err-from_host-in-11.result e.field-0.0 c.from_residual-in_err-from_host-in-11.ensures
    ∙ (e.ensures (propose (part r 8 name_length) none) ∙ sym (propose_asks r (sym c.u16_at.ensures ∙ c.in-11.is)))

pub name_at-bytes-requires : goal.name_at-bytes-requires
unfolding checked
name_at-bytes-requires c =
    let r = c.args.rec.now in
    omega (arith, host_length r propose_length (propose (part r 8 name_length) none) (c.in_ok-from_host-in-11.ensures (propose (part r 8 name_length) none)))

pub returns-in_ok-from_host-in-11 : goal.returns-in_ok-from_host-in-11
unfolding checked asked_of call_of
returns-in_ok-from_host-in-11 c =
    let r = c.args.rec.now in
    rw c.name_at-bytes.ensures (c.in_ok-from_host-in-11.ensures (propose (part r 8 name_length) none) ∙ sym (propose_asks r (sym c.u16_at.ensures ∙ c.in-11.is)))

pub returns-in_default : goal.returns-in_default
unfolding asked_of call_of
returns-in_default c = sym (record_asks c.args.rec.now (λ e. omega (arith, c.in_default, c.u16_at.ensures, e)) (λ e. omega (arith, c.in_default, c.u16_at.ensures, e)))

use mathlib.Core.Path.{sym, ap, ◌∙◌}
use Rattle.std.specs.Prelude.{Some}
use Rattle.replay.specs.Replay.{ready}
use Rattle.replay.specs.Requests.{Told, told_front}
use Rattle.replay.proofs.Laws.{nothing_ready, rest_got, none_got, over_goes, full_goes, ready_goes, not_asked, is_asked}
use native.Mathlib.Omega.{arith}
use Rattle.replay.proofs.input.next_request.Goals as goal
use Rattle.replay.proofs.input.next_request.Goals.{then-p-eq0-via-then-p-eq0, then-p-eq0-via-else-p-eq0+then-room-p, then-p-eq0-via-else-p-eq0+else-room-p+then-room-p-lt-LINE}

pub returns-then-p-eq0 : goal.returns-then-p-eq0
returns-then-p-eq0 c = let a = c.args in
    not_asked a.ended a.input.now a.room a.p (elim c.then-p-eq0.branch [
      | then-p-eq0-via-then-p-eq0 w ↦ over_goes a.ended a.input.now a.room a.p w.if-p-eq0.true
      | then-p-eq0-via-else-p-eq0+then-room-p w ↦ full_goes a.ended a.input.now a.room a.p (omega (arith, w.if-room-p.true))
      | then-p-eq0-via-else-p-eq0+else-room-p+then-room-p-lt-LINE w ↦ full_goes a.ended a.input.now a.room a.p (omega (arith, w.if-room-p.false, w.if-room-p-lt-LINE.true))
    ])

pub returns-in_err-rest : goal.returns-in_err-rest
returns-in_err-rest c = let a = c.args in
    let none = none_got a.input.now a.p.at (rw c.in_err-rest.was at c.get.ensures.lookup) in
    rw c.from_residual.ensures (not_asked a.ended a.input.now a.room a.p
    (ready_goes a.ended a.input.now a.room a.p c.if-p-eq0.false (omega (arith, c.if-room-p.false, c.if-room-p-lt-LINE.false)) ∙ nothing_ready a.ended _ none))

pub returns-then-not-is_ready : goal.returns-then-not-is_ready
returns-then-not-is_ready c = let a = c.args in
    let is = rest_got a.input.now a.p.at c.in_ok-rest.rest (rw c.in_ok-rest.was at c.get.ensures.lookup) in
    not_asked a.ended a.input.now a.room a.p
    (ready_goes a.ended a.input.now a.room a.p c.if-p-eq0.false (omega (arith, c.if-room-p.false, c.if-room-p-lt-LINE.false)) ∙ (ap (ready a.ended) (sym is) ∙ (sym c.is_ready.ensures ∙ c.if-not-is_ready.true)))

pub returns : goal.returns
returns c = let a = c.args in
    let is = rest_got a.input.now a.p.at c.in_ok-rest.rest (rw c.in_ok-rest.was at c.get.ensures.lookup) in
    ap (λ (x : Told). Some x) (c.front.ensures ∙ ap told_front is) ∙ is_asked a.ended a.input.now a.room a.p
    (ready_goes a.ended a.input.now a.room a.p c.if-p-eq0.false (omega (arith, c.if-room-p.false, c.if-room-p-lt-LINE.false)) ∙ (ap (ready a.ended) (sym is) ∙ (sym c.is_ready.ensures ∙ c.if-not-is_ready.false)))

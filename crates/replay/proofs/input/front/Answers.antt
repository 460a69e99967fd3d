use mathlib.Core.Path.{◌≡◌, sym, ap, ◌∙◌}
use Rattle.settings.specs.Refusal.{number}
use Rattle.replay.specs.Input.{whole, broken, front, asks}
use Rattle.replay.specs.Requests.{asked_of, piece_of}
use Rattle.replay.proofs.Cutting.{whole_front, broken_front}
use Rattle.replay.proofs.input.front.Goals as goal

pub asked-requires : goal.asked-requires
unfolding piece_of
asked-requires c = (whole_front c.args.rest.now c.in-Some.rec.now c.in-Some.ensures).1

pub returns-in-Some : goal.returns-in-Some
unfolding piece_of
returns-in-Some c =
    let e : whole c.in-Some.rec.now ≡ front c.args.rest.now = c.in-Some.ensures in
    let u = sym (whole_front c.args.rest.now c.in-Some.rec.now e).0 in
    let a = c.asked.ensures ∙ ap asks e in
    λ i. record { used = u i; asks = a i }

pub returns-in-None : goal.returns-in-None
unfolding piece_of asked_of number
returns-in-None c =
    let e : broken ≡ front c.args.rest.now = c.in-None.ensures in
    let u = sym (broken_front c.args.rest.now e) in
    let a = ap asks e in
    λ i. record { used = u i; asks = a i }

-- The search from its first place on, which refusal 2 bounds.
use Prim.Native.Nat.{◌+◌, ◌^◌, ◌<◌}
use mathlib.Core.Path.{sym, ap, subst, ◌∙◌}
use Rattle.release.specs.Search.{standing, known_by, seen, first_place, target_from}
use Rattle.release.specs.declared.Place.{Place}
use Rattle.release.proofs.Regular.{bounded}
use Rattle.release.proofs.Search.{begins, from_seen, first_within}
use Rattle.release.proofs.lowest_target.Goals as goal

pub first_place-requires : goal.first_place-requires
first_place-requires c = let B = bounded _ c.requires.1 in (c.requires.0, (B.few, (B.view_first, B.view_last)))

pub target_from-requires : goal.target_from-requires
target_from-requires c =
    let B = bounded (standing (known_by c.args.view c.args.tip) c.args.mem.now c.args.store.now) c.requires.1 in
    (c.requires.0, (B.few, subst (λ (z : Place). z.view.0 + z.views < 2 ^ 63) (sym c.first_place.ensures) (first_within c.args.view.0 c.args.mem.now B.view_last)))

pub returns : goal.returns
returns c =
    let W = standing (known_by c.args.view c.args.tip) c.args.mem.now c.args.store.now in
    let B = bounded W c.requires.1 in
    c.target_from.ensures
    ∙ ap (λ (z : Place). target_from z (seen c.args.tip c.args.mem.now c.args.store.now)) c.first_place.ensures
    ∙ sym (from_seen (first_place c.args.view.0 c.args.mem.now) (known_by c.args.view c.args.tip) c.args.mem.now c.args.store.now)
    ∙ begins W B.few B.view_first B.view_last

-- What was found behind the views that are passed over.
use native.Mathlib.Omega.{arith}
use mathlib.Core.Path.{refl}
use Rattle.memory.specs.Layout.{settings_of}
use Rattle.release.proofs.Search.{some_fast, some_slow, passes, nothing, untried, ends, done, another}
use Rattle.release.proofs.step_from.Goals as goal

pub find_decided-found-requires : goal.find_decided-found-requires
find_decided-found-requires c =
    rw c.quorums.ensures (c.requires.0, (c.requires.1.0, (some_fast (settings_of c.args.mem.now) refl, some_slow (settings_of c.args.mem.now) refl)))

pub next_view-requires : goal.next_view-requires
next_view-requires c = (c.requires.0, omega (arith, c.requires.1.1, (passes c.args.tip c.args.mem.now c.args.store.now c.args.p _ c.requires.1.0 c.pass_views-q.ensures).within))

pub next_view-requires-then-q-lt1 : goal.next_view-requires-then-q-lt1
next_view-requires-then-q-lt1 c = (c.requires.0, omega (arith, c.requires.1.1, (passes c.args.tip c.args.mem.now c.args.store.now c.args.p _ c.requires.1.0 c.pass_views-q.ensures).within))

pub next_view-requires-then-found : goal.next_view-requires-then-found
next_view-requires-then-found c = (c.requires.0, omega (arith, c.requires.1.1, (passes c.args.tip c.args.mem.now c.args.store.now c.args.p _ c.requires.1.0 c.pass_views-q.ensures).within))

pub returns-in_default : goal.returns-in_default
returns-in_default c = rw c.next_view.ensures (nothing c.args.tip c.args.mem.now c.args.store.now c.args.p _ c.requires.1.0 c.pass_views-q.ensures _ c.quorums.ensures _ _ c.find_decided-found.ensures c.in_default.is)

pub returns-then-q-lt1 : goal.returns-then-q-lt1
returns-then-q-lt1 c = rw c.next_view-then-q-lt1.ensures (untried c.args.tip c.args.mem.now c.args.store.now c.args.p _ c.requires.1.0 c.pass_views-q.ensures _ c.quorums.ensures _ _ c.find_decided-found.ensures c.if-q-lt1.true)

pub returns-in-Some-leading : goal.returns-in-Some-leading
returns-in-Some-leading c = ends c.args.tip c.args.mem.now c.args.store.now c.args.p _ c.requires.1.0 c.pass_views-q.ensures _ c.quorums.ensures _ _ c.find_decided-found.ensures c.in-Some.name c.in-Some.is c.if-q-lt1.false c.in-Some-leading.block c.in-Some-leading.ensures

pub returns-then-found : goal.returns-then-found
returns-then-found c = rw c.next_view-then-found.ensures (done c.args.tip c.args.mem.now c.args.store.now c.args.p _ c.requires.1.0 c.pass_views-q.ensures _ c.quorums.ensures _ _ c.find_decided-found.ensures c.in-Some.name c.in-Some.is c.if-q-lt1.false c.in_default-leading.ensures c.if-found.true)

pub returns : goal.returns
returns c = another c.args.tip c.args.mem.now c.args.store.now c.args.p _ c.requires.1.0 c.pass_views-q.ensures _ c.quorums.ensures _ _ c.find_decided-found.ensures c.in-Some.name c.in-Some.is c.if-q-lt1.false c.in_default-leading.ensures

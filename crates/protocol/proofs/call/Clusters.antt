-- Every cluster of up to 32 replicas opens, whatever its k, and nothing else does. Assumes nothing.
use native.Mathlib.Omega.{arith}
use mathlib.Core.Path.{◌≡◌, refl}
use mathlib.Core.Bool.{Bool, true, false, not}
use mathlib.Core.List.{[], ◌∷◌, ◌++◌}
use borrow.Author.Tests.{eqb-true, ltb-false}
use lib.Dec.{eqb, ltb, leb}
use Rattle.settings.specs.declared.Settings.{Settings}
use Rattle.settings.specs.Answer.{refuses, ◌⇒◌, judge}
use Rattle.settings.specs.Quorum.{largest, replicas}
use Rattle.settings.specs.Opening.{opening_rules, leader_rules}
use Rattle.protocol.specs.Calls.{opening_core, opening_call, outcome, length_rules}
use Rattle.protocol.specs.Clusters.{EveryClusterOpens, NothingElseOpens}
use Rattle.protocol.proofs.call.Opening.{Openable, opened_work, opening_takes}

pub every_cluster_opens : EveryClusterOpens
unfolding opening_call outcome
every_cluster_opens r f c k n own leaders h member list long many =
    let s : Settings = record { f = f; c = c; k = k } in
    let o : Openable s own leaders = record { few = omega (arith, h.count, h.most); member = omega (arith, h.count); list = rw h.count at list } in
    rw (h.count, opening_takes r s own leaders o long many)

pub nothing_else_opens : NothingElseOpens
unfolding opening_call opening_core opening_rules outcome judge
nothing_else_opens r f c k n own leaders h = go (eqb n (replicas s)) refl (ltb largest n) refl
  where
    s : Settings
    s = record { f = f; c = c; k = k }

    go : (p : Bool) → eqb n (replicas s) ≡ p → (q : Bool) → ltb largest n ≡ q
        → (outcome r [] (judge (not p ⇒ 1 ∷ q ⇒ 1 ∷ leb n own ⇒ 1 ∷ leader_rules n leaders ++ length_rules r) (opened_work r.memory r.store s own leaders))).reply ≡ refuses 1
    go false a q b = refl
    go true a true b = refl
    go true a false b = absurd (h (record { count = eqb-true n (replicas s) a; most = omega (arith, ltb-false largest n b) }))

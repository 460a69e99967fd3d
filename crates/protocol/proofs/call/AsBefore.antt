-- AS BEFORE: an opening with the list 0 to n - 1 answers as one that asks for no list, and every list of calls from there gives what it gives by 01's rule of the leader. Assumes nothing.
use Prim.Native.Nat.{ℕ}
use native.Mathlib.Omega.{arith}
use mathlib.Core.Path.{◌≡◌, refl, sym, ap, ◌∙◌}
use mathlib.Core.Bool.{Bool, true, false, not}
use mathlib.Core.List.{List, [], ◌∷◌}
use borrow.Author.Tests.{eqb-true, ltb-false}
use lib.Dec.{eqb, ltb, leb}
use lib.ListN.{length}
use Rattle.settings.specs.declared.Settings.{Settings}
use Rattle.settings.specs.Answer.{Rule, ◌⇒◌, judge}
use Rattle.settings.specs.Quorum.{largest, replicas}
use Rattle.settings.specs.Opening.{opening_rules, leader_rules, bad_leaders, in_turn}
use Rattle.settings.proofs.Leaders.{in_turn_good}
use Rattle.wire.specs.Content.{Content, vote, commit, certificate, timeout, proposal, block, release, content, by_block, by_timeouts}
use Rattle.wire.specs.Shape.{shape_rules}
use Rattle.wire.specs.Fit.{All}
use Rattle.memory.specs.Layout.{settings_of, leaders_of}
use Rattle.memory.specs.Leaders.{by_list, round_robin}
use Rattle.memory.proofs.Leading.{in_turn_is}
use Rattle.protocol.specs.Work.{Work, n}
use Rattle.protocol.specs.Refusals.{region_rules, refusals, propose_rules}
use Rattle.protocol.specs.Rules.{settle}
use Rattle.protocol.specs.Events.{on_record, on_propose}
use Rattle.protocol.specs.Contents.{too_long_rule, record_digest_rule, right_before, record_place, propose_place, propose_digest_rule}
use Rattle.protocol.specs.Calls.{Replica, begin, ◌then◌, length_rules, record_core_with, propose_core_with, opening_core, Outcome, outcome, record_call_with, propose_call_with}
use Rattle.protocol.specs.OneCall.{Call, receive, timer, propose, call_on, left, Handing, HandingTyped, outcomes}
use Rattle.protocol.specs.AsBefore.{opened_with, OpensAsBefore, CallsAsBefore}
use Rattle.protocol.proofs.call.OneCall.{RegularReplica, call_keeps, call_same, opening_accepted}

-- ---- THE OPENING
-- where n is the settings' and at most 32, opening takes the list; elsewhere a rule before it refuses by 1 already
pub opens_as_before : OpensAsBefore
unfolding opening_core opening_rules leader_rules judge
opens_as_before r f c k n own = go (eqb n (replicas s)) refl (ltb largest n) refl
  where
    s : Settings
    s = record { f = f; c = c; k = k }

    W : Work
    W = opened_with r s own (in_turn n)

    rest : List Rule
    rest = leb n own ⇒ 1 ∷ []

    go : (p : Bool) → eqb n (replicas s) ≡ p → (q : Bool) → ltb largest n ≡ q
        → judge ((not p ⇒ 1 ∷ q ⇒ 1 ∷ rest) then (bad_leaders n (in_turn n) ⇒ 1 ∷ []) then length_rules r) W ≡ judge ((not p ⇒ 1 ∷ q ⇒ 1 ∷ rest) then length_rules r) W
    go false a q b = refl
    go true a true b = refl
    go true a false b = let e = eqb-true n (replicas s) a in let h = ltb-false largest n b in rw (in_turn_good n (omega (arith, e)) (omega (arith, h)))

-- ---- THE CALLS
-- the memory holds the list 0 to n - 1
abbrev Led : Replica → Type 0
Led r = leaders_of r.memory ≡ in_turn (replicas (settings_of r.memory))

refusals_same : (r : Replica) → Led r → (bytes : List ℕ) (x : Content) → refusals (begin r) by_list bytes x ≡ refusals (begin r) round_robin bytes x
unfolding refusals
refusals_same r e bytes (vote j v x) = refl
refusals_same r e bytes (commit j v x) = refl
refusals_same r e bytes (certificate j (by_block v x g)) = refl
refusals_same r e bytes (certificate j (by_timeouts v ts)) = refl
refusals_same r e bytes (timeout t) = refl
refusals_same r e bytes (proposal j v x y h k) = rw (in_turn_is r.memory e v)
refusals_same r e bytes (block j x y h) = refl
refusals_same r e bytes (release j v x h) = refl

propose_same : (r : Replica) → Led r → (x : List ℕ) → propose_rules (begin r) by_list x ≡ propose_rules (begin r) round_robin x
unfolding propose_rules
propose_same r e x = rw (in_turn_is r.memory e r.counters.view.0)

-- each call is the call by 01's rule
pub call_as_before : (r : Replica) (output : List ℕ) (c : Call) → Led r → call_on by_list r output c ≡ call_on round_robin r output c
unfolding record_call_with record_core_with propose_call_with propose_core_with
call_as_before r output (receive bytes c) e =
    let W = begin r in
    let digest = record_digest_rule W (content bytes) c in
    ap (λ (l : List Rule). outcome r output (judge (region_rules W (length output) then too_long_rule c then shape_rules (n W) bytes then right_before record_place digest l) (settle (on_record bytes (content bytes) W))))
    (refusals_same r e bytes (content bytes))
call_as_before r output (timer v) e = refl
call_as_before r output (propose x c) e =
    let W = begin r in
    ap (λ (l : List Rule). outcome r output (judge (region_rules W (length output) then too_long_rule c then right_before propose_place (propose_digest_rule W x c) l) (settle (on_propose x W)))) (propose_same r e x)

calls_led : (r : Replica) (ts : List Handing) → All HandingTyped ts → RegularReplica r → Led r → outcomes by_list r ts ≡ outcomes round_robin r ts
unfolding outcomes All
calls_led r [] h R e = refl
calls_led r (t ∷ ts) h R e =
    let o = call_on by_list r t.output t.call in
    let same = call_same r t.output t.call R.typed h.0 in
    let led : Led (left o) = same.leaders ∙ (e ∙ ap (λ (s : Settings). in_turn (replicas s)) (sym same.settings)) in
    ap (λ (l : List Outcome). o ∷ l) (calls_led (left o) ts h.1 (call_keeps r t.output t.call h.0 R) led)
    ∙ ap (λ (x : Outcome). x ∷ outcomes round_robin (left x) ts) (call_as_before r t.output t.call e)

pub calls_as_before : CallsAsBefore
calls_as_before r f c k n own size b t opened ts h =
    let o = opening_accepted r f c k n own (in_turn n) size b t opened in
    calls_led _ ts h o.regular (o.leader_list ∙ ap in_turn (o.count ∙ ap replicas (sym o.settings)))

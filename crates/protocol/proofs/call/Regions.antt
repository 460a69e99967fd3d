-- Refusal 2 is given for an output region that is too short and for nothing else, by a replica that opening and calls left. Assumes nothing.
use Prim.Native.Nat.{ℕ, ◌≤◌, ◌<◌}
use native.Mathlib.Omega.{arith}
use mathlib.Core.Path.{◌≡◌, refl, sym, ap, ◌∙◌}
use mathlib.Core.Bool.{Bool, true, false, cond}
use mathlib.Core.List.{List, [], ◌∷◌, ◌++◌}
use borrow.Author.Tests.{le-ltb, lt-ltb}
use lib.Dec.{eqb}
use lib.ListN.{length}
use Rattle.settings.specs.Answer.{Answer, accepts, refuses, Rule, judge}
use Rattle.codec.specs.Bytes.{IsBytes}
use Rattle.wire.specs.Content.{Content, vote, commit, certificate, timeout, proposal, block, release, content, by_block, by_timeouts}
use Rattle.wire.specs.Fit.{All}
use Rattle.wire.specs.Shape.{shape_rules}
use Rattle.wire.proofs.Facts.{Quiet}
use Rattle.blocks.specs.declared.Block.{Block}
use Rattle.memory.specs.Layout.{settings_of, own_of, leaders_of}
use Rattle.memory.specs.Leaders.{Leading, by_list}
use Rattle.protocol.specs.Work.{Work, n}
use Rattle.protocol.specs.Typed.{BlockTyped}
use Rattle.protocol.specs.Refusals.{output_length, region_rules, child, refusals, timer_rules, next_block, propose_rules}
use Rattle.protocol.specs.Contents.{Contents, none, given, too_long_rule, digest_rule, record_digest_rule, right_before, record_place, propose_place}
use Rattle.protocol.specs.Calls.{Replica, begin, timer_core, record_core_with, propose_core_with, Outcome, outcome, opening_call, ◌then◌}
use Rattle.protocol.specs.OneCall.{Call, receive, timer, propose, call_on, left, Passes, Handing, HandingTyped, after}
use Rattle.protocol.proofs.Branch.{by_cases}
use Rattle.protocol.proofs.call.Regular.{Regular}
use Rattle.protocol.proofs.call.OneCall.{RegularReplica, regular_regions, regular_passes, core_of, call_is, reply-refuses, calls_keep, calls_same, opening_accepted}

-- ---- rules that do not apply are passed over
pub judge_past : {A : Type 0} (a : A) (rules more : List Rule) → Quiet rules → judge (rules ++ more) a ≡ judge more a
unfolding judge
judge_past a [] more q = refl
judge_past a (r ∷ rules) more q = rw q.0 (judge_past a rules more q.1)

-- ---- rules that give another number
abbrev Other : ℕ → List Rule → Type 0
Other b rules = All (λ (r : Rule). r.number ≡ b → ⊥) rules

module _ {A : Type 0} (a : A) (b : ℕ) where
  judge_other : (rules : List Rule) → Other b rules → judge rules a ≡ refuses b → ⊥
  unfolding judge All
  judge_other [] h e = let z : ◌≡◌ {A = ℕ} 0 1 = cc in omega arith
  judge_other (r ∷ rules) h e = go r.test (judge_other rules h.1) e
    where
      go : (t : Bool) → (judge rules a ≡ refuses b → ⊥) → cond t (refuses r.number) (judge rules a) ≡ refuses b → ⊥
      go true f g = h.0 (let z : r.number ≡ b = cc in z)
      go false f g = f g

  judge_quiet : (rules more : List Rule) → Quiet rules → Other b more → judge (rules ++ more) a ≡ refuses b → ⊥
  judge_quiet rules more q h e = judge_other more h (sym (judge_past a rules more q) ∙ e)

other_append : (b : ℕ) (s t : List Rule) → Other b s → Other b t → Other b (s ++ t)
unfolding All
other_append b [] t p q = q
other_append b (r ∷ s) t p q = (p.0, other_append b s t p.1 q)

refusals_other : (W : Work) (lead : Leading) (r : List ℕ) (x : Content) → Other 2 (refusals W lead r x)
unfolding refusals All
refusals_other W lead r (vote j v x) = omega arith
refusals_other W lead r (commit j v x) = omega arith
refusals_other W lead r (certificate j (by_block v x g)) = omega arith
refusals_other W lead r (certificate j (by_timeouts v ts)) = omega arith
refusals_other W lead r (timeout t) = omega arith
refusals_other W lead r (proposal j v x y h k) = omega arith
refusals_other W lead r (block j x y h) = omega arith
refusals_other W lead r (release j v x h) = omega arith

shape_other : (k : ℕ) (r : List ℕ) → Other 2 (shape_rules k r)
unfolding All
shape_other k r = omega arith

timer_other : (W : Work) (v : ℕ) → Other 2 (timer_rules W v)
unfolding timer_rules All
timer_other W v = omega arith

propose_other : (W : Work) (lead : Leading) (x : List ℕ) → Other 2 (propose_rules W lead x)
unfolding propose_rules All
propose_other W lead x = omega arith

-- of contents
too_long_other : (c : Contents) → Other 2 (too_long_rule c)
unfolding All
too_long_other none = tt
too_long_other (given s) = omega arith

digest_other : (b : Block) (c : Contents) → Other 2 (digest_rule b c)
unfolding All
digest_other b none = tt
digest_other b (given s) = omega arith

record_digest_other : (W : Work) (q : Content) (c : Contents) → Other 2 (record_digest_rule W q c)
unfolding All
record_digest_other W (vote j v x) c = tt
record_digest_other W (commit j v x) c = tt
record_digest_other W (certificate j k) c = tt
record_digest_other W (timeout t) c = tt
record_digest_other W (proposal j v x y h k) c = digest_other (child W x y h) c
record_digest_other W (block j x y h) c = digest_other (child W x y h) c
record_digest_other W (release j v x h) c = tt

before_other : (k a : ℕ) (new rules : List Rule) → Other k new → Other k rules → Other k (right_before a new rules)
unfolding All right_before
before_other k a new [] p q = p
before_other k a new (r ∷ rules) p q =
    by_cases (Other k) (eqb r.number a) _ _ (λ e. other_append k new (r ∷ rules) p q) (λ e. (q.0, before_other k a new rules p q.1))

-- ---- a regular replica
core_never : (r : Replica) (room : ℕ) (c : Call) → RegularReplica r → output_length ≤ room → core_of r room c ≡ refuses 2 → ⊥
unfolding core_of record_core_with timer_core propose_core_with
core_never r room (receive bytes c) R h e =
    let W = begin r in
    let late = before_other 2 record_place _ _ (record_digest_other W (content bytes) c) (refusals_other W by_list bytes (content bytes)) in
    judge_quiet _ 2 (region_rules W room) _ (regular_regions W room R h) (other_append 2 (too_long_rule c) _ (too_long_other c) (other_append 2 (shape_rules (n W) bytes) _ (shape_other (n W) bytes) late)) e
core_never r room (timer v) R h e = judge_quiet _ 2 (region_rules (begin r) room) _ (regular_regions (begin r) room R h) (timer_other (begin r) v) e
core_never r room (propose x c) R h e =
    let W = begin r in
    let late = before_other 2 propose_place _ _ (digest_other (next_block W x) c) (propose_other W by_list x) in
    judge_quiet _ 2 (region_rules W room) _ (regular_regions W room R h) (other_append 2 (too_long_rule c) _ (too_long_other c) late) e

pub never_two : (r : Replica) (output : List ℕ) (c : Call) → RegularReplica r → output_length ≤ length output → (call_on by_list r output c).reply ≡ refuses 2 → ⊥
never_two r output c R h e =
    core_never r (length output) c R h (reply-refuses r output (core_of r (length output) c) 2 (sym (ap (λ (o : Outcome). o.reply) (call_is r output c)) ∙ e))

-- a region that is too short is refused
short_judge : {A : Type 0} (a : A) (W : Work) (room : ℕ) (more : List Rule) → Regular W → room < output_length → judge (region_rules W room then more) a ≡ refuses 2
unfolding judge region_rules
short_judge a W room more R h = rw (le-ltb _ _ R.memory_long, le-ltb _ _ R.store_long, lt-ltb _ _ h)

short_core : (r : Replica) (room : ℕ) (c : Call) → RegularReplica r → room < output_length → core_of r room c ≡ refuses 2
unfolding core_of record_core_with timer_core propose_core_with
short_core r room (receive bytes c) R h = short_judge _ (begin r) room _ R h
short_core r room (timer v) R h = short_judge _ (begin r) room _ R h
short_core r room (propose x c) R h = short_judge _ (begin r) room _ R h

pub short_two : (r : Replica) (output : List ℕ) (c : Call) → RegularReplica r → length output < output_length → (call_on by_list r output c).reply ≡ refuses 2
unfolding outcome
short_two r output c R h = ap (λ (o : Outcome). o.reply) (call_is r output c) ∙ ap (λ (a : Answer Work). (outcome r output a).reply) (short_core r (length output) c R h)

-- ---- what an accepted opening and calls left, whatever the regions that it was opened over
module _ (r : Replica) (f c k n own : ℕ) (leaders : List ℕ) (size : ℕ) (b : IsBytes r.memory) (t : All BlockTyped r.store) (opened : (opening_call r f c k n own leaders).reply ≡ accepts size) where
  pub run_regular : (ts : List Handing) → All HandingTyped ts → RegularReplica (after by_list (left (opening_call r f c k n own leaders)) ts)
  run_regular ts h = calls_keep _ ts h (opening_accepted r f c k n own leaders size b t opened).regular

  pub run_passes : (ts : List Handing) → All HandingTyped ts → Passes (after by_list (left (opening_call r f c k n own leaders)) ts)
  run_passes ts h = regular_passes _ (run_regular ts h)

  pub run_never_two : (ts : List Handing) → All HandingTyped ts → (output : List ℕ) (x : Call) → output_length ≤ length output
      → (call_on by_list (after by_list (left (opening_call r f c k n own leaders)) ts) output x).reply ≡ refuses 2 → ⊥
  run_never_two ts h output x = never_two _ output x (run_regular ts h)

  -- it keeps the settings, the own number and the leader list that it was opened with
  pub run_settings : (ts : List Handing) → All HandingTyped ts → settings_of (after by_list (left (opening_call r f c k n own leaders)) ts).memory ≡ record { f = f; c = c; k = k }
  run_settings ts h = let o = opening_accepted r f c k n own leaders size b t opened in (calls_same _ ts h o.regular).settings ∙ o.settings

  pub run_own : (ts : List Handing) → All HandingTyped ts → own_of (after by_list (left (opening_call r f c k n own leaders)) ts).memory ≡ own
  run_own ts h = let o = opening_accepted r f c k n own leaders size b t opened in (calls_same _ ts h o.regular).own ∙ o.own_number

  pub run_leaders : (ts : List Handing) → All HandingTyped ts → leaders_of (after by_list (left (opening_call r f c k n own leaders)) ts).memory ≡ leaders
  run_leaders ts h = let o = opening_accepted r f c k n own leaders size b t opened in (calls_same _ ts h o.regular).leaders ∙ o.leader_list

-- THE THEOREMS ABOUT ONE CALL: a refused one changes nothing, an accepted one writes what fits, and refusal 2 is never given for what opening and
-- calls left. Assumes nothing.
use Prim.Native.Nat.{ℕ, ◌+◌, ◌≤◌}
use native.Mathlib.Omega.{arith}
use mathlib.Core.Path.{◌≡◌, refl, sym, ap, ◌∙◌, subst}
use mathlib.Core.Bool.{not}
use mathlib.Core.List.{List, [], ◌∷◌}
use borrow.Author.Tests.{ltb-false, le-ltb, not-false}
use lib.ListN.{length, drop, length-append, length-drop}
use lib.Seq.{drop-append_seam}
use Rattle.settings.specs.declared.Settings.{Settings}
use Rattle.settings.specs.Answer.{Answer, accepts, refuses}
use Rattle.settings.specs.Quorum.{replicas}
use Rattle.codec.specs.Bytes.{IsBytes}
use Rattle.wire.specs.Content.{content}
use Rattle.wire.specs.Fit.{IsName, IsU64, All}
use Rattle.wire.specs.Shape.{shape_rules}
use Rattle.wire.proofs.Facts.{Quiet, off_judge}
use Rattle.memory.specs.Layout.{settings_of, own_of, leaders_of}
use Rattle.memory.specs.Leaders.{by_list}
use Rattle.protocol.specs.Work.{Work, n}
use Rattle.protocol.specs.Typed.{BlockTyped, Typed}
use Rattle.protocol.specs.Refusals.{output_length, regular, region_rules, refusals}
use Rattle.protocol.specs.Rules.{settle}
use Rattle.protocol.specs.Calls.{Replica, begin, record_core, timer_core, propose_core, record_core_with, propose_core_with, opening_core, Outcome, outcome, timer_call, record_call_with, propose_call_with, opening_call}
use Rattle.protocol.specs.OneCall.{Call, receive, timer, propose, CallTyped, call_on, ReplicaTyped, left, Untouched, Wrote, Same, Passes, Handing, HandingTyped, after}
use Rattle.protocol.proofs.call.Regular.{Regular, Still, regular_rules, rules_regular, regular_after, still_trans}
use Rattle.protocol.proofs.call.Actions.{same_still}
use Rattle.protocol.proofs.loop.Settle.{settle_regular}
use Rattle.protocol.proofs.call.Output.{settle_room, settle_out}
use Rattle.protocol.proofs.call.Proposals.{Done}
use Rattle.protocol.proofs.call.Events.{event_room, record_done, timer_done, propose_done}
use Rattle.protocol.proofs.call.Contents.{quiet_append, record_checked, propose_checked}
use Rattle.protocol.proofs.call.Opening.{Openable, opened_work, opening_accepts, length_opened, opened_regular, opened_settings, opened_own, opened_leaders}

-- ---- the outcome, of any call
pub outcome_refused : (r : Replica) (output : List ℕ) (core : Answer Work) (a : ℕ) → core ≡ refuses a → Untouched r output a (outcome r output core)
unfolding outcome
outcome_refused r output core a e = rw e (record { reply = refl; replica = refl; region = refl })

pub outcome_accepted : (r : Replica) (output : List ℕ) (core : Answer Work) (W : Work) → core ≡ accepts W → length W.out ≤ output_length → output_length ≤ length output
    → Wrote output (length W.out) (outcome r output core)
unfolding outcome
outcome_accepted r output core W e fits room =
    rw e
    (record {
      fits = fits;
      size = omega (arith, length-append W.out (drop (length W.out) output), length-drop (length W.out) output);
      stays = drop-append_seam W.out (drop (length W.out) output);
    })

-- the reply says what the core said
pub reply-refuses : (r : Replica) (output : List ℕ) (core : Answer Work) (a : ℕ) → (outcome r output core).reply ≡ refuses a → core ≡ refuses a
unfolding outcome
reply-refuses r output (accepts W) a e = absurd (let z : ◌≡◌ {A = ℕ} 0 1 = cc in omega arith)
reply-refuses r output (refuses b) a e = ap refuses (let z : b ≡ a = cc in z)

pub reply-accepts : (r : Replica) (output : List ℕ) (core : Answer Work) (k : ℕ) → (outcome r output core).reply ≡ accepts k
    → (W : Work) × (core ≡ accepts W) × (length W.out ≡ k) × (left (outcome r output core) ≡ record { counters = W.counters; memory = W.memory; store = W.store })
unfolding outcome
reply-accepts r output (accepts W) k e = (W, refl, let z : length W.out ≡ k = cc in z, refl)
reply-accepts r output (refuses b) k e = absurd (let z : ◌≡◌ {A = ℕ} 0 1 = cc in omega arith)

-- ---- refusal 2
pub regions_regular : (W : Work) (room : ℕ) → Typed W → Quiet (region_rules W room) → Regular W × (output_length ≤ room)
unfolding region_rules
regions_regular W room t q =
    (rules_regular W t (ltb-false _ _ q.0) (ltb-false _ _ q.1.0) (not-false _ q.1.1.1.0), ltb-false _ _ q.1.1.0)

pub regular_regions : (W : Work) (room : ℕ) → Regular W → output_length ≤ room → Quiet (region_rules W room)
unfolding region_rules
regular_regions W room R h = (le-ltb _ _ R.memory_long, (le-ltb _ _ R.store_long, (le-ltb _ _ h, (ap not (regular_rules W R), tt))))

-- ---- what an accepted core leaves
pub record Finished (r : Replica) (room : ℕ) (W : Work) : Type 0 where
  pub regular : Regular W
  pub still : Still (begin r) W
  pub most : length W.out ≤ event_room + settle_room
  pub fits : length W.out ≤ output_length
  pub enough : output_length ≤ room

settled : (r : Replica) (room : ℕ) (W : Work) → output_length ≤ room → Done event_room (begin r) W → Finished r room (settle W)
settled r room W h d =
    let s = settle_regular W d.regular in
    let most : length (settle W).out ≤ event_room + settle_room = omega (arith, settle_out W d.regular, d.written) in
    record { regular = s.0; still = still_trans (begin r) W _ d.still s.1; most = most; fits = omega arith; enough = h }

pub record_finished : (r : Replica) (room : ℕ) (bytes : List ℕ) (W : Work) → ReplicaTyped r → IsBytes bytes → record_core by_list r room bytes ≡ accepts W → Finished r room W
unfolding record_core
record_finished r room bytes W t b e =
    let W₀ = begin r in
    let j = (off_judge _ _ W).0 e in
    let p = quiet_append (region_rules W₀ room) _ j.0 in
    let q = quiet_append (shape_rules (n W₀) bytes) (refusals W₀ by_list bytes (content bytes)) p.1 in
    let R = regions_regular W₀ room t p.0 in
    subst (Finished r room) j.1 (settled r room _ R.1 (record_done W₀ bytes b q.0 q.1 R.0))

pub timer_finished : (r : Replica) (room v : ℕ) (W : Work) → ReplicaTyped r → IsU64 v → timer_core r room v ≡ accepts W → Finished r room W
unfolding timer_core
timer_finished r room v W t h e =
    let W₀ = begin r in
    let j = (off_judge _ _ W).0 e in
    let p = quiet_append (region_rules W₀ room) _ j.0 in
    let R = regions_regular W₀ room t p.0 in
    subst (Finished r room) j.1 (settled r room _ R.1 (timer_done W₀ v h R.0))

pub propose_finished : (r : Replica) (room : ℕ) (x : List ℕ) (W : Work) → ReplicaTyped r → IsName x → propose_core by_list r room x ≡ accepts W → Finished r room W
unfolding propose_core
propose_finished r room x W t h e =
    let W₀ = begin r in
    let j = (off_judge _ _ W).0 e in
    let p = quiet_append (region_rules W₀ room) _ j.0 in
    let R = regions_regular W₀ room t p.0 in
    subst (Finished r room) j.1 (settled r room _ R.1 (propose_done W₀ x h p.1 R.0))

-- ---- THE CALLS
unfoldable pub core_of : Replica → ℕ → Call → Answer Work
core_of r room (receive bytes c) = record_core_with by_list r room bytes c
core_of r room (timer v) = timer_core r room v
core_of r room (propose x c) = propose_core_with by_list r room x c

pub call_is : (r : Replica) (output : List ℕ) (c : Call) → call_on by_list r output c ≡ outcome r output (core_of r (length output) c)
unfolding core_of record_call_with timer_call propose_call_with
call_is r output (receive bytes c) = refl
call_is r output (timer v) = refl
call_is r output (propose x c) = refl

finished : (r : Replica) (room : ℕ) (c : Call) (W : Work) → ReplicaTyped r → CallTyped c → core_of r room c ≡ accepts W → Finished r room W
unfolding core_of
finished r room (receive bytes c) W t h e = record_finished r room bytes W t h (record_checked by_list r room bytes c W e).accepted
finished r room (timer v) W t h e = timer_finished r room v W t h e
finished r room (propose x c) W t h e = propose_finished r room x W t h (propose_checked by_list r room x c W e).accepted

-- "refused": everything is as it was
pub call_refused : (r : Replica) (output : List ℕ) (c : Call) (a : ℕ) → (call_on by_list r output c).reply ≡ refuses a → Untouched r output a (call_on by_list r output c)
call_refused r output c a e =
    let i = call_is r output c in
    rw i (outcome_refused r output _ a (reply-refuses r output (core_of r (length output) c) a (sym (ap (λ (o : Outcome). o.reply) i) ∙ e)))

-- a replica between calls that passes refusal 2
abbrev pub RegularReplica : Replica → Type 0
RegularReplica r = Regular (begin r)

pub regular_passes : (r : Replica) → RegularReplica r → Passes r
regular_passes r R room h = (off_judge (region_rules (begin r) room) tt tt).1 (regular_regions (begin r) room R h, refl)

-- what is written does not matter
pub begin_regular : (W : Work) → Regular W → RegularReplica (record { counters = W.counters; memory = W.memory; store = W.store })
begin_regular W R =
    regular_after W _ R (same_still W _ refl refl) (record { counters = R.typed.counters; memory = R.typed.memory; store = R.typed.store })
    R.view_first R.view_last R.room R.entry

-- "accepted": what is written fits and the bytes after it stay; the state is typed and passes refusal 2; settings, own number, leader list and lengths stay
pub record AcceptedCall (r : Replica) (output : List ℕ) (k : ℕ) (o : Outcome) : Type 0 where
  pub wrote : Wrote output k o
  pub same : Same r (left o)
  pub regular : RegularReplica (left o)

pub call_accepted : (r : Replica) (output : List ℕ) (c : Call) (k : ℕ) → ReplicaTyped r → CallTyped c → (call_on by_list r output c).reply ≡ accepts k → AcceptedCall r output k (call_on by_list r output c)
call_accepted r output c k t h e =
    let i = call_is r output c in
    let core = core_of r (length output) c in
    let (W, is, size, left_is) = reply-accepts r output core k (sym (ap (λ (o : Outcome). o.reply) i) ∙ e) in
    let f = finished r (length output) c W t h is in
    rw i
    (record {
      wrote = rw size at (outcome_accepted r output core W is f.fits f.enough);
      same = subst (Same r) (sym left_is) (record { memory = f.still.memory; store = f.still.store; settings = f.still.settings; own = f.still.own; leaders = f.still.leaders.list });
      regular = subst RegularReplica (sym left_is) (begin_regular W f.regular);
    })

-- the rules of refusal 2 are kept
pub call_keeps : (r : Replica) (output : List ℕ) (c : Call) → CallTyped c → RegularReplica r → RegularReplica (left (call_on by_list r output c))
call_keeps r output c h R = by_reply (call_on by_list r output c).reply refl
  where
    by_reply : (a : Answer ℕ) → (call_on by_list r output c).reply ≡ a → RegularReplica (left (call_on by_list r output c))
    by_reply (accepts k) e = (call_accepted r output c k R.typed h e).regular
    by_reply (refuses a) e = subst RegularReplica (sym (call_refused r output c a e).replica) R

pub call_same : (r : Replica) (output : List ℕ) (c : Call) → ReplicaTyped r → CallTyped c → Same r (left (call_on by_list r output c))
call_same r output c t h = by_reply (call_on by_list r output c).reply refl
  where
    by_reply : (a : Answer ℕ) → (call_on by_list r output c).reply ≡ a → Same r (left (call_on by_list r output c))
    by_reply (accepts k) e = (call_accepted r output c k t h e).same
    by_reply (refuses a) e = subst (Same r) (sym (call_refused r output c a e).replica) (record { memory = refl; store = refl; settings = refl; own = refl; leaders = refl })

-- ---- opening
pub opening_refused : (r : Replica) (f c k n own : ℕ) (leaders : List ℕ) (a : ℕ) → (opening_call r f c k n own leaders).reply ≡ refuses a → Untouched r [] a (opening_call r f c k n own leaders)
unfolding opening_call
opening_refused r f c k n own leaders a e = outcome_refused r [] _ a (reply-refuses r [] (opening_core r f c k n own leaders) a e)

-- the numbers and the list given, and what they say; the state passes refusal 2 and has them; nothing is written
pub record AcceptedOpening (r : Replica) (f c k n own : ℕ) (leaders : List ℕ) (size : ℕ) (o : Outcome) : Type 0 where
  pub count : n ≡ replicas (record { f = f; c = c; k = k })
  pub openable : Openable (record { f = f; c = c; k = k }) own leaders
  pub none : size ≡ 0
  pub settings : settings_of o.memory ≡ record { f = f; c = c; k = k }
  pub own_number : own_of o.memory ≡ own
  pub leader_list : leaders_of o.memory ≡ leaders
  pub memory : length o.memory ≡ length r.memory
  pub store : o.store ≡ r.store
  pub region : o.output ≡ []
  pub regular : RegularReplica (left o)

pub opening_accepted : (r : Replica) (f c k n own : ℕ) (leaders : List ℕ) (size : ℕ) → IsBytes r.memory → All BlockTyped r.store
    → (opening_call r f c k n own leaders).reply ≡ accepts size → AcceptedOpening r f c k n own leaders size (opening_call r f c k n own leaders)
unfolding opening_call outcome
opening_accepted r f c k n own leaders size b t e =
    let s : Settings = record { f = f; c = c; k = k } in
    let core = opening_core r f c k n own leaders in
    let (W, is, len, left_is) = reply-accepts r [] core size e in
    let o = opening_accepts r f c k n own leaders W is in
    let here : core ≡ accepts (opened_work r.memory r.store s own leaders) = is ∙ ap accepts o.left in
    rw here
    (record {
      count = o.count;
      openable = o.openable;
      none = sym len ∙ ap (λ (W₀ : Work). length W₀.out) o.left;
      settings = opened_settings r.memory s own leaders o.openable o.memory;
      own_number = opened_own r.memory s own leaders o.openable o.memory;
      leader_list = opened_leaders r.memory s own leaders o.openable o.memory;
      memory = length_opened r.memory s own leaders;
      store = refl;
      region = refl;
      regular = opened_regular r.memory r.store s own leaders o.openable b t o.memory o.store;
    })

-- ---- calls one after another: the state stays regular, whatever the regions and whatever is refused
pub calls_keep : (r : Replica) (ts : List Handing) → All HandingTyped ts → RegularReplica r → RegularReplica (after by_list r ts)
unfolding after All
calls_keep r [] h R = R
calls_keep r (t ∷ ts) h R = calls_keep (left (call_on by_list r t.output t.call)) ts h.1 (call_keeps r t.output t.call h.0 R)

pub calls_same : (r : Replica) (ts : List Handing) → All HandingTyped ts → RegularReplica r → Same r (after by_list r ts)
unfolding after All
calls_same r [] h R = record { memory = refl; store = refl; settings = refl; own = refl; leaders = refl }
calls_same r (t ∷ ts) h R =
    let a = call_same r t.output t.call R.typed h.0 in
    let b = calls_same (left (call_on by_list r t.output t.call)) ts h.1 (call_keeps r t.output t.call h.0 R) in
    record {
      memory = b.memory ∙ a.memory;
      store = b.store ∙ a.store;
      settings = b.settings ∙ a.settings;
      own = b.own ∙ a.own;
      leaders = b.leaders ∙ a.leaders;
    }

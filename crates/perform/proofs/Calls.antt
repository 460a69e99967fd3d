-- THE CALLS as whole, for the caller, at the store that it has: one that is refused leaves everything as it was; of one that is accepted the caller fills the block in
-- and runs rule D as often as there are turns. `record_refused`, `record_taken_lem` and those of propose and timer say that this is the call of `protocol`. Assumes nothing.
use Prim.Native.Nat.{ℕ, zero, suc, ◌^◌, ◌≤◌, ◌<◌}
use native.Mathlib.Omega.{arith}
use mathlib.Core.Path.{◌≡◌, refl, sym, ap, ◌∙◌}
use mathlib.Core.Bool.{Bool}
use mathlib.Core.List.{List}
use lib.ListN.{length, length-append}
use lib.Seq.{length-take-le}
use Rattle.settings.specs.Answer.{Answer, accepts, refuses}
use Rattle.wire.specs.Content.{content}
use Rattle.blocks.specs.declared.Block.{Block}
use Rattle.blocks.specs.Store.{ancestry, releases}
use Rattle.memory.specs.Layout.{block_count_of}
use Rattle.memory.specs.Window.{lowest}
use Rattle.memory.specs.Leaders.{by_list}
use Rattle.protocol.specs.Work.{Work, own, view_now, tip, blocks, held_block, release}
use Rattle.protocol.specs.Refusals.{store_length}
use Rattle.protocol.specs.Events.{on_record, on_timer, on_propose}
use Rattle.protocol.specs.Rules.{lowest_pair, rule_d, again, settle, ballot_views}
use Rattle.protocol.specs.Calls.{Replica, begin, record_core, timer_core, propose_core, Outcome, outcome, record_call, timer_call, propose_call}
use Rattle.refusals.specs.Number.{answer_of}
use Rattle.judge.proofs.Whole.{record_core_lem, propose_core_lem, timer_core_lem}
use Rattle.act.specs.declared.Draft.{Draft}
use Rattle.act.specs.Draft.{work_of, Left, left, left_by}
use Rattle.act.proofs.Advancing.{longer_if}
use Rattle.act.proofs.Steps.{Longer, left_then, work_again, ready_facts}
use Rattle.event.specs.Event.{Always, Asked, Proposable, filled}
use Rattle.event.proofs.Giving.{length_filled}
use Rattle.rules.specs.Phases.{phases}
use Rattle.rules.proofs.Running.{settle_is}
use Rattle.perform.specs.declared.Done.{Done}
use Rattle.perform.specs.Perform.{Completes, Accepted, timer_number, propose_number, record_number}
use Rattle.perform.proofs.Deciding.{timer_room, propose_room, record_room}

-- ---- rule D: nothing is unwritten
d_longer : (W : Work) → Longer W (rule_d W)
unfolding rule_d release
d_longer W =
    let p = lowest_pair (lowest (view_now W)) (ballot_views W) W in
    let b = (held_block W p.name.name).block in
    longer_if W _ _ p.name.some (omega (arith, length-append W.out (releases (own W) p.at (ancestry (tip W) (blocks W) b)))) (omega arith)

again_longer : (k : ℕ) (W : Work) → Longer W (again k W)
unfolding again
again_longer zero W = omega arith
again_longer (suc k) W = omega (arith, d_longer W, again_longer k (rule_d W))

-- ---- ANY CALL of a replica, by its number and its event
module _ (number : Work → ℕ) (f : Work → Work) (R : Replica) (o : List ℕ) {core : Answer Work} (is : core ≡ answer_of (number (begin R)) (settle (f (begin R)))) where
  -- refused, it leaves everything as it was
  refusing : (k : ℕ) → k ≡ number (begin R) → (k ≡ 0 → ⊥) → outcome R o core ≡ outcome R o (refuses k)
  unfolding answer_of
  refusing zero e h = absurd (h refl)
  refusing (suc k) e h = ap (outcome R o) (is ∙ ap (λ (i : ℕ). answer_of i (settle (f (begin R)))) (sym e))

  -- accepted, it leaves what rule D leaves after so many turns, from the region o' that the rules A, B and C left
  module _ (given : Work → Type 0) (a : Accepted number given (begin R)) (long : store_length ≤ length R.store) (short : length R.store < 2 ^ 64) {e : Done} {m' o' : List ℕ}
      (p : Completes f given R.counters R.memory o e m' o') where
    abbrev stored : Work
    stored = work_of e.draft m' o' (filled R.store e.placed)

    abbrev before_d : Work
    before_d = phases (f (begin R))

    done_left : left e.draft m' o' (filled R.store e.placed) ≡ left_by before_d o
    done_left = p.leaves R.store short a.asked

    done_work : stored ≡ before_d
    done_work = work_again e.draft m' o' (filled R.store e.placed) before_d o done_left

    -- all rules: A, B and C, and then as many turns of D
    settles : settle (f (begin R)) ≡ again e.turns stored
    settles =
        let s = filled R.store e.placed in
        let few : block_count_of m' ≤ length s = omega (arith, (ready_facts e.draft m' o' p.ready).blocks, length_filled R.store e.placed, long) in
        settle_is (f (begin R)) ∙ ap (λ (X : Work). again (length (blocks X)) X) (sym done_work)
        ∙ ap (λ (k : ℕ). again k stored) (length-take-le (block_count_of m') s few ∙ sym p.turns)

    taking : {d₂ : Draft} {m₂ o₂ : List ℕ} {s₂ : List Block} → left d₂ m₂ o₂ s₂ ≡ left_by (again e.turns stored) o'
        → outcome R o core ≡ record { reply = accepts d₂.at; counters = d₂.counters; memory = m₂; store = s₂; output = o₂ }
    unfolding outcome answer_of
    taking {d₂} {m₂} {o₂} {s₂} turned =
        let all : left d₂ m₂ o₂ s₂ ≡ left_by (again e.turns stored) o =
        left_then (again e.turns) before_d o done_left turned (again_longer e.turns before_d) ∙ ap (λ (X : Work). left_by (again e.turns X) o) (sym done_work) in
        ap (outcome R o) (is ∙ ap (λ (i : ℕ). answer_of i (settle (f (begin R)))) a.accepted ∙ ap accepts settles)
        ∙ sym (ap (λ (l : Left). record { reply = accepts l.at; counters = l.counters; memory = l.memory; store = l.store; output = l.output }) all)

-- ---- each call: refused, or accepted
module _ (R : Replica) (o : List ℕ) where
  abbrev in_hand : Draft → List ℕ → List ℕ → List Block → Outcome
  in_hand d₂ m₂ o₂ s₂ = record { reply = accepts d₂.at; counters = d₂.counters; memory = m₂; store = s₂; output = o₂ }

  -- what is handed on to rule D, and what it leaves
  abbrev Turned : Done → List ℕ → List ℕ → Draft → List ℕ → List ℕ → List Block → Type 0
  Turned e m' o' d₂ m₂ o₂ s₂ = left d₂ m₂ o₂ s₂ ≡ left_by (again e.turns (work_of e.draft m' o' (filled R.store e.placed))) o'

  module _ (r : List ℕ) where
    core_record : record_core by_list R (length o) r ≡ answer_of (record_number (length o) r (begin R)) (settle (on_record r (content r) (begin R)))
    unfolding record_number
    core_record = record_core_lem R (length o) r

    pub record_refused : (k : ℕ) → k ≡ record_number (length o) r (begin R) → (k ≡ 0 → ⊥) → record_call by_list R o r ≡ outcome R o (refuses k)
    unfolding record_call
    record_refused = refusing (record_number (length o) r) (on_record r (content r)) R o core_record

    pub record_taken_lem : (t : Bool) → Accepted (record_number (length o) r) (Asked r t) (begin R) → length R.store < 2 ^ 64 → {e : Done} {m' o' : List ℕ}
        → Completes (on_record r (content r)) (Asked r t) R.counters R.memory o e m' o' → {d₂ : Draft} {m₂ o₂ : List ℕ} {s₂ : List Block} → Turned e m' o' d₂ m₂ o₂ s₂
        → record_call by_list R o r ≡ in_hand d₂ m₂ o₂ s₂
    unfolding record_call
    record_taken_lem t a short p x = taking (record_number (length o) r) (on_record r (content r)) R o core_record (Asked r t) a (record_room (length o) r (begin R) a.accepted) short p x

  module _ (x : List ℕ) where
    core_propose : propose_core by_list R (length o) x ≡ answer_of (propose_number (length o) x (begin R)) (settle (on_propose x (begin R)))
    unfolding propose_number
    core_propose = propose_core_lem R (length o) x

    pub propose_refused : (k : ℕ) → k ≡ propose_number (length o) x (begin R) → (k ≡ 0 → ⊥) → propose_call by_list R o x ≡ outcome R o (refuses k)
    unfolding propose_call
    propose_refused = refusing (propose_number (length o) x) (on_propose x) R o core_propose

    pub propose_taken_lem : (h : ℕ) → Accepted (propose_number (length o) x) (Proposable x h) (begin R) → length R.store < 2 ^ 64 → {e : Done} {m' o' : List ℕ}
        → Completes (on_propose x) (Proposable x h) R.counters R.memory o e m' o' → {d₂ : Draft} {m₂ o₂ : List ℕ} {s₂ : List Block} → Turned e m' o' d₂ m₂ o₂ s₂
        → propose_call by_list R o x ≡ in_hand d₂ m₂ o₂ s₂
    unfolding propose_call
    propose_taken_lem h a short p y = taking (propose_number (length o) x) (on_propose x) R o core_propose (Proposable x h) a (propose_room (length o) x (begin R) a.accepted) short p y

  module _ (v : ℕ) where
    core_timer : timer_core R (length o) v ≡ answer_of (timer_number (length o) v (begin R)) (settle (on_timer v (begin R)))
    unfolding timer_number
    core_timer = timer_core_lem R (length o) v

    pub timer_refused : (k : ℕ) → k ≡ timer_number (length o) v (begin R) → (k ≡ 0 → ⊥) → timer_call R o v ≡ outcome R o (refuses k)
    unfolding timer_call
    timer_refused = refusing (timer_number (length o) v) (on_timer v) R o core_timer

    pub timer_taken_lem : Accepted (timer_number (length o) v) Always (begin R) → length R.store < 2 ^ 64 → {e : Done} {m' o' : List ℕ}
        → Completes (on_timer v) Always R.counters R.memory o e m' o' → {d₂ : Draft} {m₂ o₂ : List ℕ} {s₂ : List Block} → Turned e m' o' d₂ m₂ o₂ s₂
        → timer_call R o v ≡ in_hand d₂ m₂ o₂ s₂
    unfolding timer_call
    timer_taken_lem a short p y = taking (timer_number (length o) v) (on_timer v) R o core_timer Always a (timer_room (length o) v (begin R) a.accepted) short p y

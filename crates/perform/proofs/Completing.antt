-- An event and then the rules: what is ready between them, and what both leave. Assumes nothing.
use Prim.Native.Nat.{ℕ, ◌+◌, ◌^◌, ◌≤◌, ◌<◌}
use native.Mathlib.Omega.{arith}
use mathlib.Core.Path.{◌≡◌, refl, sym, ◌∙◌}
use mathlib.Core.List.{List}
use borrow.Author.Tests.{ltb-false, not-false}
use lib.ListN.{length}
use Rattle.codec.specs.Bytes.{IsBytes}
use Rattle.wire.specs.Fit.{IsU64}
use Rattle.blocks.specs.declared.Block.{Block}
use Rattle.memory.specs.Layout.{memory_length, block_count_of}
use Rattle.counters.specs.declared.Counters.{Counters}
use Rattle.protocol.specs.Work.{Work}
use Rattle.protocol.specs.Events.{on_timer}
use Rattle.protocol.specs.Refusals.{store_length, output_length, regular, region_rules, timer_rules}
use Rattle.protocol.specs.Typed.{CountersTyped}
use Rattle.protocol.proofs.call.Proposals.{Done}
use Rattle.protocol.proofs.call.Events.{event_room, timer_done}
use Rattle.refusals.specs.Number.{first_of}
use Rattle.refusals.specs.Early.{lent}
use Rattle.refusals.proofs.Numbers.{passes, first_then, else_both}
use Rattle.judge.proofs.Wants.{regions_numbered}
use Rattle.act.specs.declared.Draft.{Draft}
use Rattle.act.specs.Draft.{work_of, Does, Ready}
use Rattle.act.proofs.Steps.{empty_store, ready_regular, ready_next, written_at}
use Rattle.event.specs.declared.Event.{Event}
use Rattle.event.specs.Event.{Gives, Always}
use Rattle.event.proofs.Giving.{gives_then, gives_ready}
use Rattle.rules.specs.Phases.{phases}
use Rattle.rules.proofs.Running.{phases_keep, phases_longer}
use Rattle.perform.specs.declared.Done as own
use Rattle.perform.specs.Perform.{fresh, rules_room, releases_room, call_room, Completes, Lent, Accepted, timer_number}

-- ---- the rules leave room for rule D
pub run_ready : {d d₁ : Draft} {m m₁ o o₁ : List ℕ} → Ready d m o (rules_room + releases_room) → CountersTyped d.counters → IsBytes m → Does phases d m o d₁ m₁ o₁ → Ready d₁ m₁ o₁ releases_room
run_ready {d} {m = m} {o = o} r t b a =
    let p = phases_keep (work_of d m o empty_store) (ready_regular d m o r t b) in ready_next phases rules_room releases_room a r p.0 p.1 (omega arith)

-- ---- an event, by the replica that it leaves at one store of which `given` holds
module _ (f : Work → Work) (given : Work → Type 0) {d : Draft} {m m₁ o o₁ : List ℕ} {e : Event} (a : Gives f given d m o e m₁ o₁) where
  pub event_ready : (s : List Block) → length s < 2 ^ 64 → given (work_of d m o s) → Ready d m o call_room → Done event_room (work_of d m o s) (f (work_of d m o s)) → Ready e.draft m₁ o₁ (rules_room + releases_room)
  event_ready s l g r h =
      gives_ready f given a s l g (rules_room + releases_room) h.regular (omega (arith, h.written, written_at d m o r s, r.room))

-- an event of a fresh call, and then the rules
pub completes : (f : Work → Work) (given : Work → Type 0) {c : Counters} {m m₁ o o₁ : List ℕ} {e : Event} → Gives f given (fresh c) m o e m₁ o₁ → {z : own.Done} {m₂ o₂ : List ℕ}
    → (z.placed ≡ e.placed) × (Does phases e.draft m₁ o₁ z.draft m₂ o₂ × ((z.turns ≡ block_count_of m₂) × Ready z.draft m₂ o₂ releases_room))
    → Completes f given c m o z m₂ o₂
completes f given a x =
    let y = gives_then f phases given a x.1.0 phases_longer in
    record { leaves = λ s l g. rw x.0 (y.leaves s l g); turns = x.1.1.0; ready = x.1.1.1 }

-- ---- the timer
pub timer_ready : (d : Draft) (m o : List ℕ) (v : ℕ) {e : Event} {m₁ o₁ : List ℕ} → IsU64 v → CountersTyped d.counters → IsBytes m → Ready d m o call_room
    → Gives (on_timer v) Always d m o e m₁ o₁ → Ready e.draft m₁ o₁ (rules_room + releases_room)
timer_ready d m o v u t b r a =
    event_ready (on_timer v) Always a empty_store (omega arith) tt r (timer_done (work_of d m o empty_store) v u (ready_regular d m o r t b))

-- ---- past refusal 2 a call is ready, with room for all that it writes before rule D
pub regions_passed : (c : Counters) (m o : List ℕ) (s : List Block) → first_of (region_rules (lent c m s) (length o)) ≡ 0 → Ready (fresh c) m o call_room × (store_length ≤ length s)
unfolding region_rules regular
regions_passed c m o s e =
    let a = passes _ _ refl e in
    let b = passes _ _ refl a.1 in
    let d = passes _ _ refl b.1 in
    let f = passes _ _ refl d.1 in
    (record { long = ltb-false (length m) memory_length a.0; regular = not-false (regular (lent c m s)) f.0; room = omega (arith, ltb-false (length o) output_length d.0) }, ltb-false (length s) store_length b.0)

pub timer_passed : (c : Counters) (m o : List ℕ) (v : ℕ) → Lent (Accepted (timer_number (length o) v) Always) (lent c m) → Ready (fresh c) m o call_room
unfolding timer_number
timer_passed c m o v a =
    let W = lent c m a.store in
    (regions_passed c m o a.store (else_both _ (first_of (timer_rules W v)) (sym (first_then (region_rules W (length o)) (timer_rules W v) (regions_numbered W (length o))) ∙ a.given.accepted)).0).0

-- The number of a call in two steps, and what an accepted one has shown. Assumes nothing.
use Prim.Native.Nat.{ℕ, suc, ◌+◌, ◌≤◌, ◌<◌}
use native.Mathlib.Omega.{arith}
use mathlib.Core.Path.{◌≡◌, refl, sym, ap, ◌∙◌}
use mathlib.Core.Bool.{Bool, true, false, not, ◌&&◌, ◌||◌, true≢false}
use mathlib.Core.List.{List, ◌++◌}
use borrow.Author.Tests.{ltb-false}
use lib.Dec.{eqb, ltb}
use lib.ListN.{length}
use Rattle.settings.specs.Answer.{Rule, judge}
use Rattle.settings.specs.Quorum.{last_height}
use Rattle.codec.specs.Bytes.{IsBytes}
use Rattle.wire.specs.Content.{content}
use Rattle.wire.specs.Fit.{IsName}
use Rattle.wire.specs.Shape.{bad_length, shape_rules}
use Rattle.wire.proofs.Frames.{whole_header}
use Rattle.wire.proofs.Facts.{Quiet, off_judge}
use Rattle.blocks.specs.declared.Block.{Block}
use Rattle.blocks.specs.Store.{Found}
use Rattle.memory.specs.Layout.{entry_room, block_count_of}
use Rattle.counters.specs.declared.Counters.{Counters}
use Rattle.memory.specs.Leaders.{by_list}
use Rattle.protocol.specs.Work.{Work, n, held_block}
use Rattle.protocol.specs.Events.{on_record, on_propose}
use Rattle.protocol.specs.Refusals.{store_length, region_rules, refusals, timer_rules, propose_rules, is_held, misplaced, next_block}
use Rattle.protocol.specs.Typed.{CountersTyped}
use Rattle.protocol.proofs.call.Proposals.{room_free}
use Rattle.protocol.proofs.call.Contents.{quiet_append}
use Rattle.refusals.specs.Number.{answer_of, first_of, or_else}
use Rattle.refusals.specs.Early.{lent}
use Rattle.std.specs.Prelude.{Result, Ok, Err, IfOk}
use Rattle.settings.specs.declared.refusal.Refusal.{Refusal}
use Rattle.settings.specs.declared.Height.{Height}
use Rattle.settings.specs.Refusal.{number, refused}
use Rattle.refusals.proofs.Numbers.{some_number, else_some, else_none, else_both}
use Rattle.judge.specs.declared.Want.{Want}
use Rattle.judge.specs.Want.{Wanted, wanted, accepted, asked, record_want, propose_want}
use Rattle.judge.specs.Late.{looked_up, late_rules, late_propose, record_late, propose_late}
use Rattle.judge.proofs.Whole.{record_judged_lem, record_passed, record_whole, propose_judged_lem, propose_passed, timer_judged_lem}
use Rattle.act.specs.declared.Draft.{Draft}
use Rattle.act.specs.Draft.{work_of, Ready}
use Rattle.act.proofs.Steps.{ready_less}
use Rattle.event.specs.declared.Event.{Event}
use Rattle.event.specs.Event.{Gives, Asked, Taken, Proposable, safe_of_entry}
use Rattle.event.proofs.Passing.{passed_taken}
use Rattle.event.proofs.Records.{content-proposal, content-block}
use Rattle.perform.specs.Perform.{fresh, rules_room, releases_room, call_room, Lent, Accepted, Judges, timer_number, propose_number, ProposeFound, record_number, RecordFound}
use Rattle.perform.proofs.Storing.{propose_witness, record_witness}
use Rattle.perform.proofs.Completing.{event_ready, regions_passed}

-- ---- where the number is 0 no rule applies
quiet_of : (rules : List Rule) (k : ℕ) → ((a : ℕ) → judge rules a ≡ answer_of k a) → k ≡ 0 → Quiet rules
unfolding answer_of
quiet_of rules k h e = ((off_judge {A = ℕ} rules 0 0).0 (h 0 ∙ ap (λ (i : ℕ). answer_of i 0) e)).0

store_room : (W : Work) (room : ℕ) → Quiet (region_rules W room) → store_length ≤ length W.store
unfolding region_rules
store_room W room q = ltb-false (length W.store) store_length q.1.0

-- an accepted call has a store of the length that 01 asks
pub timer_room : (room v : ℕ) (W : Work) → timer_number room v W ≡ 0 → store_length ≤ length W.store
unfolding timer_number
timer_room room v W e = store_room W room (quiet_append (region_rules W room) (timer_rules W v) (quiet_of _ _ (λ a. timer_judged_lem W room v a) e)).0

-- ---- what an `Ok` shows
shown : {A : Type 0} (r : Result A Refusal) (P Q : A → Type 0) → ((a : A) → refused r ≡ 0 → P a → Q a) → IfOk r P → IfOk r Q
unfolding refused
shown (Ok a) P Q f h = f a refl h
shown (Err e) P Q f h = h

-- ---- the two parts of a judgement: refused before the store is asked, or by what was found
pub passed_early : {A : Type 0} (l : ℕ) {p : Result Want Refusal} {q : Result A Refusal} {r t : Refusal} → p ≡ Err r → q ≡ Err t → t ≡ r → refused q ≡ or_else (wanted p).refusal l
unfolding wanted refused
passed_early l {p} {q} {r} {t} e f g = rw (e, f, g) (sym (else_some (number r) l (some_number r)))

pub not_early : {p : Result Want Refusal} {w : Want} → p ≡ Ok w → (wanted p).refusal ≡ 0
unfolding wanted
not_early e = rw e

pub judged_late : {p : Result Want Refusal} {w : Want} {k : ℕ} (f : Wanted → ℕ) → p ≡ Ok w → k ≡ f (accepted w) → k ≡ or_else (wanted p).refusal (f (wanted p))
unfolding wanted or_else
judged_late f e h = rw e h

-- ---- refused before the store is asked
pub judges_early : {A : Type 0} (called : Work → ℕ) (such : A → Work → Type 0) (W : Work) (w : Wanted) (l : ℕ) {p : Result Want Refusal} {q : Result A Refusal} {r t : Refusal}
    → called W ≡ or_else w.refusal l → wanted p ≡ w → p ≡ Err r → q ≡ Err t → t ≡ r → Judges called such q W
unfolding wanted refused
judges_early called such W w l {p} {q} {r} {t} m e f g h =
    let first : number r ≡ w.refusal = ap (λ (v : Wanted). v.refusal) (rw f at e) in
    let k : refused q ≡ w.refusal = rw (g, h) first in
    record { is = k ∙ sym (else_some w.refusal l (λ z. some_number r (first ∙ z))) ∙ sym m; shown = rw g tt }

-- ---- propose
module _ (room : ℕ) (x : List ℕ) (W : Work) where
  propose_quiet : propose_number room x W ≡ 0 → Quiet (region_rules W room) × Quiet (propose_rules W by_list x)
  unfolding propose_number
  propose_quiet e = quiet_append (region_rules W room) (propose_rules W by_list x) (quiet_of _ _ (λ a. propose_judged_lem W room x a) e)

  pub propose_room : propose_number room x W ≡ 0 → store_length ≤ length W.store
  propose_room e = store_room W room (propose_quiet e).0

  -- what `on_propose` asks of heights and of the store's room
  propose_fits : (h : ℕ) → propose_number room x W ≡ 0 → Proposable x h W → (h < last_height) × (block_count_of W.memory < store_length)
  unfolding propose_rules safe_of_entry
  propose_fits h e p =
      let q = (propose_quiet e).1 in
      (omega (arith, placed (next_block W x) q.1.1.1.1.0, p.height), room_free W x q.1.1.1.1.1.0 q.1.1.0)
    where
      or_right : (p q : Bool) → (p || q) ≡ false → q ≡ false
      or_right true q e = absurd (true≢false e)
      or_right false q e = e

      placed : (b : Block) → misplaced W b ≡ false → b.height.0 ≤ last_height
      placed b e = ltb-false _ _ (or_right (not (is_held W b.parent && eqb b.height.0 (suc (held_block W b.parent).block.height.0))) (ltb last_height b.height.0) e)

  module _ (w : Wanted) (found under : Found) (g : ProposeFound room x w found under W) where
    propose_number_lem : or_else w.refusal (first_of (late_propose w found under)) ≡ propose_number room x W
    unfolding propose_number propose_late
    propose_number_lem = rw (g.found, g.under, g.want)

    propose_found : w.refusal ≡ 0 → propose_number room x W ≡ 0 → Proposable x under.block.height.0 W
    unfolding propose_rules safe_of_entry
    propose_found e z =
        let q = g.want ∙ (propose_passed W room x (sym (ap (λ (v : Wanted). v.refusal) g.want) ∙ e)).2 in
        record { new = (propose_quiet z).1.1.1.0; height = sym (ap (λ (y : Found). y.block.height.0) (g.under ∙ ap (λ (v : Wanted). looked_up W v v.base) q)) }

    -- a propose is rightly judged
    pub propose_judges : (r : Result Height Refusal) → w.refusal ≡ 0 → refused r ≡ first_of (late_propose w found under) → IfOk r (λ h. h ≡ under.block.height)
        → Judges (propose_number room x) (λ (h : Height). Proposable x h.0) r W
    propose_judges r z e h =
        let n : refused r ≡ propose_number room x W = e ∙ sym (else_none w.refusal _ z) ∙ propose_number_lem in
        record { is = n; shown = shown r _ _ (λ a k b. rw b (propose_found z (sym n ∙ k))) h }

module _ (d : Draft) (m o x : List ℕ) (h : ℕ) (r : Ready d m o call_room) (a : Lent (Accepted (propose_number (length o) x) (Proposable x h)) (work_of d m o)) where
  pub propose_asks : Ready d m o (88 + entry_room + 48) × ((h < last_height) × (block_count_of m < store_length))
  propose_asks = (ready_less d m o _ _ (omega arith) r, propose_fits (length o) x (work_of d m o a.store) h a.given.accepted a.given.asked)

  pub propose_ready : {e : Event} {m₁ o₁ : List ℕ} → IsName x → CountersTyped d.counters → IsBytes m → Gives (on_propose x) (Proposable x h) d m o e m₁ o₁ → Ready e.draft m₁ o₁ (rules_room + releases_room)
  propose_ready i t b y =
      let W = work_of d m o a.store in
      let q = propose_quiet (length o) x W a.given.accepted in
      let z = propose_witness d m o r t b x i h (propose_fits (length o) x W h a.given.accepted a.given.asked).0 a.store a.given.asked q.1 in
      event_ready (on_propose x) (Proposable x h) y z.store z.short z.given r z.done

-- an accepted propose is ready
pub propose_passes : (c : Counters) (m o x : List ℕ) (h : ℕ) → Lent (Accepted (propose_number (length o) x) (Proposable x h)) (lent c m) → Ready (fresh c) m o call_room
unfolding propose_number
propose_passes c m o x h a =
    let W = lent c m a.store in
    (regions_passed c m o a.store (propose_passed W (length o) x (else_both _ (propose_late W (propose_want W (length o) x)) a.given.accepted).0).0).0

-- ---- a record
module _ (room : ℕ) (r : List ℕ) (W : Work) where
  record_quiet : record_number room r W ≡ 0 → Quiet (region_rules W room) × (Quiet (shape_rules (n W) r) × Quiet (refusals W by_list r (content r)))
  unfolding record_number
  record_quiet e =
      let q = quiet_append (region_rules W room) (shape_rules (n W) r ++ refusals W by_list r (content r)) (quiet_of _ _ (λ a. record_judged_lem W room r a) e) in
      (q.0, quiet_append (shape_rules (n W) r) (refusals W by_list r (content r)) q.1)

  pub record_room : record_number room r W ≡ 0 → store_length ≤ length W.store
  record_room e = store_room W room (record_quiet e).0

  module _ (w : Wanted) (found under : Found) (g : RecordFound room r w found under W) where
    record_number_lem : or_else w.refusal (first_of (late_rules w found under (content r))) ≡ record_number room r W
    unfolding record_number record_late
    record_number_lem = rw (g.found, g.under, g.want)

    record_found : w.refusal ≡ 0 → Asked r found.is W
    unfolding asked
    record_found e =
        let q = g.want ∙ (record_passed W room r (sym (ap (λ (v : Wanted). v.refusal) g.want) ∙ e)).3 in
        record {
          proposal = λ k. sym (ap (λ (y : Found). y.is) (g.found ∙ ap (λ (v : Wanted). looked_up W v v.name) (q ∙ ap (asked W.memory) (content-proposal r k))));
          block = λ k. sym (ap (λ (y : Found). y.is) (g.found ∙ ap (λ (v : Wanted). looked_up W v v.name) (q ∙ ap (asked W.memory) (content-block r k))));
        }

    -- what `late_record` asks: what was not refused so far has its shape
    pub record_shaped : w.refusal ≡ 0 → bad_length r ≡ false
    record_shaped e = (record_whole W room r (sym (ap (λ (v : Wanted). v.refusal) g.want) ∙ e)).0

    -- a record is rightly judged
    pub record_judges : (j : Result Bool Refusal) → w.refusal ≡ 0 → refused j ≡ first_of (late_rules w found under (content r)) → IfOk j (λ t. t ≡ found.is)
        → Judges (record_number room r) (Asked r) j W
    record_judges j z e h = record { is = e ∙ sym (else_none w.refusal _ z) ∙ record_number_lem; shown = shown j _ _ (λ a k b. rw b (record_found z)) h }

module _ (d : Draft) (m o r : List ℕ) (t : Bool) (y : Ready d m o call_room) (a : Lent (Accepted (record_number (length o) r) (Asked r t)) (work_of d m o)) (b : IsBytes r) where
  pub record_asks : Ready d m o (entry_room + 48) × ((8 ≤ length r) × Taken m r t)
  record_asks =
      let W = work_of d m o a.store in
      let q = (record_quiet (length o) r W a.given.accepted).1 in
      (ready_less d m o _ _ (omega arith) y, (whole_header r q.0.0, passed_taken W r b q.0 q.1 t a.given.asked))

  pub record_ready : {e : Event} {m₁ o₁ : List ℕ} → CountersTyped d.counters → IsBytes m → Gives (on_record r (content r)) (Asked r t) d m o e m₁ o₁ → Ready e.draft m₁ o₁ (rules_room + releases_room)
  record_ready i j z =
      let W = work_of d m o a.store in
      let q = record_quiet (length o) r W a.given.accepted in
      let g = a.given.asked in
      let x = record_witness d m o y i j r t b a.store g (passed_taken W r b q.1.0 q.1.1 t g) q.1.0 q.1.1 in
      event_ready (on_record r (content r)) (Asked r t) z x.store x.short x.given y x.done

-- an accepted record is ready
pub record_passes : (c : Counters) (m o r : List ℕ) (t : Bool) → Lent (Accepted (record_number (length o) r) (Asked r t)) (lent c m) → Ready (fresh c) m o call_room
unfolding record_number
record_passes c m o r t a =
    let W = lent c m a.store in
    (regions_passed c m o a.store (record_passed W (length o) r (else_both _ (record_late W (record_want W (length o) r) (content r)) a.given.accepted).0).0).0

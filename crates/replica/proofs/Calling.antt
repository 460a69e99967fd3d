-- What the calls hand on from step to step: what `perform` leaves is what rule D asks for, and together they are the calls of protocol. Assumes nothing.
use Prim.Native.Nat.{ℕ, ◌*◌, ◌^◌, ◌≤◌, ◌<◌}
use native.Mathlib.Omega.{arith}
use mathlib.Core.Path.{◌≡◌, refl, sym, ap, ◌∙◌}
use mathlib.Core.Bool.{Bool, cond}
use mathlib.Core.List.{List}
use borrow.Author.Tests.{eq-eqb, ne_eqb}
use Rattle.std.specs.Prelude.{Result, Ok, Err}
use Rattle.std.proofs.lemmas.Result.{IfOk-at_ok}
use Rattle.settings.specs.declared.refusal.Refusal.{Refusal}
use Rattle.settings.specs.declared.Height.{Height}
use Rattle.settings.specs.Refusal.{number, refused, answer}
use Rattle.codec.specs.Names.{zero_name}
use Rattle.refusals.proofs.Numbers.{some_number, refused_none, refused_some}
use Rattle.judge.specs.Want.{Wanted, nothing, wanted}
use lib.Dec.{eqb}
use Rattle.settings.specs.Answer.{Answer, accepts, refuses}
use lib.ListN.{length, take}
use Rattle.wire.specs.Fields.{release_length}
use Rattle.wire.specs.Content.{content}
use Rattle.blocks.specs.declared.Block.{Block}
use Rattle.blocks.specs.Store.{Found}
use Rattle.blocks.proofs.Dropping.{held_within}
use Rattle.memory.specs.Layout.{block_count_of}
use Rattle.counters.specs.declared.Counters.{Counters}
use Rattle.memory.specs.Leaders.{by_list}
use Rattle.protocol.specs.Work.{Work}
use Rattle.protocol.specs.Refusals.{store_length, region_rules, timer_rules}
use Rattle.protocol.specs.Events.{on_record, on_timer, on_propose}
use Rattle.protocol.specs.Rules.{again}
use Rattle.protocol.specs.Contents.{given}
use Rattle.protocol.specs.Calls.{Replica, record_core, propose_core, record_core_with, propose_core_with, Outcome, outcome, record_call, timer_call, propose_call, record_call_with, propose_call_with, ◌then◌}
use Rattle.refusals.specs.Number.{first_of}
use Rattle.refusals.specs.Early.{lent}
use Rattle.judge.specs.declared.Want.{Want}
use Rattle.judge.specs.Late.{looked_up}
use Rattle.judge.specs.Contents.{record_due, propose_want_with, propose_due, propose_refusal}
use Rattle.judge.proofs.Dues.{nothing_due}
use Rattle.judge.proofs.Whole.{record_core_with_lem, propose_core_with_lem}
use Rattle.act.specs.declared.Draft.{Draft}
use Rattle.act.specs.Draft.{work_of, left, left_by}
use Rattle.act.proofs.Steps.{ready_less, ready_facts}
use Rattle.perform.specs.declared.Done.{Done}
use Rattle.event.specs.Event.{Always, Asked, Proposable, filled}
use Rattle.perform.specs.Perform.{Judges, Accepted, Completes, timer_number, propose_number, record_number}
use Rattle.perform.proofs.Calls.{record_refused, record_taken_lem, propose_refused, propose_taken_lem, timer_refused, timer_taken_lem}
use Rattle.replica.specs.declared.Reply.{Reply}
use Rattle.replica.specs.Reply.{reply_of, lent_to, Replied, replied, replied_by, Concludes}

-- after an accepted call rule D may be run as often as is said
pub concludes : {f : Work → Work} {given : Work → Type 0} {c : Counters} {m o : List ℕ} {e : Done} {m' o' : List ℕ} (s : List Block) → Completes f given c m o e m' o' → Concludes e m' o' s
concludes {e = e} {m' = m'} {o' = o'} s a =
    let R = a.ready in
    let fits : release_length * length (take (block_count_of m') (filled s e.placed)) ≤ release_length * store_length =
    omega (arith, (held_within (block_count_of m') (filled s e.placed)).0, (ready_facts e.draft m' o' R).blocks) in
    record {
      few = omega (arith, a.turns, (ready_facts e.draft m' o' R).blocks);
      within = omega (arith, R.room);
      ready = λ _. ready_less e.draft m' o' (release_length * store_length) _ fits R;
    }

-- ---- what was judged, where it is accepted
pub taken : {A : Type 0} {number : Work → ℕ} {such : A → Work → Type 0} {j : Result A Refusal} {a : A} {W : Work} → Judges number such j W → j ≡ Ok a → Accepted number (such a) W
taken {such = such} {W = W} d e = record { accepted = sym d.is ∙ refused_none e; asked = IfOk-at_ok (λ b. such b W) e d.shown }

-- what `?` passes on is replied as its number
pub reply_err : {A : Type 0} {p : Result A Refusal} {q : Result ℕ Refusal} {r t : Refusal} → p ≡ Err r → q ≡ Err t → t ≡ r → reply_of (answer q) ≡ reply_of (refuses (refused p))
unfolding answer refused
reply_err e f g = rw (e, f, g)

pub reply_ok : (k : ℕ) → reply_of (accepts k) ≡ reply_of (answer (Ok k))
unfolding answer
reply_ok k = refl

pub timer_numbered : {k : ℕ} (room v : ℕ) (W : Work) → k ≡ first_of (region_rules W room then timer_rules W v) → k ≡ timer_number room v W
unfolding timer_number
timer_numbered room v W e = e

-- ---- each call, taken or refused
module _ (c : Counters) (m o : List ℕ) (s : List Block) where
  abbrev R : Replica
  R = lent_to c m s

  -- what is replied where a call is refused
  stays : (x : Outcome) (k : ℕ) (r : Reply) → x ≡ outcome R o (refuses k) → r ≡ reply_of (refuses k) → replied r c m s o ≡ replied_by x
  unfolding outcome
  stays x k r e q = rw (e, q)

  pub record_unmade : (b : List ℕ) {j : Result Bool Refusal} {q : Result ℕ Refusal} {r t : Refusal} → Judges (record_number (length o) b) (Asked b) j (lent c m s) → j ≡ Err r → q ≡ Err t → t ≡ r
      → replied (reply_of (answer q)) c m s o ≡ replied_by (record_call by_list R o b)
  record_unmade b a e f g = stays _ _ _ (record_refused R o b _ a.is (refused_some e)) (reply_err e f g)

  pub propose_unmade : (x : List ℕ) {j : Result Height Refusal} {q : Result ℕ Refusal} {r t : Refusal} → Judges (propose_number (length o) x) (λ (h : Height). Proposable x h.0) j (lent c m s) → j ≡ Err r → q ≡ Err t → t ≡ r
      → replied (reply_of (answer q)) c m s o ≡ replied_by (propose_call by_list R o x)
  propose_unmade x a e f g = stays _ _ _ (propose_refused R o x _ a.is (refused_some e)) (reply_err e f g)

  pub timer_unmade : (v : ℕ) {A : Type 0} {j : Result A Refusal} {q : Result ℕ Refusal} {r t : Refusal} → refused j ≡ timer_number (length o) v (lent c m s) → j ≡ Err r → q ≡ Err t → t ≡ r
      → replied (reply_of (answer q)) c m s o ≡ replied_by (timer_call R o v)
  timer_unmade v a e f g = stays _ _ _ (timer_refused R o v _ a (refused_some e)) (reply_err e f g)

  -- after rule D
  module _ (short : length s < 2 ^ 64) (e : Done) (m' o' : List ℕ) (d : Draft) (m₂ o₂ : List ℕ) (s₂ : List Block)
      (turned : left d m₂ o₂ s₂ ≡ left_by (again e.turns (work_of e.draft m' o' (filled s e.placed))) o') (r : Reply) (said : r ≡ reply_of (accepts d.at)) where
    answers : (x : Outcome) → x ≡ record { reply = accepts d.at; counters = d.counters; memory = m₂; store = s₂; output = o₂ } → replied r d.counters m₂ s₂ o₂ ≡ replied_by x
    answers x y = rw said (ap replied_by (sym y))

    pub record_made : (b : List ℕ) (t : Bool) → Accepted (record_number (length o) b) (Asked b t) (lent c m s) → Completes (on_record b (content b)) (Asked b t) c m o e m' o'
        → replied r d.counters m₂ s₂ o₂ ≡ replied_by (record_call by_list R o b)
    record_made b t a p = answers _ (record_taken_lem R o b t a short p turned)

    pub propose_made : (x : List ℕ) (h : ℕ) → Accepted (propose_number (length o) x) (Proposable x h) (lent c m s) → Completes (on_propose x) (Proposable x h) c m o e m' o'
        → replied r d.counters m₂ s₂ o₂ ≡ replied_by (propose_call by_list R o x)
    propose_made x h a p = answers _ (propose_taken_lem R o x h a short p turned)

    pub timer_made : (v : ℕ) → timer_number (length o) v (lent c m s) ≡ 0 → Completes (on_timer v) Always c m o e m' o' → replied r d.counters m₂ s₂ o₂ ≡ replied_by (timer_call R o v)
    timer_made v a p = answers _ (timer_taken_lem R o v (record { accepted = a; asked = tt }) short p turned)

-- ---- a call with contents: the call without them where they refuse nothing, or else what they refuse it by
module _ (c : Counters) (m o : List ℕ) (s : List Block) where
  abbrev L : Replica
  L = lent_to c m s

  -- of the two cores, by the number that contents refuse by
  either : (plain : Answer Work) (with : Answer Work) (i : ℕ) → with ≡ cond (eqb i 0) plain (refuses i) → (i ≡ 0 → outcome L o with ≡ outcome L o plain) × ((i ≡ 0 → ⊥) → outcome L o with ≡ outcome L o (refuses i))
  either plain with i e = (λ z. ap (outcome L o) (rw (eq-eqb i 0 z) at e), λ z. ap (outcome L o) (rw (ne_eqb i 0 z) at e))

  module _ (b k : List ℕ) {A : Type 0} (p : Result A Refusal) (due : refused p ≡ record_due (lent c m s) (length o) b k) where
    record_either : record_core_with by_list L (length o) b (given k) ≡ cond (eqb (refused p) 0) (record_core by_list L (length o) b) (refuses (refused p))
    record_either = record_core_with_lem L (length o) b k ∙ ap (λ (i : ℕ). cond (eqb i 0) (record_core by_list L (length o) b) (refuses i)) (sym due)

    pub record_with_err : {q : Result ℕ Refusal} {r t : Refusal} → p ≡ Err r → q ≡ Err t → t ≡ r → replied (reply_of (answer q)) c m s o ≡ replied_by (record_call_with by_list L o b (given k))
    unfolding record_call_with
    record_with_err e f g = stays c m o s _ _ _ ((either _ _ _ record_either).1 (refused_some e)) (reply_err e f g)

    pub record_with_ok : {x : A} {y : Replied} → p ≡ Ok x → y ≡ replied_by (record_call by_list L o b) → y ≡ replied_by (record_call_with by_list L o b (given k))
    unfolding record_call record_call_with
    record_with_ok e h = h ∙ ap replied_by (sym ((either _ _ _ record_either).0 (refused_none e)))

  module _ (n k : List ℕ) {A : Type 0} (p : Result A Refusal) (due : refused p ≡ propose_refusal (lent c m s) (length o) n k) where
    propose_either : propose_core_with by_list L (length o) n (given k) ≡ cond (eqb (refused p) 0) (propose_core by_list L (length o) n) (refuses (refused p))
    propose_either = propose_core_with_lem L (length o) n k ∙ ap (λ (i : ℕ). cond (eqb i 0) (propose_core by_list L (length o) n) (refuses i)) (sym due)

    pub propose_with_err : {q : Result ℕ Refusal} {r t : Refusal} → p ≡ Err r → q ≡ Err t → t ≡ r → replied (reply_of (answer q)) c m s o ≡ replied_by (propose_call_with by_list L o n (given k))
    unfolding propose_call_with
    propose_with_err e f g = stays c m o s _ _ _ ((either _ _ _ propose_either).1 (refused_some e)) (reply_err e f g)

    pub propose_with_ok : {x : A} {y : Replied} → p ≡ Ok x → y ≡ replied_by (propose_call by_list L o n) → y ≡ replied_by (propose_call_with by_list L o n (given k))
    unfolding propose_call propose_call_with
    propose_with_ok e h = h ∙ ap replied_by (sym ((either _ _ _ propose_either).0 (refused_none e)))

-- what a propose looks up is what it asks
pub propose_refusal_is : (c : Counters) (m : List ℕ) (s : List Block) (room : ℕ) (n k : List ℕ) (w : Wanted) (found under : Found) {due : ℕ} → w ≡ propose_want_with (lent c m s) room n k
    → found ≡ looked_up (lent c m s) w w.name → under ≡ looked_up (lent c m s) w w.base → due ≡ propose_due n w found under k → due ≡ propose_refusal (lent c m s) room n k
unfolding propose_refusal
propose_refusal_is c m s room n k w found under wanted f u e =
    let W = lent c m s in
    e ∙ ap (λ (y : Found). propose_due n w y under k) f ∙ ap (λ (y : Found). propose_due n w (looked_up W w w.name) y k) u ∙ ap (λ (v : Wanted). propose_due n v (looked_up W v v.name) (looked_up W v v.base) k) wanted

-- where nothing is to be looked up, its contents refuse it for their length alone
pub propose_unwanted_is : (c : Counters) (m : List ℕ) (s : List Block) (room : ℕ) (n k : List ℕ) (r : Refusal) {p : Result Want Refusal} {due : ℕ} → wanted p ≡ propose_want_with (lent c m s) room n k → p ≡ Err r
    → due ≡ cond (eqb (number r) 16) 16 0 → due ≡ propose_refusal (lent c m s) room n k
unfolding propose_refusal wanted
propose_unwanted_is c m s room n k r {p} {due} h e d =
    let W = lent c m s in
    let none : due ≡ propose_due n (nothing (number r)) (looked_up W (nothing (number r)) zero_name) (looked_up W (nothing (number r)) zero_name) k = d ∙ nothing_due n k r _ _ in
    none ∙ ap (λ (v : Wanted). propose_due n v (looked_up W v v.name) (looked_up W v v.base) k) (rw e at h)

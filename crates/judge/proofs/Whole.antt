-- THE WHOLE JUDGEMENT of each call: what the code finds in two steps is the answer of the lists in `protocol` (01: Refusals, by place, in this
-- order). `early_late` says it of the table from 6 on; `record_judged_lem`, `propose_judged_lem` and `timer_judged_lem` of the calls. Assumes nothing.
use mathlib.Core.Path.{◌≡◌, refl, sym, ap, ◌∙◌}
use mathlib.Core.Bool.{true, false, cond}
use mathlib.Core.List.{List, ◌++◌}
use Prim.Native.Nat.{ℕ, zero, suc}
use native.Mathlib.Omega.{arith}
use borrow.Author.Tests.{ne_eqb}
use lib.Dec.{eqb}
use Rattle.settings.specs.Answer.{Answer, refuses, Rule, judge}
use Rattle.wire.specs.Shape.{shape_rules, bad_length, bad_kind}
use Rattle.wire.specs.Content.{Content, vote, commit, certificate, timeout, proposal, block, release, by_block, by_timeouts, certificate_of, content}
use Rattle.memory.specs.Layout.{entry_of}
use Rattle.memory.specs.Leaders.{by_list}
use Rattle.protocol.specs.Work.{Work, n}
use Rattle.protocol.specs.Refusals.{region_rules, refusals, timer_rules, propose_rules}
use Rattle.protocol.specs.Events.{on_record, on_timer, on_propose}
use Rattle.protocol.specs.Rules.{settle}
use Rattle.protocol.specs.Contents.{given, too_long_rule, record_digest_rule, propose_digest_rule, right_before, record_place, propose_place}
use Rattle.protocol.specs.Calls.{◌then◌, Replica, begin, record_core, timer_core, propose_core, record_core_with, propose_core_with}
use Rattle.refusals.specs.Number.{answer_of, first_of, or_else, numbered}
use Rattle.refusals.specs.Early.{early_rules, early_propose}
use Rattle.refusals.proofs.Numbers.{answer_first, first_then, numbered_then, else_some, else_both}
use Rattle.judge.specs.Want.{Wanted, nothing, names, safe_block, asked, want_of, record_want, propose_want}
use Rattle.judge.specs.Late.{looked_up, late_rules, record_late, propose_late}
use Rattle.judge.specs.Contents.{record_due, propose_want_with, propose_due, propose_refusal}
use Rattle.judge.proofs.Passing.{shape_whole}
use Rattle.judge.proofs.Dues.{record_with, propose_with}
use Rattle.judge.proofs.Wants.{regions_numbered, shape_numbered}
use Rattle.judge.proofs.Lates.{late_of, early_late_number, propose_late_of, propose_early_late_number, refusals-numbered, early_numbered, propose_numbered, late_numbered}

-- ---- from 6 on: judging early, and then late with found and under as the store holds them
pub early_late : {A : Type 0} (W : Work) (r : List ℕ) (k : Content) (a : A) → judge (refusals W by_list r k) a ≡ judge (early_rules W r k then late_of W k) a
early_late W r k a =
    answer_first _ a (refusals-numbered W r k) ∙ ap (λ (i : ℕ). answer_of i a) (early_late_number W r k)
    ∙ sym (answer_first _ a (numbered_then _ _ (early_numbered W r k) (late_numbered _ _ _ k)))

-- ---- numbers one after another
else_assoc : (i j k : ℕ) → or_else i (or_else j k) ≡ or_else (or_else i j) k
unfolding or_else
else_assoc zero j k = refl
else_assoc (suc i) j k =
    let h : suc i ≡ 0 → ⊥ = λ e. omega arith in
    else_some (suc i) (or_else j k) h ∙ sym (ap (λ (l : ℕ). or_else l k) (else_some (suc i) j h) ∙ else_some (suc i) k h)

-- a refusal stays, and without one what is wanted stands
want_refused : (i : ℕ) (w : Wanted) → want_of (suc i) w ≡ nothing (suc i)
unfolding want_of
want_refused i w = rw (ne_eqb (suc i) 0 (λ e. omega arith))

want_open : (w : Wanted) → want_of 0 w ≡ w
unfolding want_of
want_open w = refl

-- the number before the store is asked, or else the late one
chosen : (first : ℕ) (w : Wanted) (late : Wanted → ℕ) → w.refusal ≡ 0 → or_else first (late w) ≡ or_else (want_of first w).refusal (late (want_of first w))
chosen zero w late e = rw (want_open w, e)
chosen (suc i) w late e =
    let h : suc i ≡ 0 → ⊥ = λ q. omega arith in
    rw (want_refused i w) (else_some (suc i) (late w) h ∙ sym (else_some (suc i) (late (nothing (suc i))) h))

-- what follows where nothing is refused
open-places : {P : Type 0} (i : ℕ) (w : Wanted) → (want_of i w).refusal ≡ 0 → (i ≡ 0 → want_of i w ≡ w → P) → P
open-places zero w e f = f refl (want_open w)
open-places (suc i) w e f = let h : suc i ≡ 0 = rw (want_refused i w) at e in absurd (omega arith)

asked_open : (m : List ℕ) (k : Content) → (asked m k).refusal ≡ 0
unfolding asked
asked_open m (vote j v x) = refl
asked_open m (commit j v x) = refl
asked_open m (certificate j k) = refl
asked_open m (timeout t) = refl
asked_open m (proposal j v x y h k) = refl
asked_open m (block j x y h) = refl
asked_open m (release j v x h) = refl

-- what is wanted is looked up among the held blocks
late_held : (W : Work) (k : Content) → first_of (late_of W k) ≡ record_late W (asked W.memory k) k
unfolding record_late late_rules asked
late_held W (vote j v x) = refl
late_held W (commit j v x) = refl
late_held W (certificate j k) = refl
late_held W (timeout t) = refl
late_held W (proposal j v x y h k) = refl
late_held W (block j x y h) = refl
late_held W (release j v x h) = refl

propose_late_held : (W : Work) (x : List ℕ) → first_of (propose_late_of W x) ≡ propose_late W (names W.memory x (safe_block W.memory (certificate_of (entry_of W.memory))))
unfolding propose_late
propose_late_held W x = refl

timer_numbered : (W : Work) (v : ℕ) → numbered (timer_rules W v) ≡ true
unfolding timer_rules numbered
timer_numbered W v = refl

module _ (W : Work) (room : ℕ) where
  -- ---- a record
  abbrev pub record_rules : List ℕ → List Rule
  record_rules r = region_rules W room then shape_rules (n W) r then refusals W by_list r (content r)

  -- 01's number of the whole: the refusal, if there is one before the store is asked, or else what is refused with what it holds
  abbrev pub record_number : List ℕ → ℕ
  record_number r = let w = record_want W room r in or_else w.refusal (record_late W w (content r))

  record_number_lem : (r : List ℕ) → first_of (record_rules r) ≡ record_number r
  unfolding record_want
  record_number_lem r =
      let k = content r in
      let a = region_rules W room in
      let b = shape_rules (n W) r in
      let e = early_rules W r k in
      let l = record_late W (asked W.memory k) k in
      let tail : first_of (refusals W by_list r k) ≡ or_else (first_of e) l =
      early_late_number W r k ∙ first_then e (late_of W k) (early_numbered W r k) ∙ ap (or_else (first_of e)) (late_held W k) in
      let whole : first_of (record_rules r) ≡ or_else (first_of a) (or_else (first_of b) (or_else (first_of e) l)) =
      first_then a (b ++ refusals W by_list r k) (regions_numbered W room)
      ∙ ap (or_else (first_of a)) (first_then b (refusals W by_list r k) (shape_numbered (n W) r) ∙ ap (or_else (first_of b)) tail) in
      let first : first_of (a ++ (b ++ e)) ≡ or_else (first_of a) (or_else (first_of b) (first_of e)) =
      first_then a (b ++ e) (regions_numbered W room) ∙ ap (or_else (first_of a)) (first_then b e (shape_numbered (n W) r)) in
      whole ∙ ap (or_else (first_of a)) (else_assoc (first_of b) (first_of e) l) ∙ else_assoc (first_of a) (or_else (first_of b) (first_of e)) l
      ∙ ap (λ (i : ℕ). or_else i l) (sym first)
      ∙ chosen (first_of (a ++ (b ++ e))) (asked W.memory k) (λ (w : Wanted). record_late W w k) (asked_open W.memory k)

  pub record_judged_lem : {A : Type 0} (r : List ℕ) (a : A) → judge (record_rules r) a ≡ answer_of (record_number r) a
  record_judged_lem r a =
      answer_first (record_rules r) a
      (numbered_then _ _ (regions_numbered W room) (numbered_then _ _ (shape_numbered (n W) r) (refusals-numbered W r (content r))))
      ∙ ap (λ (i : ℕ). answer_of i a) (record_number_lem r)

  -- past the first step the places before the store are passed
  pub record_passed : (r : List ℕ) → (record_want W room r).refusal ≡ 0
      → (first_of (region_rules W room) ≡ 0) × (first_of (shape_rules (n W) r) ≡ 0) × (first_of (early_rules W r (content r)) ≡ 0) × (record_want W room r ≡ asked W.memory (content r))
  unfolding record_want
  record_passed r e =
      open-places (first_of (region_rules W room ++ (shape_rules (n W) r ++ early_rules W r (content r)))) (asked W.memory (content r)) e
      (λ q.
      let a = else_both _ _ (sym (first_then (region_rules W room) (shape_rules (n W) r ++ early_rules W r (content r)) (regions_numbered W room)) ∙ q) in
      let b = else_both _ _ (sym (first_then (shape_rules (n W) r) (early_rules W r (content r)) (shape_numbered (n W) r)) ∙ a.1) in
      λ g. (a.0, b.0, b.1, g))

  -- what `record_chain` asks
  pub record_whole : (r : List ℕ) → (record_want W room r).refusal ≡ 0 → (bad_length r ≡ false) × (bad_kind r ≡ false)
  record_whole r e = shape_whole (n W) r (record_passed r e).1

  -- ---- a record with contents: what these refuse, or else the number without them
  abbrev pub record_number_with : List ℕ → List ℕ → ℕ
  record_number_with r s = or_else (record_due W room r s) (record_number r)

  with_numbered : (r s : List ℕ) (q : Content) → numbered (too_long_rule (given s) then shape_rules (n W) r then right_before record_place (record_digest_rule W q (given s)) (refusals W by_list r q)) ≡ true
  unfolding numbered refusals right_before
  with_numbered r s (vote j v x) = refl
  with_numbered r s (commit j v x) = refl
  with_numbered r s (certificate j (by_block v x g)) = refl
  with_numbered r s (certificate j (by_timeouts v ts)) = refl
  with_numbered r s (timeout t) = refl
  with_numbered r s (proposal j v x y h k) = refl
  with_numbered r s (block j x y h) = refl
  with_numbered r s (release j v x h) = refl

  record_judged_with : {A : Type 0} (r s : List ℕ) (a : A)
      → judge (region_rules W room then too_long_rule (given s) then shape_rules (n W) r then right_before record_place (record_digest_rule W (content r) (given s)) (refusals W by_list r (content r))) a ≡ answer_of (record_number_with r s) a
  record_judged_with r s a =
      answer_first _ a (numbered_then _ _ (regions_numbered W room) (with_numbered r s (content r))) ∙ ap (λ (i : ℕ). answer_of i a) (record_with W room r s ∙ ap (or_else (record_due W room r s)) (record_number_lem r))

  -- ---- propose
  abbrev pub name_rules : List ℕ → List Rule
  name_rules x = region_rules W room then propose_rules W by_list x

  abbrev pub name_number : List ℕ → ℕ
  name_number x = let w = propose_want W room x in or_else w.refusal (propose_late W w)

  name_number_lem : (x : List ℕ) → first_of (name_rules x) ≡ name_number x
  unfolding propose_want
  name_number_lem x =
      let a = region_rules W room in
      let e = early_propose W x in
      let w = names W.memory x (safe_block W.memory (certificate_of (entry_of W.memory))) in
      let l = propose_late W w in
      let tail : first_of (propose_rules W by_list x) ≡ or_else (first_of e) l =
      propose_early_late_number W x ∙ first_then e (propose_late_of W x) (propose_numbered W x).1 ∙ ap (or_else (first_of e)) (propose_late_held W x) in
      first_then a (propose_rules W by_list x) (regions_numbered W room) ∙ ap (or_else (first_of a)) tail ∙ else_assoc (first_of a) (first_of e) l
      ∙ ap (λ (i : ℕ). or_else i l) (sym (first_then a e (regions_numbered W room)))
      ∙ chosen (first_of (a ++ e)) w (λ (v : Wanted). propose_late W v) refl

  pub propose_judged_lem : {A : Type 0} (x : List ℕ) (a : A) → judge (name_rules x) a ≡ answer_of (name_number x) a
  propose_judged_lem x a =
      answer_first (name_rules x) a (numbered_then _ _ (regions_numbered W room) (propose_numbered W x).0) ∙ ap (λ (i : ℕ). answer_of i a) (name_number_lem x)

  pub propose_passed : (x : List ℕ) → (propose_want W room x).refusal ≡ 0
      → (first_of (region_rules W room) ≡ 0) × (first_of (early_propose W x) ≡ 0) × (propose_want W room x ≡ names W.memory x (safe_block W.memory (certificate_of (entry_of W.memory))))
  unfolding propose_want
  propose_passed x e =
      open-places (first_of (region_rules W room ++ early_propose W x)) (names W.memory x (safe_block W.memory (certificate_of (entry_of W.memory)))) e
      (λ q. let a = else_both _ _ (sym (first_then (region_rules W room) (early_propose W x) (regions_numbered W room)) ∙ q) in λ g. (a.0, a.1, g))

  -- ---- propose with contents
  abbrev pub name_number_with : List ℕ → List ℕ → ℕ
  name_number_with x s = let w = propose_want_with W room x s in or_else (propose_due x w (looked_up W w w.name) (looked_up W w w.base) s) (name_number x)

  propose_with_numbered : (x s : List ℕ) → numbered (too_long_rule (given s) then right_before propose_place (propose_digest_rule W x (given s)) (propose_rules W by_list x)) ≡ true
  unfolding numbered propose_rules right_before
  propose_with_numbered x s = refl

  propose_judged_with : {A : Type 0} (x s : List ℕ) (a : A)
      → judge (region_rules W room then too_long_rule (given s) then right_before propose_place (propose_digest_rule W x (given s)) (propose_rules W by_list x)) a ≡ answer_of (name_number_with x s) a
  propose_judged_with x s a =
      answer_first _ a (numbered_then _ _ (regions_numbered W room) (propose_with_numbered x s))
      ∙ ap (λ (i : ℕ). answer_of i a) (propose_with W room x s ∙ ap (or_else _) (name_number_lem x))

  -- ---- the timer
  pub timer_judged_lem : {A : Type 0} (v : ℕ) (a : A) → judge (region_rules W room then timer_rules W v) a ≡ answer_of (first_of (region_rules W room then timer_rules W v)) a
  timer_judged_lem v a = answer_first (region_rules W room then timer_rules W v) a (numbered_then _ _ (regions_numbered W room) (timer_numbered W v))

-- ---- the calls
-- a call with contents whose number is that of one list, or else of another: what the first refuses, or the call without contents
chosen_call : (k i : ℕ) (W : Work) → answer_of (or_else k i) W ≡ cond (eqb k 0) (answer_of i W) (refuses k)
unfolding or_else answer_of
chosen_call zero i W = refl
chosen_call (suc k) i W = let some : eqb (suc k) 0 ≡ false = ne_eqb (suc k) 0 (λ z. omega arith) in rw some

module _ (r : Replica) (room : ℕ) where
  pub record_core_lem : (bytes : List ℕ) → record_core by_list r room bytes ≡ answer_of (record_number (begin r) room bytes) (settle (on_record bytes (content bytes) (begin r)))
  unfolding record_core
  record_core_lem bytes = record_judged_lem (begin r) room bytes _

  pub propose_core_lem : (x : List ℕ) → propose_core by_list r room x ≡ answer_of (name_number (begin r) room x) (settle (on_propose x (begin r)))
  unfolding propose_core
  propose_core_lem x = propose_judged_lem (begin r) room x _

  pub timer_core_lem : (v : ℕ) → timer_core r room v ≡ answer_of (first_of (region_rules (begin r) room then timer_rules (begin r) v)) (settle (on_timer v (begin r)))
  unfolding timer_core
  timer_core_lem v = timer_judged_lem (begin r) room v _

  -- WITH CONTENTS: what these refuse, or else the call without them
  pub record_core_with_lem : (bytes s : List ℕ) → let k = record_due (begin r) room bytes s in record_core_with by_list r room bytes (given s) ≡ cond (eqb k 0) (record_core by_list r room bytes) (refuses k)
  unfolding record_core_with
  record_core_with_lem bytes s =
      let k = record_due (begin r) room bytes s in
      record_judged_with (begin r) room bytes s _ ∙ chosen_call k (record_number (begin r) room bytes) _ ∙ ap (λ (a : Answer Work). cond (eqb k 0) a (refuses k)) (sym (record_core_lem bytes))

  pub propose_core_with_lem : (x s : List ℕ) → let k = propose_refusal (begin r) room x s in propose_core_with by_list r room x (given s) ≡ cond (eqb k 0) (propose_core by_list r room x) (refuses k)
  unfolding propose_core_with propose_refusal
  propose_core_with_lem x s =
      let k = propose_refusal (begin r) room x s in
      propose_judged_with (begin r) room x s _ ∙ chosen_call k (name_number (begin r) room x) _ ∙ ap (λ (a : Answer Work). cond (eqb k 0) a (refuses k)) (sym (propose_core_lem x))

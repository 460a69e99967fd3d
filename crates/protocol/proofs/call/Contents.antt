-- A call that comes with contents: without any it is the call as before; with contents it is accepted where it is accepted without, the contents aren't too long and the
-- name is the digest. Assumes nothing.
use Prim.Native.Nat.{ℕ}
use mathlib.Core.Path.{◌≡◌, refl, ap, ◌∙◌}
use mathlib.Core.Bool.{Bool, true, false, cond}
use mathlib.Core.List.{List, [], ◌∷◌, ◌++◌}
use lib.Dec.{eqb}
use lib.ListN.{length}
use Rattle.settings.specs.Answer.{Answer, accepts, Rule, judge}
use Rattle.wire.specs.Content.{Content, vote, commit, certificate, timeout, proposal, block, release, content}
use Rattle.wire.specs.Shape.{shape_rules}
use Rattle.wire.proofs.Facts.{Quiet, off_judge}
use Rattle.memory.specs.Leaders.{Leading}
use Rattle.protocol.specs.Work.{Work, n}
use Rattle.protocol.specs.Refusals.{region_rules, refusals, propose_rules}
use Rattle.protocol.specs.Events.{on_record, on_propose}
use Rattle.protocol.specs.Rules.{settle}
use Rattle.protocol.specs.Contents.{Contents, none, too_long_rule, record_digest_rule, right_before, record_place, propose_place, propose_digest_rule}
use Rattle.protocol.specs.Calls.{Replica, begin, ◌then◌, record_refusals, record_core, propose_refusals, propose_core, record_refusals_with, propose_refusals_with, record_core_with, propose_core_with, outcome, record_call, propose_call, record_call_with, propose_call_with}
use Rattle.protocol.specs.AsBefore.{RecordAsBefore, ProposeAsBefore}
use Rattle.protocol.proofs.Branch.{by_cases}

-- ---- AS BEFORE
nothing_before : (a : ℕ) (rules : List Rule) → right_before a [] rules ≡ rules
unfolding right_before
nothing_before a [] = refl
nothing_before a (r ∷ rules) = ap (λ (l : List Rule). cond (eqb r.number a) (r ∷ rules) (r ∷ l)) (nothing_before a rules) ∙ either (eqb r.number a)
  where
    either : (t : Bool) → cond t (r ∷ rules) (r ∷ rules) ≡ r ∷ rules
    either true = refl
    either false = refl

-- beside a kind that has no digest rule too
no_rule : (W : Work) (q : Content) → record_digest_rule W q none ≡ []
no_rule W (vote j v x) = refl
no_rule W (commit j v x) = refl
no_rule W (certificate j k) = refl
no_rule W (timeout t) = refl
no_rule W (proposal j v x y h k) = refl
no_rule W (block j x y h) = refl
no_rule W (release j v x h) = refl

pub record_as_before : RecordAsBefore
unfolding record_call record_core record_call_with record_core_with
record_as_before lead r output bytes =
    let W = begin r in
    let rules = refusals W lead bytes (content bytes) in
    ap (λ (l : List Rule). outcome r output (judge (region_rules W (length output) then shape_rules (n W) bytes then l) (settle (on_record bytes (content bytes) W))))
    (ap (λ (l : List Rule). right_before record_place l rules) (no_rule W (content bytes)) ∙ nothing_before record_place rules)

pub propose_as_before : ProposeAsBefore
unfolding propose_call propose_core propose_call_with propose_core_with
propose_as_before lead r output x =
    let W = begin r in
    ap (λ (l : List Rule). outcome r output (judge (region_rules W (length output) then l) (settle (on_propose x W)))) (nothing_before propose_place (propose_rules W lead x))

-- ---- no rule applies
pub quiet_append : (a b : List Rule) → Quiet (a ++ b) → Quiet a × Quiet b
quiet_append [] b q = (tt, q)
quiet_append (r ∷ a) b q = let p = quiet_append a b q.1 in ((q.0, p.0), p.1)

pub quiet_both : (a b : List Rule) → Quiet a → Quiet b → Quiet (a ++ b)
quiet_both [] b p q = q
quiet_both (r ∷ a) b p q = (p.0, quiet_both a b p.1 q)

quiet_before : (a : ℕ) (new rules : List Rule) → Quiet (right_before a new rules) → Quiet new × Quiet rules
unfolding right_before
quiet_before a new [] q = (q, tt)
quiet_before a new (r ∷ rules) q = go (eqb r.number a) (quiet_before a new rules) q
  where
    go : (t : Bool) → (Quiet (right_before a new rules) → Quiet new × Quiet rules) → Quiet (cond t (new ++ (r ∷ rules)) (r ∷ right_before a new rules)) → Quiet new × Quiet (r ∷ rules)
    go true f q = quiet_append new (r ∷ rules) q
    go false f q = let p = f q.1 in (p.0, (q.0, p.1))

before_quiet : (a : ℕ) (new rules : List Rule) → Quiet new → Quiet rules → Quiet (right_before a new rules)
unfolding right_before
before_quiet a new [] p q = p
before_quiet a new (r ∷ rules) p q = by_cases Quiet (eqb r.number a) _ _ (λ e. quiet_both new (r ∷ rules) p q) (λ e. (q.0, before_quiet a new rules p q.1))

-- ---- ACCEPTED WITH CONTENTS: what the call shows of these, and the call without
pub record Checked (c : Contents) (digest : List Rule) (plain : Answer Work) (W : Work) : Type 0 where
  pub short : Quiet (too_long_rule c)
  pub named : Quiet digest
  pub accepted : plain ≡ accepts W

module _ (lead : Leading) (r : Replica) (room : ℕ) (bytes : List ℕ) (c : Contents) (W : Work) where
  abbrev regions : List Rule
  regions = region_rules (begin r) room

  abbrev shape : List Rule
  shape = shape_rules (n (begin r)) bytes

  abbrev rules : List Rule
  rules = refusals (begin r) lead bytes (content bytes)

  abbrev digest : List Rule
  digest = record_digest_rule (begin r) (content bytes) c

  abbrev RecordChecked : Type 0
  RecordChecked = Checked c digest (record_core lead r room bytes) W

  pub record_checked : record_core_with lead r room bytes c ≡ accepts W → RecordChecked
  unfolding record_core record_core_with
  record_checked e =
      let j = (off_judge (record_refusals_with lead r room bytes c) _ W).0 e in
      let a = quiet_append regions _ j.0 in
      let b = quiet_append (too_long_rule c) _ a.1 in
      let d = quiet_append shape (right_before record_place digest rules) b.1 in
      let f = quiet_before record_place digest rules d.1 in
      record { short = b.0; named = f.0; accepted = (off_judge (record_refusals lead r room bytes) _ W).1 (quiet_both regions (shape ++ rules) a.0 (quiet_both shape rules d.0 f.1), j.1) }

  pub checked_record : RecordChecked → record_core_with lead r room bytes c ≡ accepts W
  unfolding record_core record_core_with
  checked_record h =
      let j = (off_judge (record_refusals lead r room bytes) _ W).0 h.accepted in
      let a = quiet_append regions _ j.0 in
      let d = quiet_append shape rules a.1 in
      let late = quiet_both shape (right_before record_place digest rules) d.0 (before_quiet record_place digest rules h.named d.1) in
      (off_judge (record_refusals_with lead r room bytes c) _ W).1 (quiet_both regions _ a.0 (quiet_both (too_long_rule c) _ h.short late), j.1)

module _ (lead : Leading) (r : Replica) (room : ℕ) (x : List ℕ) (c : Contents) (W : Work) where
  abbrev regions' : List Rule
  regions' = region_rules (begin r) room

  abbrev rules' : List Rule
  rules' = propose_rules (begin r) lead x

  abbrev digest' : List Rule
  digest' = propose_digest_rule (begin r) x c

  abbrev ProposeChecked : Type 0
  ProposeChecked = Checked c digest' (propose_core lead r room x) W

  pub propose_checked : propose_core_with lead r room x c ≡ accepts W → ProposeChecked
  unfolding propose_core propose_core_with
  propose_checked e =
      let j = (off_judge (propose_refusals_with lead r room x c) _ W).0 e in
      let a = quiet_append regions' _ j.0 in
      let b = quiet_append (too_long_rule c) (right_before propose_place digest' rules') a.1 in
      let f = quiet_before propose_place digest' rules' b.1 in
      record { short = b.0; named = f.0; accepted = (off_judge (propose_refusals lead r room x) _ W).1 (quiet_both regions' rules' a.0 f.1, j.1) }

  pub checked_propose : ProposeChecked → propose_core_with lead r room x c ≡ accepts W
  unfolding propose_core propose_core_with
  checked_propose h =
      let j = (off_judge (propose_refusals lead r room x) _ W).0 h.accepted in
      let a = quiet_append regions' rules' j.0 in
      let late = quiet_both (too_long_rule c) (right_before propose_place digest' rules') h.short (before_quiet propose_place digest' rules' h.named a.1) in
      (off_judge (propose_refusals_with lead r room x c) _ W).1 (quiet_both regions' _ a.0 late, j.1)

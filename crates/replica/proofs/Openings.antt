-- Openings: refused settings, a refused list, refused lengths, and an opening that is accepted. Assumes nothing.
use Prim.Native.Nat.{ℕ, ◌≤◌, ◌<◌, ◌^◌}
use native.Mathlib.Omega.{arith}
use mathlib.Core.Path.{◌≡◌, refl, sym, ap, ◌∙◌}
use mathlib.Core.Bool.{Bool, true, false, not, cond}
use mathlib.Core.List.{List, [], ◌∷◌, ◌++◌}
use borrow.Author.Tests.{lt-ltb, le-ltb, ltb-false, leb-false}
use lib.Dec.{eqb, ltb, leb}
use lib.ListN.{length}
use Rattle.settings.specs.declared.Settings.{Settings}
use Rattle.settings.specs.Answer.{accepts, refuses, Rule, judge}
use Rattle.settings.specs.Quorum.{largest, replicas}
use Rattle.settings.specs.Opening.{opening_rules, opening, bad_leaders, leader_rules}
use Rattle.memory.specs.Layout.{memory_length}
use Rattle.counters.specs.declared.Counters.{Counters}
use Rattle.counters.specs.Counters.{opened}
use Rattle.blocks.specs.declared.Block.{Block}
use Rattle.protocol.specs.Work.{Work}
use Rattle.protocol.specs.Refusals.{store_length}
use Rattle.protocol.specs.Calls.{Replica, Outcome, outcome, opened_memory, length_rules, ◌then◌, opening_core, opening_call}
use Rattle.std.specs.Prelude.{Result, Ok, Err}
use Rattle.settings.specs.declared.refusal.Refusal.{Refusal}
use Rattle.settings.specs.Refusal.{answer}
use Rattle.replica.specs.Reply.{reply_of, replied, replied_by}
use Rattle.replica.specs.Openings.{opened_outcome, admitted}

-- ---- the list and the lengths
module _ (R : Replica) (s : Settings) (n own : ℕ) (leaders : List ℕ) where
  abbrev unchanged : ℕ → Outcome
  unchanged a = record { reply = refuses a; counters = R.counters; memory = R.memory; store = R.store; output = [] }

  pub bad_list : bad_leaders n leaders ≡ true → admitted R s n own leaders ≡ unchanged 1
  unfolding admitted outcome judge leader_rules
  bad_list e = rw e

  module _ (good : bad_leaders n leaders ≡ false) where
    pub short_memory : length R.memory < memory_length → admitted R s n own leaders ≡ unchanged 2
    unfolding admitted outcome judge leader_rules
    short_memory h = rw (good, lt-ltb _ _ h)

    pub short_store : memory_length ≤ length R.memory → length R.store < store_length → admitted R s n own leaders ≡ unchanged 2
    unfolding admitted outcome judge leader_rules
    short_store h g = rw (good, le-ltb _ _ h, lt-ltb _ _ g)

    pub long_enough : memory_length ≤ length R.memory → store_length ≤ length R.store
        → admitted R s n own leaders ≡ record { reply = accepts 0; counters = opened; memory = opened_memory R.memory s own leaders; store = R.store; output = [] }
    unfolding admitted outcome judge leader_rules
    long_enough h g = rw (good, le-ltb _ _ h, le-ltb _ _ g)

-- ---- rules and more rules
module _ {A B : Type 0} (a : A) (b : B) where
  judge_passed : (rules more : List Rule) (y : B) → judge rules b ≡ accepts y → (judge (rules ++ more) a ≡ judge more a) × (y ≡ b)
  unfolding judge
  judge_passed [] more y e = (refl, cc)
  judge_passed (r ∷ rules) more y e = go r.test (judge_passed rules more y) e
    where
      go : (t : Bool) → (judge rules b ≡ accepts y → (judge (rules ++ more) a ≡ judge more a) × (y ≡ b)) → cond t (refuses r.number) (judge rules b) ≡ accepts y
          → (cond t (refuses r.number) (judge (rules ++ more) a) ≡ judge more a) × (y ≡ b)
      go true rest g = absurd (let z : ◌≡◌ {A = ℕ} 0 1 = cc in omega arith)
      go false rest g = rest g

  judge_refused : (rules more : List Rule) (k : ℕ) → judge rules b ≡ refuses k → judge (rules ++ more) a ≡ refuses k
  unfolding judge
  judge_refused [] more k e = absurd (let z : ◌≡◌ {A = ℕ} 0 1 = cc in omega arith)
  judge_refused (r ∷ rules) more k e = go r.test (judge_refused rules more k) e
    where
      go : (t : Bool) → (judge rules b ≡ refuses k → judge (rules ++ more) a ≡ refuses k) → cond t (refuses r.number) (judge rules b) ≡ refuses k
          → cond t (refuses r.number) (judge (rules ++ more) a) ≡ refuses k
      go true rest g = ap refuses (let z : r.number ≡ k = cc in z)
      go false rest g = rest g

-- ---- an opening of any five numbers and any list
module _ (R : Replica) (f c k n own : ℕ) (leaders : List ℕ) where
  abbrev s₀ : Settings
  s₀ = record { f = f; c = c; k = k }

  abbrev work : Work
  work = record { counters = opened; memory = opened_memory R.memory s₀ own leaders; store = R.store; out = [] }

  abbrev more : List Rule
  more = leader_rules n leaders then length_rules R

  pub opening-admitted : (s : Settings) → opening f c k n own ≡ accepts s → opening_call R f c k n own leaders ≡ admitted R s n own leaders
  unfolding opening opening_call opening_core admitted
  opening-admitted s e =
      let x = judge_passed work s₀ (opening_rules s₀ n own) more s e in
      ap (outcome R []) x.0
      ∙ ap (λ (t : Settings). outcome R [] (judge more (record { counters = opened; memory = opened_memory R.memory t own leaders; store = R.store; out = [] }))) (sym x.1)

  pub opening_refused : (refusal : ℕ) → opening f c k n own ≡ refuses refusal
      → opening_call R f c k n own leaders ≡ record { reply = refuses refusal; counters = R.counters; memory = R.memory; store = R.store; output = [] }
  unfolding opening opening_call opening_core outcome
  opening_refused refusal e = ap (outcome R []) (judge_refused work s₀ (opening_rules s₀ n own) more refusal e)

-- own number is small
pub own_small : (f c k n own : ℕ) (s : Settings) → opening f c k n own ≡ accepts s → own < 2 ^ 16
unfolding opening opening_rules judge
own_small f c k n own s e =
    let t : Settings = record { f = f; c = c; k = k } in
    by (eqb n (replicas t)) (ltb largest n) (leb n own) refl refl e
  where
    by : (t₁ t₂ t₃ : Bool) → ltb largest n ≡ t₂ → leb n own ≡ t₃
        → cond (not t₁) (refuses 1) (cond t₂ (refuses 1) (cond t₃ (refuses 1) (accepts (record { f = f; c = c; k = k })))) ≡ accepts s → own < 2 ^ 16
    by false t₂ t₃ p q g = absurd (let z : ◌≡◌ {A = ℕ} 0 1 = cc in omega arith)
    by true true t₃ p q g = absurd (let z : ◌≡◌ {A = ℕ} 0 1 = cc in omega arith)
    by true false true p q g = absurd (let z : ◌≡◌ {A = ℕ} 0 1 = cc in omega arith)
    by true false false p q g = omega (arith, ltb-false largest n p, leb-false n own q)

-- ---- the call, from what its steps leave
module _ (c : Counters) (m : List ℕ) (l : List Block) (y : Outcome) {p : Result Counters Refusal} (x : opened_outcome c p m l ≡ y) where
  pub opening_err : {q : Result ℕ Refusal} {r t : Refusal} → p ≡ Err r → q ≡ Err t → t ≡ r → replied (reply_of (answer q)) c m l [] ≡ replied_by y
  unfolding answer
  opening_err e f g = rw (f, g) (ap replied_by (rw e at x))

  pub opening_ok : {new : Counters} → p ≡ Ok new → replied (reply_of (answer (Ok 0))) new m l [] ≡ replied_by y
  unfolding answer
  opening_ok e = ap replied_by (rw e at x)

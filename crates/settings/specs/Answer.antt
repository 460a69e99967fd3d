-- Answers, and refusals as a list of rules (01: Refusals, by place, in this order). Assumes nothing.
use Rattle.std.specs.Prelude.{ℕ, Bool, cond, List, [], ◌∷◌}

-- what a call or a test answers: what it accepts (01's answer 0), or 01's number of the refusal
pub data Answer (A : Type 0) : Type 0 where
  accepts : A → Answer A
  refuses : ℕ → Answer A

-- a refusal: when, and with which number
pub record Rule : Type 0 where
  pub test : Bool
  pub number : ℕ

infix 95 ◌⇒◌
abbrev pub ◌⇒◌ : Bool → ℕ → Rule
t ⇒ a = record { test = t; number = a }

-- the first rule that applies refuses; where none applies, a is accepted
unfoldable pub judge : {A : Type 0} → List Rule → A → Answer A
judge [] a = accepts a
judge (r ∷ rules) a = cond r.test (refuses r.number) (judge rules a)

-- Counting replicas: a set of replicas is a Boolean test on numbers, and only the numbers below n count. Assumes nothing.
use Rattle.std.specs.Prelude.{Bool, true, false, ◌&&◌, ◌||◌, List, [], ◌∷◌, ℕ, zero, suc, ◌+◌, ◌≤◌, ◌<◌, eqb}

-- one for a test that passes
abbrev pub tally : Bool → ℕ
tally true = 1
tally false = 0

-- how many numbers below n pass the test
unfoldable pub count : (ℕ → Bool) → ℕ → ℕ
count P zero = zero
count P (suc n) = tally (P n) + count P n

infixl 40 ◌∩◌
abbrev pub ◌∩◌ : (ℕ → Bool) → (ℕ → Bool) → ℕ → Bool
◌∩◌ P Q i = P i && Q i

infixl 35 ◌∪◌
abbrev pub ◌∪◌ : (ℕ → Bool) → (ℕ → Bool) → ℕ → Bool
◌∪◌ P Q i = P i || Q i

-- numbers that a list holds: `at` reads one off an element
module _ {A : Type 0} (at : A → ℕ) where
  abbrev pub holds : List A → ℕ → Bool
  holds [] i = false
  holds (a ∷ l) i = eqb (at a) i || holds l i

  -- they ascend from low on and stay below n
  abbrev pub Ascend : ℕ → ℕ → List A → Type 0
  Ascend n low [] = Unit {0}
  Ascend n low (a ∷ l) = (low ≤ at a) × (at a < n) × Ascend n (suc (at a)) l

-- Refusals as numbers: 01's number, and 0 where nothing is refused. Assumes nothing.
use Rattle.std.specs.Prelude.{ℕ, zero, suc, Bool, true, cond, ◌&&◌, List, [], ◌∷◌, eqb, ltb}
use Rattle.settings.specs.Answer.{Answer, accepts, refuses, Rule}

-- "Answer 0 is acceptance"
unfoldable pub number_of : {A : Type 0} → Answer A → ℕ
number_of (accepts a) = 0
number_of (refuses k) = k

unfoldable pub answer_of : {A : Type 0} → ℕ → A → Answer A
answer_of zero a = accepts a
answer_of (suc k) a = refuses (suc k)

-- the number of the first rule that applies
unfoldable pub first_of : List Rule → ℕ
first_of [] = 0
first_of (r ∷ rules) = cond r.test r.number (first_of rules)

-- one number, or where it is 0 the next
unfoldable pub or_else : ℕ → ℕ → ℕ
or_else k l = cond (eqb k 0) l k

-- no rule has the number of acceptance
unfoldable pub numbered : List Rule → Bool
numbered [] = true
numbered (r ∷ rules) = ltb 0 r.number && numbered rules

-- Which five numbers and which leader list an opening takes (01: Settings and thresholds; Refusals, place "opening"; 02: 2.1, 2.2). Assumes nothing.
use Rattle.std.specs.Prelude.{ℕ, zero, suc, Bool, false, not, ◌||◌, List, [], ◌∷◌, ◌++◌, eqb, ltb, leb, length}
use Rattle.settings.specs.declared.Settings.{Settings}
use Rattle.settings.specs.Answer.{Answer, Rule, ◌⇒◌, judge}
use Rattle.settings.specs.Quorum.{largest, replicas}

-- "settings break a rule above"; of 01's rules above, 02, 2.2 takes the bound on k away: "every k ≥ 0 is taken as long as n is at most 32"
abbrev pub settings_rules : Settings → ℕ → List Rule
settings_rules s n =
    not (eqb n (replicas s)) ⇒ 1
    ∷ ltb largest n ⇒ 1
    ∷ []

-- "settings break a rule above, or own number ≥ n"
unfoldable pub opening_rules : Settings → ℕ → ℕ → List Rule
opening_rules s n own = settings_rules s n ++ (leb n own ⇒ 1 ∷ [])

unfoldable pub opening : ℕ → ℕ → ℕ → ℕ → ℕ → Answer Settings
opening f c k n own = let s : Settings = record { f = f; c = c; k = k } in judge (opening_rules s n own) s

-- ---- 02, 2.1: "The opening takes a list of 1 to 64 box numbers"
abbrev pub most_leaders : ℕ
most_leaders = 64

-- "An entry of n or more": one of the list at least
unfoldable pub has_from : ℕ → List ℕ → Bool
has_from n [] = false
has_from n (i ∷ leaders) = leb n i || has_from n leaders

-- "An entry of n or more, or an empty or longer list, is refused by 1."
unfoldable pub bad_leaders : ℕ → List ℕ → Bool
bad_leaders n leaders = has_from n leaders || (eqb (length leaders) 0 || ltb most_leaders (length leaders))

unfoldable pub leader_rules : ℕ → List ℕ → List Rule
leader_rules n leaders = bad_leaders n leaders ⇒ 1 ∷ []

-- "the list 0 to n−1": k numbers from i on, and all of n
unfoldable pub numbers_from : ℕ → ℕ → List ℕ
numbers_from i zero = []
numbers_from i (suc k) = i ∷ numbers_from (suc i) k

abbrev pub in_turn : ℕ → List ℕ
in_turn n = numbers_from 0 n

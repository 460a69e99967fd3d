-- The leader of a view: by the list that the opening was given (02, 2.1), and by 01's rule. Assumes nothing.
use Rattle.std.specs.Prelude.{ℕ, ◌-◌, ◌%◌, ◌≤◌, ◌<◌, List, length, get_or}
use Rattle.settings.specs.Quorum.{replicas}
use Rattle.settings.specs.Opening.{most_leaders}
use Rattle.memory.specs.Layout.{settings_of, leader_count_of, leaders_of}

-- a rule that says who leads a view, by what the memory keeps
abbrev pub Leading : Type 0
Leading = List ℕ → ℕ → ℕ

-- "the leader of view v is entry (v−1) mod the list's length"
unfoldable pub entry_for : List ℕ → ℕ → ℕ
entry_for leaders v = get_or leaders ((v - 1) % length leaders) 0

-- a list that has a leader for every view: refusal 2 asks this of the memory, and nothing of the entries
abbrev pub Listed : List ℕ → Type 0
Listed m = (0 < leader_count_of m) × (leader_count_of m ≤ most_leaders)

-- the rule that is in force, by the list in the memory
unfoldable pub by_list : Leading
by_list m v = entry_for (leaders_of m) v

-- 01's rule: "The leader of view v ≥ 1 is box (v−1) mod n."
unfoldable pub round_robin : Leading
round_robin m v = (v - 1) % replicas (settings_of m)

-- What an opening leaves, and the part of it that follows the judgement of the settings. Assumes nothing.
use Rattle.std.specs.Prelude.{ℕ, List, [], Result, Ok, Err}
use Rattle.settings.specs.declared.Settings.{Settings}
use Rattle.settings.specs.Answer.{accepts, refuses, judge}
use Rattle.settings.specs.declared.refusal.Refusal.{Refusal}
use Rattle.settings.specs.Refusal.{number}
use Rattle.counters.specs.declared.Counters.{Counters}
use Rattle.settings.specs.Opening.{leader_rules}
use Rattle.blocks.specs.declared.Block.{Block}
use Rattle.counters.specs.Counters.{opened}
use Rattle.protocol.specs.Calls.{Replica, Outcome, outcome, opened_memory, length_rules, ◌then◌}

-- the counters that it leaves, or a refusal, which leaves those that there were
abbrev pub opened_outcome : Counters → Result Counters Refusal → List ℕ → List Block → Outcome
opened_outcome old (Ok new) m l = record { reply = accepts 0; counters = new; memory = m; store = l; output = [] }
opened_outcome old (Err r) m l = record { reply = refuses (number r); counters = old; memory = m; store = l; output = [] }

-- what is judged after the settings and the own number: the leader list and the lengths
unfoldable pub admitted : Replica → Settings → ℕ → ℕ → List ℕ → Outcome
admitted R s n own leaders =
    outcome R [] (judge (leader_rules n leaders then length_rules R) (record { counters = opened; memory = opened_memory R.memory s own leaders; store = R.store; out = [] }))

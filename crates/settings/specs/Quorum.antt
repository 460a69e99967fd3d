-- The number of replicas, p and the five quorums, from the settings alone (01: Settings and thresholds; 02: 2.4). Assumes nothing.
use Rattle.std.specs.Prelude.{ℕ, ◌+◌, ◌-◌, ◌*◌, ◌/◌, ◌^◌}
use Rattle.settings.specs.declared.Settings.{Settings}

-- "n at most 32": the one place where the largest number of replicas stands
abbrev pub largest : ℕ
largest = 32

-- "Views and heights stay at or below 2^62"
abbrev pub last_view : ℕ
last_view = 2 ^ 62

abbrev pub last_height : ℕ
last_height = 2 ^ 62

-- half of a number, rounded up
abbrev pub half_up : ℕ → ℕ
half_up a = (a + 1) / 2

module _ (s : Settings) where
  -- n = 3f + 2c + k + 1
  abbrev pub replicas : ℕ
  replicas = 3 * s.f + 2 * s.c + s.k + 1

  -- p is (c + k) / 2 rounded down
  abbrev pub slack : ℕ
  slack = (s.c + s.k) / 2

  -- block certificate: (n + f + 1) / 2 rounded up, so that two groups of so many replicas share more than f. This is 01's way to say it; what the calls use is
  -- `block_quorum` below, the same number
  abbrev pub intersection_quorum : ℕ
  intersection_quorum = half_up (replicas + s.f + 1)

  -- weak certificate: f + p + 1
  abbrev pub weak_quorum : ℕ
  weak_quorum = s.f + slack + 1

  -- timeout certificate: n - f - c
  abbrev pub timeout_quorum : ℕ
  timeout_quorum = replicas - s.f - s.c

  -- slow release: 2f + c + 1 commits
  abbrev pub slow_quorum : ℕ
  slow_quorum = 2 * s.f + s.c + 1

  -- fast release: n - p votes
  abbrev pub fast_quorum : ℕ
  fast_quorum = replicas - slack

  -- block certificate; 02, 2.4: "the slow release's number plus (k+1)/2 rounded down". For every s it is 01's number: `block_as_before` (proofs/Quorums.antt)
  abbrev pub block_quorum : ℕ
  block_quorum = slow_quorum + (s.k + 1) / 2

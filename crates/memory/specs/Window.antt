-- Which views are kept, and what entering a view drops (01: The box). Assumes nothing.
use Rattle.std.specs.Prelude.{ℕ, zero, suc, ◌+◌, ◌-◌, min, max, Bool, ◌&&◌, List, leb}
use Rattle.settings.specs.Quorum.{last_view}
use Rattle.codec.specs.Names.{name_length}
use Rattle.wire.specs.Fields.{timeout_length}
use Rattle.memory.specs.Layout.{ballot_rows, timeout_rows, vote_row, commit_row, timeout_row}
use Rattle.memory.specs.Kept.{cleared}

-- "for views view−4 (at least 1) to view+3, and timeouts for view to view+3"; a window ends below 2^62
abbrev pub lowest : ℕ → ℕ
lowest view = max 1 (view - 4)

abbrev pub highest : ℕ → ℕ
highest view = min (view + 3) (last_view - 1)

unfoldable pub in_ballot_window : ℕ → ℕ → Bool
in_ballot_window view v = leb (lowest view) v && leb v (highest view)

unfoldable pub in_timeout_window : ℕ → ℕ → Bool
in_timeout_window view v = leb view v && leb v (highest view)

-- the votes and commits of k views from view v on are dropped; the timeouts likewise
unfoldable pub without_ballots : List ℕ → ℕ → ℕ → List ℕ
without_ballots m v zero = m
without_ballots m v (suc k) = without_ballots (cleared (cleared m (vote_row v) name_length) (commit_row v) name_length) (suc v) k

unfoldable pub without_timeouts : List ℕ → ℕ → ℕ → List ℕ
without_timeouts m v zero = m
without_timeouts m v (suc k) = without_timeouts (cleared m (timeout_row v) timeout_length) (suc v) k

-- how many views come into a window of so many rows when a replica goes from one view to a higher one
abbrev pub incoming : ℕ → ℕ → ℕ → ℕ
incoming rows old new = min (new - old) rows

-- entering a view: what leaves the windows is dropped, by clearing the rows of the views that come in, up to new + 3
unfoldable pub entered : List ℕ → ℕ → ℕ → List ℕ
entered m old new =
    let k = incoming ballot_rows old new in
    let j = incoming timeout_rows old new in
    without_timeouts (without_ballots m (new + 4 - k) k) (new + 4 - j) j

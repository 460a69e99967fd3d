-- THE LINES that a run prints, as numbers (01: "Lines: call, answer, then view, timed and tip height after it"), and the bytes in which they are lent. Assumes nothing.
use Rattle.std.specs.Prelude.{ℕ, ◌+◌, cond, List, [], ◌∷◌, ◌++◌, eqb, ltb}
use Rattle.codec.specs.Bytes.{le_bytes}
use Rattle.protocol.specs.Listing.{Line, line}

-- "Under the header, bad settings, empty input or a first record that isn't a well-formed kind 12 print `0 1 0 0 0`"
abbrev pub refused_opening : Line
refused_opening = line 0 1 0 0 0

-- the number of the call after call k, whose answer was a: 0 where there is none, for answer 3 "stops". It stays at the largest number that a counter holds
unfoldable pub next_call : ℕ → ℕ → ℕ
next_call k a = cond (eqb a 3) 0 (cond (ltb k 0xffff_ffff_ffff_ffff) (k + 1) k)

-- a line in a region: its five numbers, 8 bytes each
abbrev pub line_length : ℕ
line_length = 40

unfoldable pub line_bytes : Line → List ℕ
line_bytes l = le_bytes 8 l.call ++ (le_bytes 8 l.answer ++ (le_bytes 8 l.view ++ (le_bytes 8 l.timed ++ le_bytes 8 l.height)))

unfoldable pub lines_bytes : List Line → List ℕ
lines_bytes [] = []
lines_bytes (l ∷ rest) = line_bytes l ++ lines_bytes rest

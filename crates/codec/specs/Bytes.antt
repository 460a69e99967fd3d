-- A part of a list of bytes and a list with a part replaced; numbers as little-endian bytes (01: Records), and as big-endian ones. Assumes nothing.
use Rattle.std.specs.Prelude.{ℕ, zero, suc, ◌+◌, ◌*◌, ◌/◌, ◌%◌, ◌<◌, List, [], ◌∷◌, take, drop, set, get_or}

-- every element is a byte
abbrev pub IsBytes : List ℕ → Type 0
IsBytes s = (i : ℕ) → get_or s i 0 < 256

-- the n bytes of s from place at on
unfoldable pub part : List ℕ → ℕ → ℕ → List ℕ
part s at n = take n (drop at s)

-- s with v in the place of what stands from place at on; what would stand past the end is left out
unfoldable pub patch : List ℕ → ℕ → List ℕ → List ℕ
patch s at [] = s
patch s at (x ∷ v) = patch (set s at x) (suc at) v

-- the number whose bytes are s, the lowest first
unfoldable pub le_nat : List ℕ → ℕ
le_nat [] = 0
le_nat (x ∷ s) = x + 256 * le_nat s

-- the number that is m, continued by the bytes s, the highest first
unfoldable pub be_from : ℕ → List ℕ → ℕ
be_from m [] = m
be_from m (x ∷ s) = be_from (256 * m + x) s

-- the number whose bytes are s, the highest first
abbrev pub be_nat : List ℕ → ℕ
be_nat s = be_from 0 s

-- the k lowest bytes of n, the lowest first
unfoldable pub le_bytes : ℕ → ℕ → List ℕ
le_bytes zero n = []
le_bytes (suc k) n = n % 256 ∷ le_bytes k (n / 256)

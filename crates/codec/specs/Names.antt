-- Names: 32 bytes, compared byte by byte (01: Records). The comparison is defined on byte lists of any length. Assumes nothing.
use Rattle.std.specs.Prelude.{ℕ, Bool, true, false, ◌&&◌, ◌||◌, List, [], ◌∷◌, eqb, ltb, replicate}

abbrev pub name_length : ℕ
name_length = 32

-- the all-zero name: genesis
abbrev pub zero_name : List ℕ
zero_name = replicate name_length 0

-- the same bytes
unfoldable pub same_bytes : List ℕ → List ℕ → Bool
same_bytes [] [] = true
same_bytes [] (y ∷ b) = false
same_bytes (x ∷ a) [] = false
same_bytes (x ∷ a) (y ∷ b) = eqb x y && same_bytes a b

-- the first byte that differs is less in a, or a ends first
unfoldable pub less_bytes : List ℕ → List ℕ → Bool
less_bytes [] [] = false
less_bytes [] (y ∷ b) = true
less_bytes (x ∷ a) [] = false
less_bytes (x ∷ a) (y ∷ b) = ltb x y || (eqb x y && less_bytes a b)

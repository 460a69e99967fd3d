-- Pieces that can be taken from the front of bytes, one after another, and what is left of these. Assumes nothing.
use Rattle.std.specs.Prelude.{ℕ, Bool, true, List, [], ◌∷◌, ◌≡◌, length, drop}
use Rattle.wire.specs.Fields.{length_of}
use Rattle.replay.specs.Input.{sized, Piece, front, used}
use Rattle.replay.specs.Replay.{ready}

-- the first pieces of the bytes b, each of which can be taken, and what is left
pub data Cuts (ended : Bool) : List ℕ → List Piece → List ℕ → Type 0 where
  none : (b : List ℕ) → Cuts ended b [] b
  more : (b rest : List ℕ) (ps : List Piece) → ready ended b ≡ true → Cuts ended (drop (used b) b) ps rest → Cuts ended b (front b ∷ ps) rest

-- bytes that are one record: of a record's length, which they say themselves
pub record IsRecord (r : List ℕ) : Type 0 where
  pub told : length_of r ≡ length r
  pub size : sized (length r) ≡ true

-- Places that do not overlap: what a patch leaves, and the rows of the three tables. Assumes nothing.
use mathlib.Core.Path.{◌≡◌, refl, ◌∙◌}
use mathlib.Core.Logic.{◌⊎◌, inl, inr, ⊎_elim}
use mathlib.Core.List.{List, [], ◌∷◌}
use Prim.Native.Nat.{ℕ, zero, suc, ◌+◌, ◌*◌, ◌%◌, ◌≤◌}
use native.Mathlib.Omega.{arith}
use lib.ListN.{length, take, drop}
use lib.Seq.{take-take}
use Rattle.codec.specs.Bytes.{part, patch}
use Rattle.codec.specs.Names.{name_length}
use Rattle.codec.proofs.Laws.{part_before, part_behind, part-drop}
use Rattle.codec.proofs.Order.{which}
use Rattle.wire.specs.Fields.{timeout_length}
use Rattle.memory.specs.Layout.{row_size, ballot_rows, timeout_rows, votes_place, commits_place, timeouts_place, memory_length}
use Rattle.memory.proofs.Places.{entry_inside}

-- n bytes at a and k bytes at b do not overlap
abbrev pub Apart : ℕ → ℕ → ℕ → ℕ → Type 0
Apart a n b k = (a + n ≤ b) ⊎ (b + k ≤ a)

-- a patch inside the k bytes at b leaves what is apart from them
pub part_off : (s : List ℕ) (at : ℕ) (v : List ℕ) (a n b k : ℕ) → Apart a n b k → b ≤ at → at + length v ≤ b + k → part (patch s at v) a n ≡ part s a n
part_off s at v a n b k o l h = ⊎_elim (λ p. part_before s at v a n (omega arith)) (λ p. part_behind s at v a n (omega arith)) o

-- a part of a part
pub part_inner : (s : List ℕ) (a n b k : ℕ) → b + k ≤ n → part (part s a n) b k ≡ part s (a + b) k
unfolding part
part_inner s a n b k h = go b n (drop a s) h ∙ part-drop s a b k
  where
    go : (b n : ℕ) (l : List ℕ) → b + k ≤ n → take k (drop b (take n l)) ≡ take k (drop b l)
    go zero n l h = take-take k n l (omega arith)
    go (suc b) zero l h = absurd (omega arith)
    go (suc b) (suc n) [] h = refl
    go (suc b) (suc n) (x ∷ l) h = go b n l (omega arith)

-- numbers that differ have rows that are apart
stripes : (base size x y : ℕ) → (x ≡ y → ⊥) → Apart (base + size * x) size (base + size * y) size
stripes base size x y d =
    ⊎_elim (λ h. inl (omega (arith, entry_inside size x y h)))
    (λ r. ⊎_elim (λ e. absurd (d e)) (λ h. inr (omega (arith, entry_inside size y x h))) r)
    (which x y)

-- ---- the three tables
pub data Table : Type 0 where
  votes commits timeouts : Table

abbrev pub place_of : Table → ℕ
place_of votes = votes_place
place_of commits = commits_place
place_of timeouts = timeouts_place

abbrev pub width_of : Table → ℕ
width_of votes = name_length
width_of commits = name_length
width_of timeouts = timeout_length

abbrev pub rows_of : Table → ℕ
rows_of votes = ballot_rows
rows_of commits = ballot_rows
rows_of timeouts = timeout_rows

abbrev pub size_of : Table → ℕ
size_of t = row_size (width_of t)

-- the row of a view: `row_of votes v` is `vote_row v`, and so for the others
abbrev pub row_of : Table → ℕ → ℕ
row_of t v = place_of t + size_of t * (v % rows_of t)

-- every row lies behind the head and inside the memory
pub row_head : (t : Table) (v : ℕ) → votes_place ≤ row_of t v
row_head votes v = omega arith
row_head commits v = omega arith
row_head timeouts v = omega arith

pub row_fits : (t : Table) (v : ℕ) → row_of t v + size_of t ≤ memory_length
row_fits votes v = omega arith
row_fits commits v = omega arith
row_fits timeouts v = omega arith

-- two rows of different tables, or of different places in one table
pub rows_apart : (s t : Table) (u v : ℕ) → (s ≡ t → u % rows_of s ≡ v % rows_of s → ⊥) → Apart (row_of s u) (size_of s) (row_of t v) (size_of t)
rows_apart votes votes u v d = stripes votes_place (size_of votes) (u % ballot_rows) (v % ballot_rows) (d refl)
rows_apart votes commits u v d = inl (omega arith)
rows_apart votes timeouts u v d = inl (omega arith)
rows_apart commits votes u v d = inr (omega arith)
rows_apart commits commits u v d = stripes commits_place (size_of commits) (u % ballot_rows) (v % ballot_rows) (d refl)
rows_apart commits timeouts u v d = inl (omega arith)
rows_apart timeouts votes u v d = inr (omega arith)
rows_apart timeouts commits u v d = inr (omega arith)
rows_apart timeouts timeouts u v d = stripes timeouts_place (size_of timeouts) (u % timeout_rows) (v % timeout_rows) (d refl)

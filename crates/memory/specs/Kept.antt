-- A row of kept votes, commits or timeouts: "the first vote and commit of each box" (01: The box). One definition for any place and width.
-- Assumes nothing.
use Rattle.std.specs.Prelude.{ℕ, zero, suc, ◌+◌, ◌*◌, ◌%◌, ◌^◌, Bool, cond, ◌&&◌, List, [], ◌++◌, replicate}
use Rattle.codec.specs.Bytes.{part, patch, le_bytes}
use Rattle.codec.specs.Names.{name_length, same_bytes}
use Rattle.wire.specs.Fields.{number_at}
use Rattle.certificate.specs.Good.{signer_count}
use Rattle.certificate.specs.Safe.{signs}
use Rattle.certificate.specs.declared.Tally.{Tally}
use Rattle.memory.specs.Layout.{row_size}

-- where replica i's entry stands in a row
abbrev pub entry_at : ℕ → ℕ → ℕ → ℕ
entry_at row width i = row + (8 + width * i)

module _ (m : List ℕ) (row : ℕ) where
  -- the replicas that have an entry
  unfoldable pub mask : ℕ
  mask = number_at m row 8

  unfoldable pub has : ℕ → Bool
  has i = signs mask i

  -- how many of the first n replicas have one
  unfoldable pub kept_count : ℕ → ℕ
  kept_count n = signer_count (mask % 2 ^ n)

  module _ (width : ℕ) where
    unfoldable pub kept : ℕ → List ℕ
    kept i = part m (entry_at row width i) width

    -- replica i's entry; the first one stays
    unfoldable pub keep : ℕ → List ℕ → List ℕ
    keep i e = cond (has i) m (patch (patch m (entry_at row width i) e) row (le_bytes 8 (mask + 2 ^ i)))

    -- "What leaves a window is dropped": no entry, and zero bytes
    unfoldable pub cleared : List ℕ
    cleared = patch m row (replicate (row_size width) 0)

    -- "all that are kept": the entries of k replicas from replica i on, one after another
    unfoldable pub gathered : ℕ → ℕ → List ℕ
    gathered i zero = []
    gathered i (suc k) = cond (has i) (kept i ++ gathered (suc i) k) (gathered (suc i) k)

-- ---- counting, in a row of names: how many of the first n replicas have an entry for x, and which
module _ (m : List ℕ) (row : ℕ) (x : List ℕ) where
  unfoldable pub backs : ℕ → Bool
  backs i = has m row i && same_bytes (kept m row name_length i) x

  -- one replica more
  unfoldable pub tallied : ℕ → Tally → Tally
  tallied i c = cond (backs i) (record { count = c.count + 1; signers = c.signers + 2 ^ i }) c

  unfoldable pub tally : ℕ → Tally
  tally zero = record { count = 0; signers = 0 }
  tally (suc n) = tallied n (tally n)

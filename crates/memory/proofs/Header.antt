-- The fields at the start of the memory: what is put is read, the others stay, and the rows of the tables leave them alone. Assumes nothing.
use mathlib.Core.Path.{◌≡◌, refl, ap, ◌∙◌}
use mathlib.Core.Logic.{inl}
use mathlib.Core.List.{List}
use Prim.Native.Nat.{ℕ, ◌+◌, ◌^◌, ◌≤◌, ◌<◌}
use native.Mathlib.Omega.{arith}
use lib.ListN.{length, take, drop}
use lib.Seq.{take-take}
use Rattle.settings.specs.Quorum.{largest}
use Rattle.settings.specs.Opening.{most_leaders}
use Rattle.codec.specs.Bytes.{IsBytes, part, patch, le_nat, le_bytes}
use Rattle.codec.proofs.Laws.{part_same, part_before, part_behind, length-patch, bytes_patch}
use Rattle.codec.proofs.Le.{le_nat-le_bytes, length-le_bytes}
use Rattle.wire.specs.Fields.{number_at}
use Rattle.memory.specs.Layout.{entry_room, leaders_place, entry_place, votes_place, memory_length, settings_of, own_of, block_count_of, entry_length_of, leader_count_of, leaders_of, entry_of, with_block_count, with_entry, with_leaders}
use Rattle.memory.specs.Kept.{keep, cleared}
use Rattle.memory.proofs.Apart.{Table, row_of, width_of, row_head}
use Rattle.memory.proofs.Keeping.{keep_apart, bytes_le}
use Rattle.memory.proofs.Clearing.{cleared_apart}

-- ---- two memories with the same first bytes have the same fields in them
abbrev pub SameBelow : ℕ → List ℕ → List ℕ → Type 0
SameBelow end m w = (a n : ℕ) → a + n ≤ end → part w a n ≡ part m a n

module _ (m w : List ℕ) (end : ℕ) (same : SameBelow end m w) where
  number_same : (a n : ℕ) → a + n ≤ end → number_at w a n ≡ number_at m a n
  number_same a n h = ap le_nat (same a n h)

  pub settings_same : 8 ≤ end → settings_of w ≡ settings_of m
  unfolding settings_of
  settings_same h = rw (number_same 0 2 (omega arith), number_same 2 2 (omega arith), number_same 4 2 (omega arith))

  pub own_same : 8 ≤ end → own_of w ≡ own_of m
  unfolding own_of
  own_same h = number_same 6 2 (omega arith)

  pub block_count_same : 10 ≤ end → block_count_of w ≡ block_count_of m
  unfolding block_count_of
  block_count_same h = number_same 8 2 (omega arith)

  pub entry_length_same : 12 ≤ end → entry_length_of w ≡ entry_length_of m
  unfolding entry_length_of
  entry_length_same h = number_same 10 2 (omega arith)

  pub entry_same : 12 ≤ end → entry_place + entry_length_of m ≤ end → entry_of w ≡ entry_of m
  unfolding entry_of
  entry_same h l = rw (entry_length_same h) (same entry_place (entry_length_of m) l)

-- ---- the leader list goes by its own bytes alone
pub record SameLeaders (m w : List ℕ) : Type 0 where
  pub count : leader_count_of w ≡ leader_count_of m
  pub list : leaders_of w ≡ leaders_of m

leaders_by : (m w : List ℕ) → part w 12 2 ≡ part m 12 2 → part w leaders_place most_leaders ≡ part m leaders_place most_leaders → SameLeaders m w
unfolding leaders_of leader_count_of
leaders_by m w a b = record { count = ap le_nat a; list = rw (a, b) }

pub leaders_refl : (m : List ℕ) → SameLeaders m m
leaders_refl m = record { count = refl; list = refl }

pub leaders_trans : (m w s : List ℕ) → SameLeaders m w → SameLeaders w s → SameLeaders m s
leaders_trans m w s a b = record { count = b.count ∙ a.count; list = b.list ∙ a.list }

-- ---- all fields are the same; the entry certificate, if its length is one that can be
pub record SameHeader (m w : List ℕ) : Type 0 where
  pub settings : settings_of w ≡ settings_of m
  pub own : own_of w ≡ own_of m
  pub block_count : block_count_of w ≡ block_count_of m
  pub entry_length_kept : entry_length_of w ≡ entry_length_of m
  pub leaders : SameLeaders m w
  pub entry : entry_length_of m ≤ entry_room → entry_of w ≡ entry_of m

pub same_header : (m w : List ℕ) → SameBelow votes_place m w → SameHeader m w
same_header m w s =
    record {
      settings = settings_same m w votes_place s (omega arith);
      own = own_same m w votes_place s (omega arith);
      block_count = block_count_same m w votes_place s (omega arith);
      entry_length_kept = entry_length_same m w votes_place s (omega arith);
      leaders = leaders_by m w (s 12 2 (omega arith)) (s leaders_place most_leaders (omega arith));
      entry = λ l. entry_same m w votes_place s (omega arith) (omega arith);
    }

-- a row of a table, kept in or cleared
pub keep_head : (m : List ℕ) (t : Table) (v i : ℕ) (e : List ℕ) → length e ≡ width_of t → i < largest → SameBelow votes_place m (keep m (row_of t v) (width_of t) i e)
keep_head m t v i e l h a n o = keep_apart m (row_of t v) (width_of t) i e a n l h (inl (omega (arith, row_head t v)))

pub cleared_head : (m : List ℕ) (t : Table) (v : ℕ) → SameBelow votes_place m (cleared m (row_of t v) (width_of t))
cleared_head m t v a n o = cleared_apart m (row_of t v) (width_of t) a n (inl (omega (arith, row_head t v)))

-- ---- the number of held blocks is put
module _ (m : List ℕ) (k : ℕ) where
  pub length_with_count : length (with_block_count m k) ≡ length m
  unfolding with_block_count
  length_with_count = length-patch m 8 (le_bytes 2 k)

  pub bytes_with_count : IsBytes m → IsBytes (with_block_count m k)
  unfolding with_block_count
  bytes_with_count b = bytes_patch m 8 (le_bytes 2 k) b (bytes_le 2 k)

  pub count_before : SameBelow 8 m (with_block_count m k)
  unfolding with_block_count
  count_before a n h = part_before m 8 (le_bytes 2 k) a n h

  pub count_behind : (a n : ℕ) → 10 ≤ a → part (with_block_count m k) a n ≡ part m a n
  unfolding with_block_count
  count_behind a n h = part_behind m 8 (le_bytes 2 k) a n (omega (arith, length-le_bytes 2 k))

  pub count_put : k < 2 ^ 16 → 10 ≤ length m → block_count_of (with_block_count m k) ≡ k
  unfolding block_count_of with_block_count
  count_put h l = ap le_nat (part_same m 8 (le_bytes 2 k) 2 (length-le_bytes 2 k) (omega arith)) ∙ le_nat-le_bytes 2 k h

  pub count_settings : settings_of (with_block_count m k) ≡ settings_of m
  count_settings = settings_same m (with_block_count m k) 8 count_before (omega arith)

  pub count_own : own_of (with_block_count m k) ≡ own_of m
  count_own = own_same m (with_block_count m k) 8 count_before (omega arith)

  pub count_leaders : SameLeaders m (with_block_count m k)
  count_leaders = leaders_by m (with_block_count m k) (count_behind 12 2 (omega arith)) (count_behind leaders_place most_leaders (omega arith))

  pub count_entry_length : entry_length_of (with_block_count m k) ≡ entry_length_of m
  unfolding entry_length_of
  count_entry_length = ap le_nat (count_behind 10 2 (omega arith))

  pub count_entry : entry_of (with_block_count m k) ≡ entry_of m
  unfolding entry_of
  count_entry = rw count_entry_length (count_behind entry_place (entry_length_of m) (omega arith))

-- ---- the entry certificate is put
module _ (m r : List ℕ) where
  pub length-with_entry : length (with_entry m r) ≡ length m
  unfolding with_entry
  length-with_entry = simp length-patch

  pub bytes_with_entry : IsBytes m → IsBytes r → IsBytes (with_entry m r)
  unfolding with_entry
  bytes_with_entry b c = bytes_patch _ _ r (bytes_patch m 10 (le_bytes 2 (length r)) b (bytes_le 2 (length r))) c

  pub entry_before : SameBelow 10 m (with_entry m r)
  unfolding with_entry
  entry_before a n h = part_before _ _ r a n (omega arith) ∙ part_before m 10 (le_bytes 2 (length r)) a n h

  pub entry_settings : settings_of (with_entry m r) ≡ settings_of m
  entry_settings = settings_same m (with_entry m r) 10 entry_before (omega arith)

  pub entry_own : own_of (with_entry m r) ≡ own_of m
  entry_own = own_same m (with_entry m r) 10 entry_before (omega arith)

  pub entry_block_count : block_count_of (with_entry m r) ≡ block_count_of m
  entry_block_count = block_count_same m (with_entry m r) 10 entry_before (omega arith)

  -- the leader list stands between the length and the certificate
  entry_between : (a n : ℕ) → 12 ≤ a → a + n ≤ entry_place → part (with_entry m r) a n ≡ part m a n
  unfolding with_entry
  entry_between a n l h = part_before _ _ r a n (omega (arith, h)) ∙ part_behind m 10 (le_bytes 2 (length r)) a n (omega (arith, length-le_bytes 2 (length r)))

  pub entry_leaders : SameLeaders m (with_entry m r)
  entry_leaders = leaders_by m (with_entry m r) (entry_between 12 2 (omega arith) (omega arith)) (entry_between leaders_place most_leaders (omega arith) (omega arith))

  module _ (h : length r ≤ entry_room) where
    -- the tables
    pub entry_behind : (a n : ℕ) → votes_place ≤ a → part (with_entry m r) a n ≡ part m a n
    unfolding with_entry
    entry_behind a n l = part_behind _ entry_place r a n (omega arith) ∙ part_behind m 10 (le_bytes 2 (length r)) a n (omega (arith, length-le_bytes 2 (length r)))

    module _ (l : memory_length ≤ length m) where
      pub entry_length_put : entry_length_of (with_entry m r) ≡ length r
      unfolding entry_length_of with_entry
      entry_length_put =
          ap le_nat (part_before _ entry_place r 10 2 (omega arith) ∙ part_same m 10 (le_bytes 2 (length r)) 2 (length-le_bytes 2 (length r)) (omega arith))
          ∙ le_nat-le_bytes 2 (length r) (omega arith)

      pub entry_put : entry_of (with_entry m r) ≡ r
      unfolding entry_of with_entry
      entry_put = rw entry_length_put (part_same (patch m 10 (le_bytes 2 (length r))) entry_place r (length r) refl (simp length-patch (omega arith)))

-- ---- the leader list is put
module _ (m l : List ℕ) where
  pub length-with_leaders : length (with_leaders m l) ≡ length m
  unfolding with_leaders
  length-with_leaders = simp length-patch

  pub bytes_with_leaders : IsBytes m → IsBytes l → IsBytes (with_leaders m l)
  unfolding with_leaders
  bytes_with_leaders b c = bytes_patch _ leaders_place l (bytes_patch m 12 (le_bytes 2 (length l)) b (bytes_le 2 (length l))) c

  pub leaders_before : SameBelow 12 m (with_leaders m l)
  unfolding with_leaders
  leaders_before a n h = part_before _ leaders_place l a n (omega arith) ∙ part_before m 12 (le_bytes 2 (length l)) a n h

  module _ (h : length l ≤ most_leaders) (long : entry_place ≤ length m) where
    pub leader_count_put : leader_count_of (with_leaders m l) ≡ length l
    unfolding leader_count_of with_leaders
    leader_count_put =
        ap le_nat (part_before _ leaders_place l 12 2 (omega arith) ∙ part_same m 12 (le_bytes 2 (length l)) 2 (length-le_bytes 2 (length l)) (omega arith))
        ∙ le_nat-le_bytes 2 (length l) (omega arith)

    list_put : part (with_leaders m l) leaders_place (length l) ≡ l
    unfolding with_leaders
    list_put = part_same (patch m 12 (le_bytes 2 (length l))) leaders_place l (length l) refl (simp length-patch (omega arith))

    -- of the 64 places the first are the list
    pub leaders_put : leaders_of (with_leaders m l) ≡ l
    unfolding leaders_of part
    leaders_put =
        ap (λ (k : ℕ). take k (take most_leaders (drop leaders_place (with_leaders m l)))) leader_count_put
        ∙ (take-take (length l) most_leaders (drop leaders_place (with_leaders m l)) h ∙ list_put)

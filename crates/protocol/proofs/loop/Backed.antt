-- A name that somebody backs is an entry of the row, and an entry of a row of names is a name. Assumes nothing.
use mathlib.Core.Path.{◌≡◌, refl, subst}
use mathlib.Core.Bool.{Bool, true, false, cond}
use mathlib.Core.List.{List}
use Prim.Native.Nat.{ℕ, zero, suc, ◌+◌, ◌≤◌, ◌<◌}
use native.Mathlib.Omega.{arith}
use lib.ListN.{length, drop}
use Rattle.settings.specs.Quorum.{largest}
use Rattle.codec.specs.Bytes.{IsBytes, part}
use Rattle.codec.specs.Names.{name_length, same_bytes}
use Rattle.codec.proofs.Le.{bytes_take, bytes_drop}
use Rattle.codec.proofs.Order.{and_true, same_eq}
use Rattle.wire.specs.Fit.{IsName}
use Rattle.memory.specs.Layout.{row_size}
use Rattle.memory.specs.Kept.{entry_at, has, kept, backs, tally}
use Rattle.memory.proofs.Bits.{counted}
use Rattle.memory.proofs.Rows.{length-kept}
use Rattle.memory.proofs.Counting.{tally-counted}
use Rattle.memory.proofs.Choosing.{Entry}

-- somebody passes a test that counts somebody
pub record Passing (t : ℕ → Bool) (n : ℕ) : Type 0 where
  pub who : ℕ
  pub low : who < n
  pub passes : t who ≡ true

pub counted_some : (t : ℕ → Bool) (n : ℕ) → 0 < counted t n → Passing t n
unfolding counted
counted_some t zero h = absurd (omega arith)
counted_some t (suc n) h = go (t n) refl h (counted_some t n)
  where
    go : (p : Bool) → t n ≡ p → 0 < cond p (suc (counted t n)) (counted t n) → (0 < counted t n → Passing t n) → Passing t (suc n)
    go true e l f = record { who = n; low = omega arith; passes = e }
    go false e l f = let r = f l in record { who = r.who; low = omega (arith, r.low); passes = r.passes }

pub backed_entry : (m : List ℕ) (row : ℕ) (x : List ℕ) (n : ℕ) → 0 < (tally m row x n).count → Entry m row n x
unfolding backs
backed_entry m row x n h =
    let r = counted_some (backs m row x) n (rw (tally-counted m row x n) at h) in
    let p = and_true (has m row r.who) (same_bytes (kept m row name_length r.who) x) r.passes in
    record { by = r.who; low = r.low; there = p.0; name = same_eq (kept m row name_length r.who) x p.1 }

bytes_kept : (m : List ℕ) (row width i : ℕ) → IsBytes m → IsBytes (kept m row width i)
unfolding kept part
bytes_kept m row width i b = bytes_take width (drop (entry_at row width i) m) (bytes_drop (entry_at row width i) m b)

pub entry_name : (m : List ℕ) (row n : ℕ) (x : List ℕ) → n ≤ largest → IsBytes m → row + row_size name_length ≤ length m → Entry m row n x → IsName x
entry_name m row n x h b l e =
    subst IsName e.name
    (record { size = length-kept m row name_length e.by largest (omega (arith, e.low)) l; bytes = bytes_kept m row name_length e.by b })

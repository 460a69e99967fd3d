-- Entries lie inside their row. Assumes nothing.
use mathlib.Core.Path.{◌≡◌, ap, subst, ◌∙◌}
use Prim.Native.Nat.{ℕ, ◌+◌, ◌*◌, ◌≤◌, ◌<◌}
use native.Mathlib.Nat.{mul-suc, mul-le-mul_left, mul-le-mul, le_of_lt}
use native.Mathlib.Numerals.{add-one}
use Rattle.settings.specs.Quorum.{largest}

-- replica i's entry ends where the row ends or before
pub entry_inside : (width i n : ℕ) → i < n → width * i + width ≤ width * n
entry_inside width i n h = subst (λ (x : ℕ). x ≤ width * n) (mul-suc width i) (mul-le-mul_left width h)

-- an entry's place is a small number
pub entry_small : (width i : ℕ) → width ≤ 65535 → i < largest → width * i ≤ 65535 * largest
entry_small width i w h = mul-le-mul w (le_of_lt h)

pub next_place : (width i : ℕ) → width * (i + 1) ≡ width * i + width
next_place width i = ap (λ (k : ℕ). width * k) (add-one i) ∙ mul-suc width i

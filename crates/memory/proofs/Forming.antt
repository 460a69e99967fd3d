-- Choosing among the names of a row, and the timeout certificate formed of a row, as the code goes. Assumes nothing.
use mathlib.Core.Path.{◌≡◌, sym, ap, ap₂, ◌∙◌}
use mathlib.Core.Bool.{Bool}
use mathlib.Core.List.{List, ◌++◌, append_assoc}
use Prim.Native.Nat.{ℕ, ◌+◌, ◌-◌}
use native.Mathlib.Numerals.{add-one}
use native.Mathlib.Omega.{arith}
use lib.ListN.{length}
use Rattle.codec.specs.Bytes.{patch}
use Rattle.codec.proofs.Laws.{patch_append, patch_comm}
use Rattle.wire.specs.Encode.{timeouts_bytes, timeouts_head_bytes}
use Rattle.wire.proofs.Lengths.{length_timeouts_head, length_timeouts}
use Rattle.memory.specs.Decided.{Choice, consider, choose}

-- one replica more is considered
pub choose_on : (m : List ℕ) (row : ℕ) (test : List ℕ → Bool) (after first : Choice) (k : ℕ) {b d : Choice} → b ≡ choose m row test after first k → d ≡ consider m row test after k b → d ≡ choose m row test after first (k + 1)
unfolding choose
choose_on m row test after first k e f = f ∙ ap (consider m row test after k) e ∙ ap (choose m row test after first) (sym (add-one k))

head_before : (sender view : ℕ) (row : List ℕ) → timeouts_head_bytes sender view (length row) ++ row ≡ timeouts_bytes sender view row
unfolding timeouts_bytes timeouts_head_bytes
head_before sender view row = simp append_assoc

-- the row is written behind the head, and then the head
pub form_made : (sender view at : ℕ) (out row : List ℕ) {to size : ℕ} {mid after : List ℕ}
    → to ≡ at + 24 + length row → mid ≡ patch out (at + 24) row
    → size ≡ to - (at + 24) → after ≡ patch mid at (timeouts_head_bytes sender view size)
    → (to ≡ at + length (timeouts_bytes sender view row)) × (after ≡ patch out at (timeouts_bytes sender view row))
form_made sender view at out row {to} {size} e f s g =
    let n : size ≡ length row = omega arith in
    let l = length_timeouts_head sender view (length row) in (
      omega (arith, length_timeouts sender view row),
      g ∙ ap₂ (λ (x : List ℕ) (k : ℕ). patch x at (timeouts_head_bytes sender view k)) f n
          ∙ sym (patch_comm out at (timeouts_head_bytes sender view (length row)) (at + 24) row (omega arith))
          ∙ ap (λ (k : ℕ). patch (patch out at (timeouts_head_bytes sender view (length row))) (at + k) row) (sym l)
          ∙ sym (patch_append out at (timeouts_head_bytes sender view (length row)) row)
          ∙ ap (patch out at) (head_before sender view row),
    )

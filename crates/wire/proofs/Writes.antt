-- A record that is written field by field: what stands in the region after each store. Assumes nothing.
use mathlib.Core.Path.{◌≡◌, refl, sym, ap, ◌∙◌}
use mathlib.Core.List.{List, ◌++◌}
use Prim.Native.Nat.{ℕ, ◌+◌}
use lib.ListN.{length, replicate, length-append}
use Rattle.codec.specs.Bytes.{patch, le_bytes}
use Rattle.codec.proofs.Laws.{patch_append}

-- t is s with the k bytes v at place at
pub record Written (s : List ℕ) (at k : ℕ) (t v : List ℕ) : Type 0 where
  pub is : t ≡ patch s at v
  pub size : length v ≡ k

pub first : {t : List ℕ} {k : ℕ} (s : List ℕ) (at : ℕ) (v : List ℕ) → t ≡ patch s at v → length v ≡ k → Written s at k t v
first s at v e l = record { is = e; size = l }

-- one field more
pub next : {s t u v : List ℕ} {at k : ℕ} (w : List ℕ) (m : ℕ) → Written s at k t v → u ≡ patch t (at + k) w → length w ≡ m → Written s at (k + m) u (v ++ w)
next {s} {t} {u} {v} {at} {k} w m a e l = record {
  is = e ∙ ap (λ (x : List ℕ). patch x (at + k) w) a.is ∙ ap (λ (j : ℕ). patch (patch s at v) (at + j) w) (sym a.size) ∙ sym (patch_append s at v w);
  size = length-append v w ∙ ap (λ (i : ℕ). i + length w) a.size ∙ ap (λ (j : ℕ). k + j) l;
}

-- the fields, grouped otherwise
pub whole : {s t v : List ℕ} {at k : ℕ} (w : List ℕ) → Written s at k t v → v ≡ w → t ≡ patch s at w
whole {s} {t} {v} {at} w a e = a.is ∙ ap (patch s at) e

-- the number 0 in six bytes is six zero bytes
pub zeros : le_bytes 6 0 ≡ replicate 6 0
unfolding le_bytes
zeros = refl

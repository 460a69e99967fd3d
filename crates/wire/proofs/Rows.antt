-- A record as a row of fields, each a number or bytes of a fixed width: what is written is read, and the other way round. Assumes nothing.
use mathlib.Core.Path.{◌≡◌, refl, sym, ap, ap₂, ◌∙◌, subst}
use mathlib.Core.List.{List, [], ◌∷◌, ◌++◌}
use Prim.Native.Nat.{ℕ, zero, suc, ◌+◌, ◌/◌, ◌^◌, ◌≤◌, ◌<◌}
use native.Mathlib.Nat.{add_assoc, add-zero}
use native.Mathlib.Omega.{arith}
use lib.Dec.{lit<}
use lib.ListN.{length, take, drop, length-append, take-append-drop}
use lib.Seq.{take_at, drop_at, drop-drop}
use Rattle.codec.specs.Bytes.{IsBytes, le_nat, le_bytes, part}
use Rattle.codec.proofs.Laws.{length-part}
use Rattle.codec.proofs.Le.{bytes_append, bytes_part, le_nat_lt, length-le_bytes, le_nat-le_bytes, le_bytes-le_nat}
use Rattle.wire.specs.Fit.{All}

-- ---- bytes
pub bytes_le_bytes : (k n : ℕ) → IsBytes (le_bytes k n)
unfolding le_bytes
bytes_le_bytes zero n i = lit< tt
bytes_le_bytes (suc k) n zero = omega arith
bytes_le_bytes (suc k) n (suc i) = bytes_le_bytes k (n / 256) i

-- ---- a field: a number in k bytes, or k bytes as they are
pub data Field : Type 0 where
  num : ℕ → ℕ → Field
  raw : ℕ → List ℕ → Field

abbrev pub wide : Field → ℕ
wide (num k n) = k
wide (raw k s) = k

abbrev pub bytes_of : Field → List ℕ
bytes_of (num k n) = le_bytes k n
bytes_of (raw k s) = s

-- it fits its width
abbrev pub FieldFits : Field → Type 0
FieldFits (num k n) = n < 256 ^ k
FieldFits (raw k s) = (length s ≡ k) × IsBytes s

-- the bytes p say it
abbrev pub Says : Field → List ℕ → Type 0
Says (num k n) p = le_nat p ≡ n
Says (raw k s) p = p ≡ s

length-bytes_of : (f : Field) → FieldFits f → length (bytes_of f) ≡ wide f
length-bytes_of (num k n) h = length-le_bytes k n
length-bytes_of (raw k s) h = h.0

bytes_bytes_of : (f : Field) → FieldFits f → IsBytes (bytes_of f)
bytes_bytes_of (num k n) h = bytes_le_bytes k n
bytes_bytes_of (raw k s) h = h.1

says_own : (f : Field) → FieldFits f → Says f (bytes_of f)
says_own (num k n) h = le_nat-le_bytes k n h
says_own (raw k s) h = refl

module _ (p : List ℕ) (b : IsBytes p) where
  own_says : (f : Field) → length p ≡ wide f → Says f p → bytes_of f ≡ p
  own_says (num k n) l e = ap₂ le_bytes (sym l) (sym e) ∙ le_bytes-le_nat p b
  own_says (raw k s) l e = sym e

  fits_says : (f : Field) → length p ≡ wide f → Says f p → FieldFits f
  fits_says (num k n) l e = rw (← l, ← e) (le_nat_lt p b)
  fits_says (raw k s) l e = rw (← e) (l, b)

-- ---- a row of fields, with what stands behind it
abbrev pub width : List Field → ℕ
width [] = 0
width (f ∷ fs) = wide f + width fs

abbrev pub written : List Field → List ℕ → List ℕ
written [] rest = rest
written (f ∷ fs) rest = bytes_of f ++ written fs rest

-- the bytes of r from place at on say the fields, one after another
abbrev pub Reads : List ℕ → ℕ → List Field → Type 0
Reads r at [] = Unit {0}
Reads r at (f ∷ fs) = Says f (part r at (wide f)) × Reads r (at + wide f) fs

pub length_written : (fs : List Field) (rest : List ℕ) → All FieldFits fs → length (written fs rest) ≡ width fs + length rest
unfolding All
length_written [] rest h = omega arith
length_written (f ∷ fs) rest h =
    length-append (bytes_of f) (written fs rest)
    ∙ (let a = length-bytes_of f h.0 in let b = length_written fs rest h.1 in omega arith)

pub bytes_written : (fs : List Field) (rest : List ℕ) → All FieldFits fs → IsBytes rest → IsBytes (written fs rest)
unfolding All
bytes_written [] rest h b = b
bytes_written (f ∷ fs) rest h b = bytes_append (bytes_of f) (written fs rest) (bytes_bytes_of f h.0) (bytes_written fs rest h.1 b)

pub drop-written : (fs : List Field) (rest : List ℕ) → All FieldFits fs → drop (width fs) (written fs rest) ≡ rest
unfolding All
drop-written [] rest h = refl
drop-written (f ∷ fs) rest h =
    sym (drop-drop (width fs) (wide f) (bytes_of f ++ written fs rest))
    ∙ ap (drop (width fs)) (drop_at (bytes_of f) (written fs rest) (wide f) (length-bytes_of f h.0))
    ∙ drop-written fs rest h.1

-- what is written is read
pub reads_written : (r : List ℕ) (at : ℕ) (fs : List Field) (rest : List ℕ) → All FieldFits fs → drop at r ≡ written fs rest → Reads r at fs
unfolding All part
reads_written r at [] rest h e = tt
reads_written r at (f ∷ fs) rest h e =
    let l = length-bytes_of f h.0 in (
      subst (Says f) (sym (ap (take (wide f)) e ∙ take_at (bytes_of f) (written fs rest) (wide f) l)) (says_own f h.0),
      reads_written r (at + wide f) fs rest h.1
          (sym (drop-drop (wide f) at r) ∙ ap (drop (wide f)) e ∙ drop_at (bytes_of f) (written fs rest) (wide f) l),
    )

-- what is read is written
module _ (r : List ℕ) (b : IsBytes r) where
  pub written_reads : (at : ℕ) (fs : List Field) → at + width fs ≤ length r → Reads r at fs → written fs (drop (at + width fs) r) ≡ drop at r
  unfolding part
  written_reads at [] l h = rw add-zero
  written_reads at (f ∷ fs) l h =
      ap₂ (λ (p q : List ℕ). p ++ q)
      (own_says (part r at (wide f)) (bytes_part r at (wide f) b) f (length-part r at (wide f) (omega arith)) h.0)
      (ap (λ (n : ℕ). written fs (drop n r)) (sym (add_assoc at (wide f) (width fs)))
      ∙ written_reads (at + wide f) fs (omega arith) h.1
      ∙ sym (drop-drop (wide f) at r))
      ∙ take-append-drop (wide f) (drop at r)

  pub fits_reads : (at : ℕ) (fs : List Field) → at + width fs ≤ length r → Reads r at fs → All FieldFits fs
  unfolding All
  fits_reads at [] l h = tt
  fits_reads at (f ∷ fs) l h = (
    fits_says (part r at (wide f)) (bytes_part r at (wide f) b) f (length-part r at (wide f) (omega arith)) h.0,
    fits_reads (at + wide f) fs (omega arith) h.1,
  )

-- The timeouts inside a timeout certificate: cutting a row of them and joining it. Assumes nothing.
use mathlib.Core.Path.{◌≡◌, refl, sym, ap, ap₂, ◌∙◌}
use mathlib.Core.List.{List, [], ◌∷◌, ◌++◌, map}
use Prim.Native.Nat.{ℕ, zero, suc, ◌*◌, ◌≤◌}
use native.Mathlib.Omega.{arith}
use lib.ListN.{length, take, drop, length-drop, length-map, take-append-drop}
use lib.Seq.{take_at, drop_at, length-take-le}
use Rattle.codec.specs.Bytes.{IsBytes}
use Rattle.codec.proofs.Le.{bytes_drop, bytes_take}
use Rattle.wire.specs.declared.Timeout.{Timeout}
use Rattle.wire.specs.Fields.{timeout_length, cut}
use Rattle.wire.specs.Encode.{timeout_bytes, joined}
use Rattle.wire.specs.Fit.{All, TimeoutFits}
use Rattle.wire.proofs.Lengths.{length_timeout}

-- ---- every element of a list
module _ {A B : Type 0} where
  pub all_map : (P : A → Type 0) (Q : B → Type 0) (f : A → B) (l : List A) → ((x : A) → P x → Q (f x)) → All P l → All Q (map f l)
  unfolding All
  all_map P Q f [] g h = tt
  all_map P Q f (x ∷ l) g h = (g x h.0, all_map P Q f l g h.1)

module _ {A : Type 0} where
  pub all_impl : (P Q : A → Type 0) (l : List A) → ((x : A) → P x → Q x) → All P l → All Q l
  unfolding All
  all_impl P Q [] g h = tt
  all_impl P Q (x ∷ l) g h = (g x h.0, all_impl P Q l g h.1)

  pub all_both : (P Q : A → Type 0) (l : List A) → All P l → All Q l → All (λ x. P x × Q x) l
  unfolding All
  all_both P Q [] g h = tt
  all_both P Q (x ∷ l) g h = ((g.0, h.0), all_both P Q l g.1 h.1)

  pub map_back : {B : Type 0} (f : A → B) (g : B → A) (l : List A) → All (λ x. g (f x) ≡ x) l → map g (map f l) ≡ l
  unfolding All
  map_back f g [] h = refl
  map_back f g (x ∷ l) h = ap₂ (λ (a : A) (m : List A). a ∷ m) h.0 (map_back f g l h.1)

-- ---- the cut
abbrev pub FullLength : List ℕ → Type 0
FullLength s = length s ≡ timeout_length

cut_joined : (l : List (List ℕ)) → All FullLength l → cut (length l) (joined l) ≡ l
unfolding All cut joined
cut_joined [] h = refl
cut_joined (s ∷ l) h =
    ap₂ (λ (a : List ℕ) (m : List (List ℕ)). a ∷ m) (take_at s (joined l) timeout_length h.0)
    (ap (cut (length l)) (drop_at s (joined l) timeout_length h.0) ∙ cut_joined l h.1)

pub joined-cut : (k : ℕ) (s : List ℕ) → length s ≡ timeout_length * k → joined (cut k s) ≡ s
unfolding cut joined
joined-cut zero [] e = refl
joined-cut zero (x ∷ s) e = absurd (omega arith)
joined-cut (suc k) s e =
    ap (λ (t : List ℕ). take timeout_length s ++ t) (joined-cut k (drop timeout_length s) (simp length-drop (omega arith)))
    ∙ take-append-drop timeout_length s

pub cut_whole : (k : ℕ) (s : List ℕ) → IsBytes s → timeout_length * k ≤ length s → All (λ t. FullLength t × IsBytes t) (cut k s)
unfolding All cut
cut_whole zero s b h = tt
cut_whole (suc k) s b h = (
  (length-take-le timeout_length s (omega arith), bytes_take timeout_length s b),
  cut_whole k (drop timeout_length s) (bytes_drop timeout_length s b) (simp length-drop (omega arith)),
)

-- the row of a certificate's timeouts, cut
pub cut_row : (ts : List Timeout) → All TimeoutFits ts → cut (length ts) (joined (map timeout_bytes ts)) ≡ map timeout_bytes ts
cut_row ts h =
    ap (λ (k : ℕ). cut k (joined (map timeout_bytes ts))) (sym (length-map ts timeout_bytes))
    ∙ cut_joined (map timeout_bytes ts) (all_map TimeoutFits FullLength timeout_bytes ts length_timeout h)

-- The laws of little-endian bytes, over the byte count. Assumes nothing.
use mathlib.Core.Path.{◌≡◌, refl, ap, ap₂, ◌∙◌}
use mathlib.Core.List.{List, [], ◌∷◌, ◌++◌}
use Prim.Native.Nat.{ℕ, zero, suc, ◌+◌, ◌*◌, ◌-◌, ◌/◌, ◌%◌, ◌^◌, ◌≤◌, ◌<◌}
use native.Mathlib.Numerals.{add-one}
use native.Mathlib.Nat.{lt_of_lt_of_le, pow-le-pow_right, pow-suc}
use native.Mathlib.Omega.{arith}
use lib.ListN.{length, take, drop, length-take}
use lib.Seq.{get_or-drop, take-suc-set, take_all}
use Rattle.std.proofs.Common.{append_assoc, append-nil}
use lib.Dec.{lit<}
use lib.ListN.{set}
use Rattle.codec.specs.Bytes.{IsBytes, le_nat, le_bytes, part}

pub bytes_drop : (n : ℕ) (s : List ℕ) → IsBytes s → IsBytes (drop n s)
bytes_drop n s b i = rw get_or-drop (b (n + i))

pub bytes_take : (n : ℕ) (s : List ℕ) → IsBytes s → IsBytes (take n s)
bytes_take zero s b i = lit< tt
bytes_take (suc n) [] b i = lit< tt
bytes_take (suc n) (x ∷ s) b zero = b 0
bytes_take (suc n) (x ∷ s) b (suc i) = bytes_take n s (λ j. b (suc j)) i

pub bytes_part : (s : List ℕ) (at n : ℕ) → IsBytes s → IsBytes (part s at n)
unfolding part
bytes_part s at n b = bytes_take n (drop at s) (bytes_drop at s b)

pub bytes_append : (s t : List ℕ) → IsBytes s → IsBytes t → IsBytes (s ++ t)
bytes_append [] t hs ht i = ht i
bytes_append (x ∷ s) t hs ht zero = hs 0
bytes_append (x ∷ s) t hs ht (suc i) = bytes_append s t (λ j. hs (suc j)) ht i

-- THE fact over the byte count: k bytes make a number below 256 ^ k
pub le_nat_lt : (s : List ℕ) → IsBytes s → le_nat s < 256 ^ length s
unfolding le_nat
le_nat_lt [] b = lit< tt
le_nat_lt (x ∷ s) b = rw pow-suc (omega (arith, le_nat_lt s (λ i. b (suc i)), b 0))

pub le_nat_below : (k : ℕ) (s : List ℕ) → IsBytes s → length s ≤ k → le_nat s < 256 ^ k
le_nat_below k s b h = lt_of_lt_of_le (le_nat_lt s b) (pow-le-pow_right (lit< tt) h)

pub le_nat-part : (k : ℕ) (s : List ℕ) (at : ℕ) → IsBytes s → le_nat (part s at k) < 256 ^ k
unfolding part
le_nat-part k s at b =
    le_nat_below k (take k (drop at s)) (bytes_take k (drop at s) (bytes_drop at s b)) (simp length-take (omega arith))

pub length-le_bytes : (k n : ℕ) → length (le_bytes k n) ≡ k
unfolding le_bytes
length-le_bytes zero n = refl
length-le_bytes (suc k) n = ap suc (length-le_bytes k (n / 256))

pub le_nat-le_bytes : (k n : ℕ) → n < 256 ^ k → le_nat (le_bytes k n) ≡ n
unfolding le_nat le_bytes
le_nat-le_bytes zero n h = omega arith
le_nat-le_bytes (suc k) n h =
    let g : n < 256 ^ k * 256 = rw pow-suc at h in
    let e = le_nat-le_bytes k (n / 256) (omega arith) in
    omega arith

pub le_bytes-le_nat : (s : List ℕ) → IsBytes s → le_bytes (length s) (le_nat s) ≡ s
unfolding le_nat le_bytes
le_bytes-le_nat [] b = refl
le_bytes-le_nat (x ∷ s) b =
    let h : x < 256 = b 0 in
    ap₂ (λ (y : ℕ) (t : List ℕ). y ∷ t) (omega arith)
    (ap (λ (m : ℕ). le_bytes (length s) m) (omega arith) ∙ le_bytes-le_nat s (λ i. b (suc i)))

-- one turn of the loop that writes, and its end
pub put_le_turn : (s : List ℕ) (i k y : ℕ) → i < length s → i < k → take (i + 1) (set s i (y % 256)) ++ le_bytes (k - (i + 1)) (y / 256) ≡ take i s ++ le_bytes (k - i) y
unfolding le_bytes
put_le_turn s i k y h l =
    let e : k - i ≡ suc (k - (i + 1)) = omega arith in
    rw (e, add-one, take-suc-set s i (y % 256), append_assoc)

pub put_le_end : (s : List ℕ) (i k y : ℕ) → length s ≡ k → k ≤ i → take i s ++ le_bytes (k - i) y ≡ s
unfolding le_bytes
put_le_end s i k y h l =
    let e : k - i ≡ 0 = omega arith in
    let all : length s ≤ i = omega arith in
    rw (e, take_all i s, append-nil)

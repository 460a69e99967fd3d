-- The laws of a message: its blocks, its padding, its parts, its digest. Assumes nothing.
use mathlib.Core.Path.{◌≡◌, refl, sym, ap, ap₂, ◌∙◌}
use mathlib.Core.List.{List, [], ◌∷◌, ◌++◌, append-nil, append_assoc}
use Prim.Native.Nat.{ℕ, zero, suc, ◌+◌, ◌*◌, ◌-◌, ◌/◌, ◌%◌, ◌^◌, ◌≤◌, ◌<◌}
use native.Mathlib.Numerals.{add-one}
use native.Mathlib.Nat.{add-zero, zero-add, div-one, mul_comm, mul_assoc, pow-suc, mod-lt, mod-mod_of_dvd, dvd-mul_left}
use native.Mathlib.Omega.{arith}
use lib.ListN.{length, take, drop, get_or, set, replicate, length-append, length-replicate, length-set, take-append-drop, drop_of_length-le, replicate-append-replicate}
use lib.Dec.{lit<, lit≤}
use lib.Pow.{pow-add}
use lib.Arith.{mod-mul, digits_div}
use lib.Seq.{drop-cons, take-suc-set, take_all, take_at, drop_at, set_at, drop-set-lt, drop-drop, length-take-le}
use Rattle.std.specs.Int.{w32, w64, to_be_bytes}
use Rattle.codec.specs.Bytes.{IsBytes, patch}
use Rattle.codec.proofs.Laws.{patch_append, patch_whole}
use Rattle.codec.proofs.Le.{bytes_append}
use Rattle.digest.specs.declared.Words.{Words}
use Rattle.digest.specs.Sha256.{◌!◌, compress, blocks, absorb, be_bytes, spell, digest, sha256, zeros, padding}
use Rattle.digest.specs.Laws.{PaddingSolves, PaddingIsLeast, WholeBlocks, DigestIsName}

-- ---- blocks

pub absorb_block : (H : Words) (b s : List ℕ) → length b ≡ 64 → absorb H (b ++ s) ≡ absorb (compress H b) s
unfolding absorb blocks
absorb_block H b s e =
    let f : length (b ++ s) / 64 ≡ suc (length s / 64) = omega (arith, length-append b s) in
    ap (λ (k : ℕ). blocks k H (b ++ s)) f
    ∙ ap₂ (λ (x y : List ℕ). blocks (length s / 64) (compress H x) y) (take_at b s 64 e) (drop_at b s 64 e)

absorb_one : (H : Words) (b : List ℕ) → length b ≡ 64 → absorb H b ≡ compress H b
unfolding absorb blocks
absorb_one H b e = ap (λ (k : ℕ). blocks (k / 64) H b) e ∙ ap (λ (x : List ℕ). compress H x) (take_all 64 b (omega arith))

-- what is left of a message behind its whole blocks: one block fewer in front of it, and no block in front of it
abbrev pub behind_blocks : List ℕ → List ℕ
behind_blocks s = drop (length s - length s % 64) s

pub behind_block : (b s : List ℕ) → length b ≡ 64 → behind_blocks (b ++ s) ≡ behind_blocks s
behind_block b s e =
    let f : length (b ++ s) - length (b ++ s) % 64 ≡ 64 + (length s - length s % 64) = omega (arith, length-append b s) in
    ap (λ (k : ℕ). drop k (b ++ s)) f ∙ sym (drop-drop (length s - length s % 64) 64 (b ++ s)) ∙ ap (drop (length s - length s % 64)) (drop_at b s 64 e)

pub behind_none : (s : List ℕ) → length s < 64 → behind_blocks s ≡ s
behind_none s h = let e : length s - length s % 64 ≡ 0 = omega arith in ap (λ (k : ℕ). drop k s) e

-- ---- patches

-- what a patch leaves before it and behind it
patch_eq : (s : List ℕ) (at : ℕ) (v : List ℕ) → at + length v ≤ length s → patch s at v ≡ take at s ++ (v ++ drop (at + length v) s)
unfolding patch
patch_eq s at [] h = sym (ap (λ (k : ℕ). take at s ++ drop k s) (add-zero at) ∙ take-append-drop at s)
patch_eq s at (x ∷ v) h =
    let e : at + suc (length v) ≡ suc at + length v = omega arith in
    patch_eq (set s at x) (suc at) v (simp length-set (omega arith))
    ∙ ap₂ (λ (y z : List ℕ). y ++ (v ++ z)) (take-suc-set s at x (omega arith)) (drop-set-lt (suc at + length v) s at x (omega arith))
    ∙ append_assoc (take at s) (x ∷ []) (v ++ drop (suc at + length v) s)
    ∙ ap (λ (k : ℕ). take at s ++ (x ∷ (v ++ drop k s))) (sym e)

drop-replicate : (k n x : ℕ) → drop k (replicate n x) ≡ replicate (n - k) x
drop-replicate zero n x = let e : n ≡ n - 0 = omega arith in ap (λ (j : ℕ). replicate j x) e
drop-replicate (suc k) zero x = let e : 0 ≡ 0 - suc k = omega arith in ap (λ (j : ℕ). replicate j x) e
drop-replicate (suc k) (suc n) x = let e : n - k ≡ suc n - suc k = omega arith in drop-replicate k n x ∙ ap (λ (j : ℕ). replicate j x) e

-- two patches that fill a list
pub patch_two : (s a b : List ℕ) (n : ℕ) → length a ≡ n → n + length b ≡ length s → patch (patch s 0 a) n b ≡ a ++ b
patch_two s a b n e h =
    ap (λ (k : ℕ). patch (patch s 0 a) k b) (let f : n ≡ 0 + length a = omega arith in f)
    ∙ sym (patch_append s 0 a b) ∙ patch_whole s (a ++ b) (length-append a b ∙ omega arith)

-- two patches at the start of zeros
pub patch_zeros : (k : ℕ) (a b : List ℕ) → length a + length b ≤ k → patch (patch (replicate k 0) 0 a) (length a) b ≡ (a ++ b) ++ replicate (k - (length a + length b)) 0
patch_zeros k a b h =
    let s = replicate {A = ℕ} k 0 in
    let g : 0 + length (a ++ b) ≡ length a + length b = omega (arith, length-append a b) in
    ap (λ (j : ℕ). patch (patch s 0 a) j b) (sym (zero-add (length a)))
    ∙ sym (patch_append s 0 a b) ∙ patch_eq s 0 (a ++ b) (omega (arith, length-replicate {A = ℕ} k 0))
    ∙ ap (λ (l : List ℕ). (a ++ b) ++ l) (ap (λ (j : ℕ). drop j s) g ∙ drop-replicate (length a + length b) k 0)

-- ---- bytes

pub length-be_bytes : (n x : ℕ) → length (be_bytes n x) ≡ n
unfolding be_bytes
length-be_bytes zero x = refl
length-be_bytes (suc n) x = ap suc (length-be_bytes n x)

-- the bytes that the language's library makes of a number
pub written_4 : (x : ℕ) → to_be_bytes w32 x ≡ be_bytes 4 x
unfolding be_bytes
written_4 x = rw (div-one x)

pub written_8 : (x : ℕ) → to_be_bytes w64 x ≡ be_bytes 8 x
unfolding be_bytes
written_8 x = rw (div-one x)

-- the low bytes of a number that wrapped
pow_pos : (k : ℕ) → 0 < 256 ^ k
pow_pos zero = lit< tt
pow_pos (suc k) = rw pow-suc (omega (arith, pow_pos k))

byte_wrap : (x j d : ℕ) → x % 256 ^ (d + suc j) / 256 ^ j % 256 ≡ x / 256 ^ j % 256
byte_wrap x j d =
    let m = 256 ^ d * 256 in
    let c = 256 ^ j in
    let p : 0 < m = omega (arith, pow_pos d) in
    let e : 256 ^ (d + suc j) ≡ m * c = pow-add 256 d (suc j) ∙ ap (λ (k : ℕ). 256 ^ d * k) (pow-suc 256 j ∙ mul_comm c 256) ∙ sym (mul_assoc (256 ^ d) 256 c) in
    ap (λ (k : ℕ). k % 256)
    (ap (λ (k : ℕ). x % k / c) e ∙ ap (λ (k : ℕ). k / c) (mod-mul x p (pow_pos j)) ∙ digits_div (x / c % m) (mod-lt x (pow_pos j)))
    ∙ mod-mod_of_dvd 256 (x / c) (dvd-mul_left 256 (256 ^ d))

be_bytes_wrap : (n m x : ℕ) → n ≤ m → be_bytes n (x % 256 ^ m) ≡ be_bytes n x
unfolding be_bytes
be_bytes_wrap zero m x h = refl
be_bytes_wrap (suc n) m x h =
    let e : m ≡ (m - suc n) + suc n = omega arith in
    ap₂ (λ (y : ℕ) (l : List ℕ). y ∷ l) (ap (λ (k : ℕ). x % 256 ^ k / 256 ^ n % 256) e ∙ byte_wrap x n (m - suc n)) (be_bytes_wrap n m x (omega arith))

-- the number of bits, in the code's words
pub bits_bytes : (n : ℕ) → be_bytes 8 (n * 2 ^ 3 % 2 ^ 64) ≡ be_bytes 8 (8 * n)
bits_bytes n = be_bytes_wrap 8 8 (n * 2 ^ 3) (lit≤ tt) ∙ ap (be_bytes 8) (mul_comm n 8)

-- one turn of the loop that spells the words, and its end
pub spell_turn : (r xs : List ℕ) (i : ℕ) → i < length xs → patch (patch r (4 * i) (be_bytes 4 (xs ! i))) (4 * (i + 1)) (spell (drop (i + 1) xs)) ≡ patch r (4 * i) (spell (drop i xs))
unfolding spell
spell_turn r xs i h =
    let e : 4 * (i + 1) ≡ 4 * i + length (be_bytes 4 (xs ! i)) = omega (arith, length-be_bytes 4 (xs ! i)) in
    ap (λ (k : ℕ). patch (patch r (4 * i) (be_bytes 4 (xs ! i))) k (spell (drop (i + 1) xs))) e
    ∙ sym (patch_append r (4 * i) (be_bytes 4 (xs ! i)) (spell (drop (i + 1) xs)))
    ∙ ap (λ (l : List ℕ). patch r (4 * i) l) (ap (λ (k : ℕ). be_bytes 4 (xs ! i) ++ spell (drop k xs)) (add-one i) ∙ ap spell (sym (drop-cons xs i 0 h)))

pub spell_end : (r xs : List ℕ) (i : ℕ) → length xs ≤ i → patch r (4 * i) (spell (drop i xs)) ≡ r
unfolding spell patch
spell_end r xs i h = ap (λ (l : List ℕ). patch r (4 * i) (spell l)) (drop_of_length-le xs h)

-- ---- padding

-- a list whose end is replaced
patch_end : (a b v : List ℕ) (n : ℕ) → length a ≡ n → length v ≡ length b → patch (a ++ b) n v ≡ a ++ v
patch_end a b v n e f =
    let g : length (a ++ b) ≡ n + length v = length-append a b ∙ omega arith in
    let m : length (a ++ b) ≤ n + length v = omega arith in
    patch_eq (a ++ b) n v (omega arith)
    ∙ ap₂ (λ (x y : List ℕ). x ++ (v ++ y)) (take_at a b n e) (drop_of_length-le (a ++ b) m) ∙ ap (λ (x : List ℕ). a ++ x) (append-nil v)

zeros_more : (k n : ℕ) → k ≤ n → replicate {A = ℕ} n 0 ≡ replicate k 0 ++ replicate (n - k) 0
zeros_more k n h = let e : n ≡ k + (n - k) = omega arith in ap (λ (j : ℕ). replicate {A = ℕ} j 0) e ∙ sym (replicate-append-replicate k (n - k) 0)

pub padding_solves : PaddingSolves
unfolding zeros
padding_solves l = omega arith

pub padding_is_least : PaddingIsLeast
unfolding zeros
padding_is_least l k h = omega arith

pub whole_blocks : WholeBlocks
unfolding padding zeros
whole_blocks m =
    let z = (119 - length m % 64) % 64 in
    let n = be_bytes 8 (8 * length m) in
    omega (arith, length-append m (0x80 ∷ (replicate z 0 ++ n)), length-append (replicate z 0) n, length-replicate {A = ℕ} z 0, length-be_bytes 8 (8 * length m))

module _ (s : List ℕ) (n : ℕ) (e : length s ≡ n % 64) where
  -- the block that begins with what is left of a message
  opened : set (patch (replicate 64 0) 0 s) (length s) 0x80 ≡ s ++ (0x80 ∷ replicate (63 - length s) 0)
  opened =
      let f : 64 - length s ≡ suc (63 - length s) = omega arith in
      ap (λ (l : List ℕ). set l (length s) 0x80)
      (patch_eq (replicate 64 0) 0 s (omega arith)
      ∙ ap (λ (l : List ℕ). s ++ l) (ap (λ (k : ℕ). drop k (replicate 64 0)) (zero-add (length s)) ∙ drop-replicate (length s) 64 0 ∙ ap (λ (k : ℕ). replicate k 0) f))
      ∙ set_at s 0 (replicate (63 - length s) 0) 0x80 (length s) refl

  -- the length of the message has room in the block, or takes another one
  pub last_one : (H : Words) → length s < 56 → compress H (patch (set (patch (replicate 64 0) 0 s) (length s) 0x80) 56 (be_bytes 8 (8 * n))) ≡ absorb H (s ++ padding n)
  unfolding padding zeros
  last_one H h =
      let L = be_bytes 8 (8 * n) in
      let k = 55 - length s in
      let a = s ++ (0x80 ∷ replicate k 0) in
      let z : (119 - n % 64) % 64 ≡ k = omega arith in
      let f : length a ≡ 56 = length-append s (0x80 ∷ replicate k 0) ∙ omega (arith, length-replicate {A = ℕ} k 0) in
      let g : 63 - length s - k ≡ 8 = omega arith in
      let q : patch (set (patch (replicate 64 0) 0 s) (length s) 0x80) 56 L ≡ a ++ L =
      ap (λ (l : List ℕ). patch l 56 L)
      (opened ∙ ap (λ (l : List ℕ). s ++ (0x80 ∷ l)) (zeros_more k (63 - length s) (omega arith) ∙ ap (λ (j : ℕ). replicate k 0 ++ replicate j 0) g)
      ∙ sym (append_assoc s (0x80 ∷ replicate k 0) (replicate 8 0)))
      ∙ patch_end a (replicate 8 0) L 56 f (length-be_bytes 8 (8 * n)) in
      ap (compress H) q ∙ sym (absorb_one H (a ++ L) (length-append a L ∙ omega (arith, length-be_bytes 8 (8 * n))))
      ∙ ap (absorb H) (append_assoc s (0x80 ∷ replicate k 0) L ∙ ap (λ (j : ℕ). s ++ (0x80 ∷ (replicate j 0 ++ L))) (sym z))

  pub last_two : (H : Words) → 56 ≤ length s → compress (compress H (set (patch (replicate 64 0) 0 s) (length s) 0x80)) (patch (replicate 64 0) 56 (be_bytes 8 (8 * n))) ≡ absorb H (s ++ padding n)
  unfolding padding zeros
  last_two H h =
      let L = be_bytes 8 (8 * n) in
      let k = 63 - length s in
      let a = s ++ (0x80 ∷ replicate k 0) in
      let b = replicate 56 0 ++ L in
      let z : (119 - n % 64) % 64 ≡ k + 56 = omega arith in
      let f : length a ≡ 64 = length-append s (0x80 ∷ replicate k 0) ∙ omega (arith, length-replicate {A = ℕ} k 0) in
      ap₂ (λ (x y : List ℕ). compress (compress H x) y) opened (patch_end (replicate 56 0) (replicate 8 0) L 56 refl (length-be_bytes 8 (8 * n)))
      ∙ sym (absorb_one (compress H a) b (length-append (replicate 56 0) L ∙ ap (λ (j : ℕ). 56 + j) (length-be_bytes 8 (8 * n))))
      ∙ sym (absorb_block H a b f)
      ∙ ap (absorb H)
      (append_assoc s (0x80 ∷ replicate k 0) b
      ∙ ap (λ (l : List ℕ). s ++ (0x80 ∷ l))
      (sym (append_assoc (replicate k 0) (replicate 56 0) L) ∙ ap (λ (l : List ℕ). l ++ L) (replicate-append-replicate k 56 0 ∙ ap (λ (j : ℕ). replicate j 0) (sym z))))

-- ---- two parts of a message

-- both are in one block
pub short_take : (a b : List ℕ) → take (length a + length b) ((a ++ b) ++ replicate (64 - (length a + length b)) 0) ≡ a ++ b
short_take a b = take_at (a ++ b) (replicate (64 - (length a + length b)) 0) (length a + length b) (length-append a b)

-- the second fills the first one's block
module _ (a b : List ℕ) (h : length a ≤ 64) (l : 64 ≤ length a + length b) where
  pub length_filled : length (take (64 - length a) b) ≡ 64 - length a
  length_filled = length-take-le (64 - length a) b (omega arith)

  pub filled : (a ++ take (64 - length a) b) ++ replicate (64 - (length a + length (take (64 - length a) b))) 0 ≡ a ++ take (64 - length a) b
  filled =
      let e : 64 - (length a + length (take (64 - length a) b)) ≡ 0 = omega (arith, length_filled) in
      ap (λ (k : ℕ). (a ++ take (64 - length a) b) ++ replicate k 0) e ∙ append-nil (a ++ take (64 - length a) b)

  pub absorb_two : (H : Words) (p : List ℕ) → absorb (compress H (a ++ take (64 - length a) b)) (drop (64 - length a) b ++ p) ≡ absorb H ((a ++ b) ++ p)
  absorb_two H p =
      let x = take (64 - length a) b in
      let y = drop (64 - length a) b in
      sym (absorb_block H (a ++ x) (y ++ p) (length-append a x ∙ omega (arith, length_filled)))
      ∙ ap (absorb H) (sym (append_assoc (a ++ x) y p) ∙ ap (λ (s : List ℕ). s ++ p) (append_assoc a x y ∙ ap (λ (s : List ℕ). a ++ s) (take-append-drop (64 - length a) b)))

-- ---- a digest is 32 bytes

bytes_be : (n x i : ℕ) → get_or (be_bytes n x) i 0 < 256
unfolding be_bytes
bytes_be zero x i = lit< tt
bytes_be (suc n) x zero = mod-lt (x / 256 ^ n) (lit< tt)
bytes_be (suc n) x (suc i) = bytes_be n x i

bytes_spell : (xs : List ℕ) → IsBytes (spell xs)
unfolding spell
bytes_spell [] i = lit< tt
bytes_spell (x ∷ xs) i = bytes_append (be_bytes 4 x) (spell xs) (bytes_be 4 x) (bytes_spell xs) i

length-spell : (xs : List ℕ) → length (spell xs) ≡ 4 * length xs
unfolding spell
length-spell [] = refl
length-spell (x ∷ xs) = length-append (be_bytes 4 x) (spell xs) ∙ omega (arith, length-be_bytes 4 x, length-spell xs)

pub digest_is_name : DigestIsName
unfolding sha256 digest
digest_is_name m = (length-spell _, bytes_spell _)

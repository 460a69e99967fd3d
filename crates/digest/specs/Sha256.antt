-- SHA-256 (FIPS 180-4) of messages of whole bytes, in the standard's order and under its names. A word is a number below 2 ^ 32. Assumes nothing.
use Rattle.std.specs.Prelude.{ℕ, zero, suc, ◌+◌, ◌*◌, ◌-◌, ◌/◌, ◌%◌, ◌^◌, List, [], ◌∷◌, ◌++◌, length, take, drop, get_or, replicate}
use Rattle.std.specs.Int.Bits.{bit_and, bit_or, bit_xor}
use Rattle.codec.specs.Bytes.{be_nat}
use Rattle.digest.specs.declared.Words.{Words}

-- ---- 2.2.2, 3.2: operations on words

-- bitwise AND, OR and XOR. The standard writes ∧ and ∨, which are words of this language
infixl 75 ◌⋏◌
abbrev pub ◌⋏◌ : ℕ → ℕ → ℕ
x ⋏ y = bit_and x y

infixl 70 ◌⋎◌
abbrev pub ◌⋎◌ : ℕ → ℕ → ℕ
x ⋎ y = bit_or x y

infixl 70 ◌⊕◌
abbrev pub ◌⊕◌ : ℕ → ℕ → ℕ
x ⊕ y = bit_xor x y

-- the bitwise complement, ¬
abbrev pub NOT : ℕ → ℕ
NOT x = 2 ^ 32 - 1 - x

-- addition modulo 2 ^ 32
infixl 65 ◌⊞◌
unfoldable pub ◌⊞◌ : ℕ → ℕ → ℕ
x ⊞ y = (x + y) % 2 ^ 32

-- the left shift by n bits, which drops what leaves the word, and the right shift
infix 80 ◌≪◌
abbrev pub ◌≪◌ : ℕ → ℕ → ℕ
x ≪ n = x * 2 ^ n % 2 ^ 32

infix 80 ◌≫◌
abbrev pub ◌≫◌ : ℕ → ℕ → ℕ
x ≫ n = x / 2 ^ n

-- the right shift and the rotation to the right by n bits
abbrev pub SHR : ℕ → ℕ → ℕ
SHR n x = x ≫ n

unfoldable pub ROTR : ℕ → ℕ → ℕ
ROTR n x = (x ≫ n) ⋎ (x ≪ (32 - n))

-- ---- 4.1.2: functions

unfoldable pub Ch : ℕ → ℕ → ℕ → ℕ
Ch x y z = (x ⋏ y) ⊕ (NOT x ⋏ z)

unfoldable pub Maj : ℕ → ℕ → ℕ → ℕ
Maj x y z = (x ⋏ y) ⊕ (x ⋏ z) ⊕ (y ⋏ z)

unfoldable pub Σ₀ : ℕ → ℕ
Σ₀ x = ROTR 2 x ⊕ ROTR 13 x ⊕ ROTR 22 x

unfoldable pub Σ₁ : ℕ → ℕ
Σ₁ x = ROTR 6 x ⊕ ROTR 11 x ⊕ ROTR 25 x

unfoldable pub σ₀ : ℕ → ℕ
σ₀ x = ROTR 7 x ⊕ ROTR 18 x ⊕ SHR 3 x

unfoldable pub σ₁ : ℕ → ℕ
σ₁ x = ROTR 17 x ⊕ ROTR 19 x ⊕ SHR 10 x

-- ---- 4.2.2: constants

unfoldable pub K : List ℕ
K =
    0x428a2f98 ∷ 0x71374491 ∷ 0xb5c0fbcf ∷ 0xe9b5dba5 ∷ 0x3956c25b ∷ 0x59f111f1 ∷ 0x923f82a4 ∷ 0xab1c5ed5 ∷
    0xd807aa98 ∷ 0x12835b01 ∷ 0x243185be ∷ 0x550c7dc3 ∷ 0x72be5d74 ∷ 0x80deb1fe ∷ 0x9bdc06a7 ∷ 0xc19bf174 ∷
    0xe49b69c1 ∷ 0xefbe4786 ∷ 0x0fc19dc6 ∷ 0x240ca1cc ∷ 0x2de92c6f ∷ 0x4a7484aa ∷ 0x5cb0a9dc ∷ 0x76f988da ∷
    0x983e5152 ∷ 0xa831c66d ∷ 0xb00327c8 ∷ 0xbf597fc7 ∷ 0xc6e00bf3 ∷ 0xd5a79147 ∷ 0x06ca6351 ∷ 0x14292967 ∷
    0x27b70a85 ∷ 0x2e1b2138 ∷ 0x4d2c6dfc ∷ 0x53380d13 ∷ 0x650a7354 ∷ 0x766a0abb ∷ 0x81c2c92e ∷ 0x92722c85 ∷
    0xa2bfe8a1 ∷ 0xa81a664b ∷ 0xc24b8b70 ∷ 0xc76c51a3 ∷ 0xd192e819 ∷ 0xd6990624 ∷ 0xf40e3585 ∷ 0x106aa070 ∷
    0x19a4c116 ∷ 0x1e376c08 ∷ 0x2748774c ∷ 0x34b0bcb5 ∷ 0x391c0cb3 ∷ 0x4ed8aa4a ∷ 0x5b9cca4f ∷ 0x682e6ff3 ∷
    0x748f82ee ∷ 0x78a5636f ∷ 0x84c87814 ∷ 0x8cc70208 ∷ 0x90befffa ∷ 0xa4506ceb ∷ 0xbef9a3f7 ∷ 0xc67178f2 ∷ []

-- ---- 5.1.1: padding

-- the n lowest bytes of x, the highest first
unfoldable pub be_bytes : ℕ → ℕ → List ℕ
be_bytes zero x = []
be_bytes (suc n) x = x / 256 ^ n % 256 ∷ be_bytes n x

-- the least k with l + 1 + k = 56 modulo 64: behind l bytes, the byte 0x80 and k zero bytes, 8 bytes are left of a block
unfoldable pub zeros : ℕ → ℕ
zeros l = (119 - l % 64) % 64

-- what follows a message of l bytes: bit 1, zero bits, and the number of the message's bits. The standard takes l below 2 ^ 61
unfoldable pub padding : ℕ → List ℕ
padding l = 0x80 ∷ (replicate (zeros l) 0 ++ be_bytes 8 (8 * l))

-- ---- 5.2.1: parsing

-- the first n words of s, 4 bytes each, the highest first
unfoldable pub words : ℕ → List ℕ → List ℕ
words zero s = []
words (suc n) s = be_nat (take 4 s) ∷ words n (drop 4 s)

-- ---- 5.3.3: the initial hash value. H₀ to H₇ are the fields a to h

unfoldable pub H⁰ : Words
H⁰ = record { a = 0x6a09e667; b = 0xbb67ae85; c = 0x3c6ef372; d = 0xa54ff53a; e = 0x510e527f; f = 0x9b05688c; g = 0x1f83d9ab; h = 0x5be0cd19 }

-- ---- 6.2.2: the computation

infix 90 ◌!◌
abbrev pub ◌!◌ : List ℕ → ℕ → ℕ
W ! t = get_or W t 0

-- step 1: W₀ to W₁₅ are the block's words M; each of the other 48 follows from those before it
unfoldable pub next : ℕ → List ℕ → ℕ
next t W = σ₁ (W ! (t - 2)) ⊞ W ! (t - 7) ⊞ σ₀ (W ! (t - 15)) ⊞ W ! (t - 16)

unfoldable pub extend : ℕ → List ℕ → List ℕ
extend zero W = W
extend (suc n) W = extend n (W ++ (next (length W) W ∷ []))

unfoldable pub schedule : List ℕ → List ℕ
schedule M = extend 48 M

-- step 3: one round, on the working variables a to h, with the constant k and the word w
unfoldable pub T₁ : Words → ℕ → ℕ → ℕ
T₁ v k w = v.h ⊞ Σ₁ v.e ⊞ Ch v.e v.f v.g ⊞ k ⊞ w

unfoldable pub T₂ : Words → ℕ
T₂ v = Σ₀ v.a ⊞ Maj v.a v.b v.c

unfoldable pub round : Words → ℕ → ℕ → Words
round v k w =
    record { a = T₁ v k w ⊞ T₂ v; b = v.a; c = v.b; d = v.c; e = v.d ⊞ T₁ v k w; f = v.e; g = v.f; h = v.g }

unfoldable pub rounds : List ℕ → List ℕ → Words → Words
rounds [] ws v = v
rounds (k ∷ ks) [] v = v
rounds (k ∷ ks) (w ∷ ws) v = rounds ks ws (round v k w)

-- step 4
unfoldable pub plus : Words → Words → Words
plus x y =
    record { a = x.a ⊞ y.a; b = x.b ⊞ y.b; c = x.c ⊞ y.c; d = x.d ⊞ y.d; e = x.e ⊞ y.e; f = x.f ⊞ y.f; g = x.g ⊞ y.g; h = x.h ⊞ y.h }

-- steps 1 to 4 for a block of 64 bytes; the working variables begin as the hash value H (step 2)
unfoldable pub compress : Words → List ℕ → Words
compress H block = plus (rounds K (schedule (words 16 block)) H) H

-- n blocks of s, one after the other
unfoldable pub blocks : ℕ → Words → List ℕ → Words
blocks zero H s = H
blocks (suc n) H s = blocks n (compress H (take 64 s)) (drop 64 s)

unfoldable pub absorb : Words → List ℕ → Words
absorb H s = blocks (length s / 64) H s

-- the words, 4 bytes each
unfoldable pub spell : List ℕ → List ℕ
spell [] = []
spell (x ∷ xs) = be_bytes 4 x ++ spell xs

unfoldable pub digest : Words → List ℕ
digest H = spell (H.a ∷ H.b ∷ H.c ∷ H.d ∷ H.e ∷ H.f ∷ H.g ∷ H.h ∷ [])

unfoldable pub sha256 : List ℕ → List ℕ
sha256 m = digest (absorb H⁰ (m ++ padding (length m)))

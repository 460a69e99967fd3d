-- What is proved of the definitions: that they are the standard's, and what a caller needs of digests and names. Assumes nothing.
use Rattle.std.specs.Prelude.{ℕ, ◌+◌, ◌*◌, ◌-◌, ◌%◌, ◌^◌, ◌≤◌, ◌<◌, ◌≡◌, List, ◌++◌, length}
use Rattle.settings.specs.Answer.{accepts, refuses}
use Rattle.codec.specs.Bytes.{IsBytes, be_nat, part}
use Rattle.codec.specs.Names.{name_length}
use Rattle.digest.specs.Sha256.{◌⊞◌, σ₀, σ₁, K, zeros, padding, words, ◌!◌, schedule, sha256}
use Rattle.digest.specs.Name.{preimage, name_of, longest_contents, name_call}

-- ---- 5.1.1: "the smallest, non-negative solution to the equation l + 1 + k ≡ 448 mod 512". A message of l bytes has 8 l bits; of the zero bits behind bit 1 seven are in its byte
abbrev pub zero_bits : ℕ → ℕ
zero_bits l = 7 + 8 * zeros l

abbrev pub PaddingSolves : Type 0
PaddingSolves = (l : ℕ) → (8 * l + 1 + zero_bits l) % 512 ≡ 448

abbrev pub PaddingIsLeast : Type 0
PaddingIsLeast = (l k : ℕ) → (8 * l + 1 + k) % 512 ≡ 448 → zero_bits l ≤ k

-- "The length of the padded message should now be a multiple of 512 bits"
abbrev pub WholeBlocks : Type 0
WholeBlocks = (m : List ℕ) → length (m ++ padding (length m)) % 64 ≡ 0

-- ---- 6.2.2, step 1, for each t: "M_t, 0 ≤ t ≤ 15", "σ₁(W_t₋₂) + W_t₋₇ + σ₀(W_t₋₁₅) + W_t₋₁₆, 16 ≤ t ≤ 63"
abbrev pub FirstWords : Type 0
FirstWords = (block : List ℕ) (t : ℕ) → t < 16 → schedule (words 16 block) ! t ≡ be_nat (part block (4 * t) 4)

abbrev pub LaterWords : Type 0
LaterWords =
    (block : List ℕ) (t : ℕ) → let W = schedule (words 16 block) in 16 ≤ t → t < 64 → W ! t ≡ σ₁ (W ! (t - 2)) ⊞ W ! (t - 7) ⊞ σ₀ (W ! (t - 15)) ⊞ W ! (t - 16)

-- step 3, "For t=0 to 63": as many constants as words, so that no round is missed
abbrev pub SixtyFour : Type 0
SixtyFour = (block : List ℕ) → (length K ≡ 64) × (length (schedule (words 16 block)) ≡ 64)

-- ---- a digest is 32 bytes, and so a name
abbrev pub DigestIsName : Type 0
DigestIsName = (m : List ℕ) → (length (sha256 m) ≡ name_length) × IsBytes (sha256 m)

-- ---- what is digested has one parent, one height and one content: two blocks of one name are two messages of one digest
abbrev pub OneBlock : Type 0
OneBlock =
    (p q : List ℕ) (h i : ℕ) (s t : List ℕ) → length p ≡ name_length → length q ≡ name_length → h < 2 ^ 64 → i < 2 ^ 64
    → preimage p h s ≡ preimage q i t → (p ≡ q) × ((h ≡ i) × (s ≡ t))

-- ---- the name call "takes any height and refuses by 16 only"
abbrev pub GivesName : Type 0
GivesName = (parent : List ℕ) (height : ℕ) (contents : List ℕ) → length contents ≤ longest_contents → name_call parent height contents ≡ accepts (name_of parent height contents)

abbrev pub RefusesBy16 : Type 0
RefusesBy16 = (parent : List ℕ) (height : ℕ) (contents : List ℕ) → longest_contents < length contents → name_call parent height contents ≡ refuses 16

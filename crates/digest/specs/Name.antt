-- The name of a block (02, 2.5), and the call that makes it. Assumes nothing.
use Rattle.std.specs.Prelude.{ℕ, Bool, List, [], ◌∷◌, ◌++◌, ltb, length}
use Rattle.settings.specs.Answer.{Answer, accepts, refuses, judge, ◌⇒◌}
use Rattle.codec.specs.Bytes.{le_bytes}
use Rattle.codec.specs.Names.{zero_name}
use Rattle.digest.specs.Sha256.{sha256}
use Rattle.digest.specs.declared.Named.{Named}

-- what is digested: "parent name, height as u64 little-endian, and the contents"
unfoldable pub preimage : List ℕ → ℕ → List ℕ → List ℕ
preimage parent height contents = parent ++ (le_bytes 8 height ++ contents)

-- "Let the core make the name: SHA-256 (FIPS 180-4) of" these
unfoldable pub name_of : List ℕ → ℕ → List ℕ → List ℕ
name_of parent height contents = sha256 (preimage parent height contents)

-- "the contents, which have 0 to 4,096 bytes"
abbrev pub longest_contents : ℕ
longest_contents = 4096

abbrev pub too_long : List ℕ → Bool
too_long contents = ltb longest_contents (length contents)

-- "Contents over 4,096 bytes are refused by 16 ... The name call takes any height and refuses by 16 only"
unfoldable pub name_call : List ℕ → ℕ → List ℕ → Answer (List ℕ)
name_call parent height contents = judge (too_long contents ⇒ 16 ∷ []) (name_of parent height contents)

-- the reply: 0 and the name, or the number of the refusal and the zero name
unfoldable pub reply_of : Answer (List ℕ) → Named
reply_of (accepts name) = record { refusal = 0; name = name }
reply_of (refuses a) = record { refusal = a; name = zero_name }

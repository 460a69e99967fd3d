-- Published messages and their digests, and the name of a block, which the prover computes. Assumes nothing.
use Rattle.std.specs.Prelude.{ℕ, ◌≡◌, List, [], ◌∷◌, replicate}
use Rattle.settings.specs.Answer.{accepts, refuses}
use Rattle.codec.specs.Names.{zero_name}
use Rattle.digest.specs.Sha256.{be_bytes, sha256}
use Rattle.digest.specs.Name.{name_of, name_call}

-- a message of so many bytes, and its digest: the bytes of one number each, the highest first
pub record Example : Type 0 where
  pub size : ℕ
  pub message : ℕ
  pub digest : ℕ

abbrev pub Digested : Example → Type 0
Digested x = sha256 (be_bytes x.size x.message) ≡ be_bytes 32 x.digest

-- the empty message
abbrev pub none : Example
none = record { size = 0; message = 0; digest = 0xe3b0c44298fc1c149afbf4c8996fb92427ae41e4649b934ca495991b7852b855 }

-- "abc"
abbrev pub abc : Example
abc = record { size = 3; message = 0x616263; digest = 0xba7816bf8f01cfea414140de5dae2223b00361a396177a9cb410ff61f20015ad }

-- 448 bits, "abcdbcdecdefdefgefghfghighijhijkijkljklmklmnlmnomnopnopq": so that the number of bits has no room in the first block
abbrev pub two_blocks : Example
two_blocks =
    record { size = 56; message = 0x6162636462636465636465666465666765666768666768696768696a68696a6b696a6b6c6a6b6c6d6b6c6d6e6c6d6e6f6d6e6f706e6f7071; digest = 0x248d6a61d20638b8e5c026930c3e6039a33ce45964ff2167f6ecedd419db06c1 }

abbrev pub ExamplesHold : Type 0
ExamplesHold = Digested none × (Digested abc × Digested two_blocks)

-- ---- names. The first block behind genesis with the contents "abc": by `sha256sum` of its 43 bytes
abbrev pub FirstName : Type 0
FirstName = name_call zero_name 1 (0x61 ∷ 0x62 ∷ 0x63 ∷ []) ≡ accepts (be_bytes 32 0x64356fb03f8d51a5e1241a72375db2444558064f54b6a925e2a0f715e0603cfe)

-- 4,096 bytes have a name, and 4,097 are refused
abbrev pub LongestNamed : Type 0
LongestNamed = let contents : List ℕ = replicate 4096 0 in name_call zero_name 1 contents ≡ accepts (name_of zero_name 1 contents)

abbrev pub LongerRefused : Type 0
LongerRefused = name_call zero_name 1 (replicate 4097 0) ≡ refuses 16

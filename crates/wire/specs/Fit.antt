-- Which contents fit a record's fields, and which are as the place "shape" asks (01: Records; Refusals, 4 and 5). Assumes nothing.
use Rattle.std.specs.Prelude.{ℕ, suc, ◌^◌, ◌≤◌, ◌<◌, ◌⊎◌, ◌≡◌, List, [], ◌∷◌, length}
use Rattle.codec.specs.Bytes.{IsBytes}
use Rattle.codec.specs.Names.{name_length, zero_name}
use Rattle.wire.specs.declared.Timeout.{Timeout}
use Rattle.wire.specs.Content.{Certificate, by_block, by_timeouts, Content, vote, commit, certificate, timeout, proposal, block, release}

-- ---- what the fields hold: numbers below their widths, names of 32 bytes
pub record IsName (x : List ℕ) : Type 0 where
  pub size : length x ≡ name_length
  pub bytes : IsBytes x

abbrev pub IsU16 : ℕ → Type 0
IsU16 x = x < 2 ^ 16

abbrev pub IsU64 : ℕ → Type 0
IsU64 x = x < 2 ^ 64

pub record TimeoutFits (t : Timeout) : Type 0 where
  pub sender : IsU16 t.sender
  pub view : IsU64 t.view.0
  pub high_view : IsU64 t.high.view.0
  pub high_name : IsName t.high.name
  pub kind : IsU16 t.carried.kind
  pub carried_view : IsU64 t.carried.view.0
  pub carried_name : IsName t.carried.name
  pub signers : IsU64 t.carried.signers

-- every element of a list
unfoldable pub All : {A : Type 0} → (A → Type 0) → List A → Type 0
All P [] = Unit {0}
All P (x ∷ l) = P x × All P l

unfoldable pub CertificateFits : Certificate → Type 0
CertificateFits (by_block v x g) = IsU64 v × IsName x × IsU64 g
CertificateFits (by_timeouts v ts) = IsU64 v × IsU16 (length ts) × All TimeoutFits ts

unfoldable pub Fits : Content → Type 0
Fits (vote s v x) = IsU16 s × IsU64 v × IsName x
Fits (commit s v x) = IsU16 s × IsU64 v × IsName x
Fits (certificate s k) = IsU16 s × CertificateFits k
Fits (timeout t) = TimeoutFits t
Fits (proposal s v x y h k) = IsU16 s × IsU64 v × IsName x × IsName y × IsU64 h × CertificateFits k
Fits (block s x y h) = IsU16 s × IsName x × IsName y × IsU64 h
Fits (release s v x h) = IsU16 s × IsU64 v × IsName x × IsU64 h

-- ---- what 4 and 5 ask, in a cluster of n replicas
-- "a timeout's certificate kind 3 or 4"; no half-empty high vote; no signer ≥ n
pub record TimeoutProper (n : ℕ) (t : Timeout) : Type 0 where
  pub kind : (t.carried.kind ≡ 3) ⊎ (t.carried.kind ≡ 4)
  pub named : t.high.view.0 ≡ 0 → t.high.name ≡ zero_name
  pub viewed : t.high.name ≡ zero_name → t.high.view.0 ≡ 0
  pub signers : t.carried.signers < 2 ^ n

-- inner timeouts: of the certificate's view, senders strictly ascending from low on and below n
unfoldable pub TimeoutsProper : ℕ → ℕ → ℕ → List Timeout → Type 0
TimeoutsProper n view low [] = Unit {0}
TimeoutsProper n view low (t ∷ ts) =
    (t.view.0 ≡ view) × (low ≤ t.sender) × (t.sender < n) × TimeoutProper n t × TimeoutsProper n view (suc t.sender) ts

unfoldable pub CertificateProper : ℕ → Certificate → Type 0
CertificateProper n (by_block v x g) = g < 2 ^ n
CertificateProper n (by_timeouts v ts) = TimeoutsProper n v 0 ts

-- "zero name in a vote, commit, proposal or block", "inner sender ≥ n"; a release is for the host, and no replica takes it
unfoldable pub Proper : ℕ → Content → Type 0
Proper n (vote s v x) = x ≡ zero_name → ⊥
Proper n (commit s v x) = x ≡ zero_name → ⊥
Proper n (certificate s k) = CertificateProper n k
Proper n (timeout t) = TimeoutProper n t
Proper n (proposal s v x y h k) = (x ≡ zero_name → ⊥) × (s < n) × CertificateProper n k
Proper n (block s x y h) = x ≡ zero_name → ⊥
Proper n (release s v x h) = ⊥

-- What the laws of the order, of adopting and of the safe certificate speak of (01: Rank and safe block; The box). Assumes nothing.
use Rattle.std.specs.Prelude.{ℕ, suc, ◌≤◌, ◌<◌, ◌≡◌, Bool, true, false, cond, List, [], ◌∷◌}
use Rattle.settings.specs.declared.Settings.{Settings}
use Rattle.settings.specs.Quorum.{replicas, weak_quorum}
use Rattle.wire.specs.declared.Timeout.{Timeout}
use Rattle.certificate.specs.declared.Certificate.{Certificate}
use Rattle.certificate.specs.declared.Locks.{Locks}
use Rattle.certificate.specs.declared.Tally.{Tally}
use Rattle.certificate.specs.Rank.{outranks, weak_certificate, carried_certificate}
use Rattle.certificate.specs.Safe.{backing}

infix 4 ◌⊑◌
-- b has at least the view of a, and at the same view it is a block certificate if a is one; names and signers are free
pub record ◌⊑◌ (a b : Certificate) : Type 0 where
  pub view_le : a.view.0 ≤ b.view.0
  pub block_kept : a.view.0 ≡ b.view.0 → a.block ≡ true → b.block ≡ true

infix 4 ◌≼◌
-- a does not outrank b
abbrev pub ◌≼◌ : Certificate → Certificate → Type 0
a ≼ b = outranks a b ≡ false

-- a relation that the order decides, one way or the other: what is proved of all of them holds of ◌⊑◌ and of ◌≼◌
pub record Decided (R : Certificate → Certificate → Type 0) : Type 0 where
  pub same : (a : Certificate) → R a a
  pub trans : {a b c : Certificate} → R a b → R b c → R a c
  pub above : (a b : Certificate) → outranks a b ≡ true → R b a
  pub below : (a b : Certificate) → outranks a b ≡ false → R a b

-- of the two that a replica keeps, the one of a kind: the lock, or else the best weak
abbrev pub kept : Bool → Locks → Certificate
kept true s = s.lock
kept false s = s.weak

-- ---- the candidates: the certificate carried in a timeout, and what its high vote builds among the timeouts l
abbrev pub carried_in : Timeout → Certificate
carried_in t = carried_certificate t.carried

module _ (s : Settings) (l : List Timeout) (t : Timeout) where
  -- who gives the same high vote
  abbrev pub backers : Tally
  backers = backing (replicas s) t.high.view.0 t.high.name l

  -- there is one, and enough give it
  pub record Backed : Type 0 where
    pub voted : 0 < t.high.view.0
    pub enough : weak_quorum s ≤ backers.count

  -- the weak certificate that they build
  abbrev pub built_of : Certificate
  built_of = weak_certificate t.high.view.0 t.high.name backers.signers

-- those that pass a test
unfoldable pub only : {A : Type 0} → (A → Bool) → List A → List A
only test [] = []
only test (x ∷ l) = cond (test x) (x ∷ only test l) (only test l)

-- senders strictly ascending from low on and below n
unfoldable pub Ascending : ℕ → ℕ → List Timeout → Type 0
Ascending n low [] = Unit {0}
Ascending n low (t ∷ ts) = (low ≤ t.sender) × (t.sender < n) × Ascending n (suc t.sender) ts

-- The certificate that a timeout's high vote builds, and the safe certificate, by what the code finds. Assumes nothing.
use mathlib.Core.Path.{◌≡◌, refl}
use mathlib.Core.Bool.{Bool, true, false, cond, ◌&&◌}
use mathlib.Core.List.{List, ◌∷◌}
use Prim.Native.Nat.{ℕ, ◌≤◌, ◌<◌}
use native.Mathlib.Omega.{arith}
use borrow.Author.Tests.{lt-ltb, le-leb, lt-leb}
use lib.Dec.{ltb, leb}
use Rattle.settings.specs.declared.Settings.{Settings}
use Rattle.settings.specs.Quorum.{replicas, weak_quorum}
use Rattle.wire.specs.declared.Vote.{Vote}
use Rattle.wire.specs.declared.Timeout.{Timeout}
use Rattle.wire.specs.Fields.{number_at, high_name_of}
use Rattle.wire.specs.Content.{vote_at, timeout_of}
use Rattle.certificate.specs.declared.Certificate.{Certificate}
use Rattle.certificate.specs.declared.Tally.{Tally}
use Rattle.certificate.specs.Rank.{weak_certificate, carried_certificate, outranks}
use Rattle.certificate.specs.Safe.{better, backing, built_by, carried_by, each, safe_of_timeouts}

either : (t : Bool) (k : Certificate) → cond t k k ≡ k
either true k = refl
either false k = refl

module _ (s : Settings) (l : List Timeout) (r : List ℕ) (k : Certificate) (high : Vote) (e : high ≡ vote_at r 16) where
  pub built_none : high.view.0 ≡ 0 → k ≡ built_by s l (timeout_of r) k
  unfolding built_by timeout_of vote_at
  built_none h = let w : number_at r 16 8 ≡ 0 = rw e at h in rw w

  module _ (b : Tally) (p : b ≡ backing (replicas s) high.view.0 high.name l) (h : high.view.0 ≡ 0 → ⊥) where
    pub built_few : b.count < weak_quorum s → k ≡ built_by s l (timeout_of r) k
    unfolding built_by timeout_of vote_at
    built_few q =
        let w : 0 < number_at r 16 8 = rw e at (let g : 0 < high.view.0 = omega arith in g) in
        let f : b ≡ backing (replicas s) (number_at r 16 8) (high_name_of r) l = rw e at p in
        rw (lt-ltb 0 (number_at r 16 8) w, ← f, lt-leb (weak_quorum s) b.count q)

    pub built_made : {m : Certificate} → weak_quorum s ≤ b.count → m ≡ better (weak_certificate high.view.0 high.name b.signers) k → m ≡ built_by s l (timeout_of r) k
    unfolding built_by timeout_of vote_at
    built_made {m} q d =
        let w : 0 < number_at r 16 8 = rw e at (let g : 0 < high.view.0 = omega arith in g) in
        let f : b ≡ backing (replicas s) (number_at r 16 8) (high_name_of r) l = rw e at p in
        let g : m ≡ better (weak_certificate (number_at r 16 8) (high_name_of r) b.signers) k = rw e at d in
        rw (lt-ltb 0 (number_at r 16 8) w, ← f, le-leb (weak_quorum s) b.count q) g

  -- one that wouldn't outrank k changes nothing, however many back it: its signers bear on no rank
  pub built_low : outranks (weak_certificate high.view.0 high.name 0) k ≡ false → k ≡ built_by s l (timeout_of r) k
  unfolding built_by timeout_of vote_at better outranks
  built_low q =
      let v = number_at r 16 8 in
      let b = backing (replicas s) v (high_name_of r) l in
      let f : outranks (weak_certificate v (high_name_of r) b.signers) k ≡ false = rw e at q in
      rw (f, either (ltb 0 v && leb (weak_quorum s) b.count) k)

-- the safe certificate, in the code's order: the first carried one, the others carried, those built
pub safe_made : (s : Settings) (t : Timeout) (l : List Timeout) {all : List Timeout} → all ≡ t ∷ l → each (built_by s all) (each carried_by (carried_certificate t.carried) l) all ≡ safe_of_timeouts s all
unfolding safe_of_timeouts
safe_made s t l e = rw e

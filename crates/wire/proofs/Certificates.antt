-- The enum of a progress certificate: its meaning is the certificate that stands at its place, and what that is read from is there. Assumes nothing.
use mathlib.Core.Path.{◌≡◌, refl, sym, ap, ◌∙◌}
use mathlib.Core.Bool.{Bool, true, false, true≢false}
use mathlib.Core.List.{List}
use Prim.Native.Nat.{ℕ, ◌+◌, ◌*◌, ◌-◌, ◌≤◌}
use native.Mathlib.Omega.{arith}
use borrow.Author.Tests.{eqb-true, eqb-false}
use lib.Dec.{eqb}
use lib.ListN.{length, drop, length-drop}
use Rattle.wire.specs.declared.BlockCertificate.{BlockCertificate}
use Rattle.wire.specs.declared.Progress.{Progress}
use Rattle.wire.specs.declared.Progress.TheVariants.{Block, Timeouts}
use Rattle.wire.specs.Fields.{kind_of, count_of}
use Rattle.wire.specs.Content.{certificate_of, progress_at, progress_means, Within}
use Rattle.wire.specs.Shape.{certificate_length, certificate_kind_bad}
use Rattle.wire.proofs.Frames.{certificate_block, certificate_timeouts, certificate_other}

pub progress_means_lem : (r : List ℕ) (at : ℕ) → progress_means r (progress_at r at) ≡ certificate_of (drop at r)
unfolding progress_means progress_at certificate_of
progress_means_lem r at = go (eqb (kind_of (drop at r)) 3) refl
  where
    go : (t : Bool) → eqb (kind_of (drop at r)) 3 ≡ t → progress_means r (progress_at r at) ≡ certificate_of (drop at r)
    go true e = rw e
    go false e = rw e

-- what is read is the enum at that place, with its meaning
pub read_means : {p : Progress} (r : List ℕ) (at : ℕ) → p ≡ progress_at r at → (p ≡ progress_at r at) × (progress_means r p ≡ certificate_of (drop at r))
read_means r at e = (e, rw e (progress_means_lem r at))

-- a certificate begins at a place, and all of it is there
pub record Stands (r : List ℕ) (at : ℕ) : Type 0 where
  pub head : at + 24 ≤ length r
  pub block : kind_of (drop at r) ≡ 3 → at + 56 ≤ length r
  pub timeouts : (kind_of (drop at r) ≡ 3 → ⊥) → at + (24 + 112 * count_of (drop at r)) ≤ length r

pub within : {p : Progress} (r : List ℕ) (at : ℕ) → Stands r at → p ≡ progress_at r at → Within r p
unfolding Within progress_at
within {p} r at s e = rw e (go (eqb (kind_of (drop at r)) 3) refl)
  where
    go : (t : Bool) → eqb (kind_of (drop at r)) 3 ≡ t → Within r (progress_at r at)
    go true q = rw q (omega (arith, s.block (eqb-true _ _ q)))
    go false q = rw q (omega (arith, s.timeouts (eqb-false _ _ q)))

-- what is read as a block certificate is of kind 3
is_block : Progress → Bool
is_block (Block b) = true
is_block (Timeouts t) = false

pub block_kind : {p : Progress} {b : BlockCertificate} (r : List ℕ) (at : ℕ) → p ≡ progress_at r at → p ≡ Block b → kind_of (drop at r) ≡ 3
unfolding progress_at is_block
block_kind {p} {b} r at e g = go (eqb (kind_of (drop at r)) 3) refl
  where
    go : (t : Bool) → eqb (kind_of (drop at r)) 3 ≡ t → kind_of (drop at r) ≡ 3
    go true q = eqb-true _ _ q
    go false q = absurd (true≢false (ap is_block (sym g ∙ e) ∙ rw q))

-- one that passed 3 and 4
pub shaped_stands : (r : List ℕ) (at : ℕ) → certificate_length (drop at r) ≡ false → certificate_kind_bad (drop at r) ≡ false → Stands r at
shaped_stands r at l k = go (eqb (kind_of (drop at r)) 3) refl
  where
    long : length (drop at r) ≡ length r - at
    long = length-drop at r

    go : (t : Bool) → eqb (kind_of (drop at r)) 3 ≡ t → Stands r at
    go true q =
        let b : kind_of (drop at r) ≡ 3 = eqb-true _ _ q in
        let n = certificate_block (drop at r) l b in
        record { head = omega (arith, n, long); block = λ _. omega (arith, n, long); timeouts = λ e. absurd (e b) }
    go false q =
        let b = eqb-false (kind_of (drop at r)) 3 q in
        let n = certificate_timeouts (drop at r) l (certificate_other (drop at r) k b) in
        record { head = omega (arith, n, long); block = λ e. absurd (b e); timeouts = λ _. omega (arith, n, long) }

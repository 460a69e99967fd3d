-- The order serves safety: what it puts above is above by ◌⊑◌, whatever the tie-break (01: Rank and safe block). Assumes nothing.
use mathlib.Core.Path.{◌≡◌, refl, sym, ◌∙◌}
use mathlib.Core.Logic.{⊎_elim}
use mathlib.Core.Bool.{Bool, true, false}
use Prim.Native.Nat.{◌≤◌}
use native.Mathlib.Omega.{arith}
use Rattle.certificate.specs.declared.Certificate.{Certificate}
use Rattle.certificate.specs.Rank.{outranks}
use Rattle.certificate.specs.Safe.{better}
use Rattle.certificate.specs.Order.{◌⊑◌, ◌≼◌, Decided}
use Rattle.certificate.proofs.Order.{level, level_le, le_level, over, over_is, by_level, outranks_irrefl, outranks_trans, outranks_asym}

pub ⊑-level : {a b : Certificate} → a ⊑ b → level a ≤ level b
⊑-level {a} {b} p = le_level a b p.view_le p.block_kept

pub level-⊑ : (a b : Certificate) → level a ≤ level b → a ⊑ b
level-⊑ a b h = let p = level_le a b h in record { view_le = p.0; block_kept = p.1 }

pub ⊑_refl : (a : Certificate) → a ⊑ a
⊑_refl a = level-⊑ a a (omega arith)

pub ⊑_trans : {a b c : Certificate} → a ⊑ b → b ⊑ c → a ⊑ c
⊑_trans {a} {b} {c} p q = level-⊑ a c (omega (arith, ⊑-level p, ⊑-level q))

-- the order with any tie-break
module _ (a b : Certificate) (tie : Bool) where
  over_above : over (level a) (level b) tie ≡ true → b ⊑ a
  over_above e = level-⊑ b a (⊎_elim (λ h. omega arith) (λ h. omega arith) ((over_is (level a) (level b) tie true).0 e))

  over_below : over (level a) (level b) tie ≡ false → a ⊑ b
  over_below e = level-⊑ a b (⊎_elim (λ h. omega arith) (λ h. omega arith) ((over_is (level a) (level b) tie false).0 e))

pub above : (a b : Certificate) → outranks a b ≡ true → b ⊑ a
above a b e = over_above a b _ (sym (by_level a b) ∙ e)

pub below : (a b : Certificate) → outranks a b ≡ false → a ⊑ b
below a b e = over_below a b _ (sym (by_level a b) ∙ e)

-- the two relations of specs/Order.antt are decided by the order
pub ⊑_decided : Decided ◌⊑◌
⊑_decided = record { same = ⊑_refl; trans = ⊑_trans; above = above; below = below }

pub ≼_decided : Decided ◌≼◌
≼_decided = record { same = outranks_irrefl; trans = λ {a} {b} {c} p q. outranks_trans false a b c p q; above = outranks_asym; below = λ a b e. e }

-- ---- the better of two: the later one only if it outranks the earlier, so that equal ones don't replace each other
module _ (l k : Certificate) where
  pub better_stays : outranks l k ≡ false → better l k ≡ k
  unfolding better
  better_stays e = rw e

  pub better_goes : outranks l k ≡ true → better l k ≡ l
  unfolding better
  better_goes e = rw e

  -- what holds of l where it outranks k, and of k where it doesn't
  better_by : (P : Certificate → Type 0) → (outranks l k ≡ true → P l) → (outranks l k ≡ false → P k) → P (better l k)
  better_by P p q = go (outranks l k) refl
    where
      go : (t : Bool) → outranks l k ≡ t → P (better l k)
      go true e = rw (better_goes e) (p e)
      go false e = rw (better_stays e) (q e)

  pub better_has : (P : Certificate → Type 0) → P l → P k → P (better l k)
  better_has P p q = better_by P (λ e. p) (λ e. q)

  -- it is at least the one that was there, and at least the new one
  module _ {R : Certificate → Certificate → Type 0} (d : Decided R) where
    pub better_kept : R k (better l k)
    better_kept = better_by (R k) (d.above l k) (λ e. d.same k)

    pub better_new : R l (better l k)
    better_new = better_by (R l) (λ e. d.same l) (d.below l k)

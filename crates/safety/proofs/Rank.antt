-- The laws of the order, and what a certificate's signers are against the quorums. Assumes nothing.
use mathlib.Core.Bool.{Bool, true, false, false≢true}
use mathlib.Core.Path.{◌≡◌}
use Prim.Native.Nat.{◌+◌, ◌≤◌, ◌<◌}
use native.Mathlib.Omega.{arith}
use Rattle.settings.specs.declared.Settings.{Settings}
use Rattle.settings.specs.Quorum.{replicas, block_quorum, fast_quorum}
use Rattle.settings.proofs.Quorums.{weak_honest, block_honest, block_fast, weak_fast}
use Rattle.certificate.specs.Good.{signers_needed}
use Rattle.safety.specs.Rank.{Cert, ◌⊑◌}

module _ {Name : Type 0} where
  pub ⊑_refl : (a : Cert Name) → a ⊑ a
  ⊑_refl a = record { view_le = omega arith; block_kept = λ e t. t }

  pub ⊑_trans : {a b c : Cert Name} → a ⊑ b → b ⊑ c → a ⊑ c
  ⊑_trans p q = record {
    view_le = omega arith;
    block_kept = λ e t. q.block_kept (omega arith) (p.block_kept (omega arith) t);
  }

module _ (s : Settings) where
  -- more than f, so one signer is honest
  pub needed_honest : (b : Bool) → s.f < signers_needed s b
  unfolding signers_needed
  needed_honest true = block_honest s
  needed_honest false = weak_honest s

  pub needed_block : (b : Bool) → b ≡ true → block_quorum s ≤ signers_needed s b
  unfolding signers_needed
  needed_block true e = omega arith
  needed_block false e = absurd (false≢true e)

  -- with a fast release more than f in common
  pub needed_fast : (b : Bool) → replicas s + s.f + 1 ≤ signers_needed s b + fast_quorum s
  unfolding signers_needed
  needed_fast true = block_fast s
  needed_fast false = weak_fast s

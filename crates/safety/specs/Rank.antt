-- Certificates as the safety argument sees them, and the part of their order on which it rests. Assumes nothing.
use Rattle.std.specs.Prelude.{Bool, true, false, ◌≡◌, ℕ, ◌≤◌}

-- A certificate without its signers: `block` tells a block certificate from a weak one. The genesis certificate has view 0, and no other good one has.
pub record Cert (Name : Type 0) : Type 0 where
  pub view : ℕ
  pub block : Bool
  pub name : Name

abbrev pub block_of : {Name : Type 0} → ℕ → Name → Cert Name
block_of v x = record { view = v; block = true; name = x }

abbrev pub weak_of : {Name : Type 0} → ℕ → Name → Cert Name
weak_of v x = record { view = v; block = false; name = x }

module _ {Name : Type 0} where
  infix 4 ◌⊑◌
  -- ALL that safety asks of the order: what ranks at least as high has at least the view, and at the same view it is a block certificate if the
  -- lower one is. Names and signers are free, so any tie-break will do, and any mix of them in a cluster.
  pub record ◌⊑◌ (a b : Cert Name) : Type 0 where
    pub view_le : a.view ≤ b.view
    pub block_kept : a.view ≡ b.view → a.block ≡ true → b.block ≡ true

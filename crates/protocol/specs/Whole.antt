-- The records that a call writes (01: Records; Refusals, 3, 4, 5): what one says, that it reads back to it, and that it passes 3, 4 and 5. Assumes nothing.
use Rattle.std.specs.Prelude.{ℕ, ◌<◌, ◌≡◌, ◌⊎◌, List}
use Rattle.settings.specs.Answer.{accepts}
use Rattle.codec.specs.Names.{zero_name}
use Rattle.wire.specs.Content.{Content, vote, commit, certificate, timeout, proposal, block, release, content}
use Rattle.wire.specs.Encode.{encode}
use Rattle.wire.specs.Shape.{shape_of, release_shape}

-- THE ONE EXCEPTION: the commit after a certificate of view ≥ 1 with the zero name, which 9 lets through. The premises of demand 3 rule it out, since no honest replica votes for that name
abbrev pub ZeroCommit : Content → Type 0
ZeroCommit (vote s v x) = ⊥
ZeroCommit (commit s v x) = (x ≡ zero_name) × (0 < v)
ZeroCommit (certificate s k) = ⊥
ZeroCommit (timeout t) = ⊥
ZeroCommit (proposal s v x y h k) = ⊥
ZeroCommit (block s x y h) = ⊥
ZeroCommit (release s v x h) = ⊥

-- a record as the writers of `wire` write it, in a cluster of n replicas: it reads back to what was written, and passes 3, 4 and 5; a release passes the place that the host has for it
pub record WholeRecord (n : ℕ) (r : List ℕ) : Type 0 where
  pub says : Content
  pub is : r ≡ encode says
  pub reads : content r ≡ says
  pub passes : (shape_of n r ≡ accepts tt) ⊎ ((release_shape r ≡ accepts tt) ⊎ ZeroCommit says)

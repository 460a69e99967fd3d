-- A call that comes with contents (02, 2.5): the two refusals that they add, and the places of these in the lists of 01. Assumes nothing.
use Rattle.std.specs.Prelude.{ℕ, not, cond, List, [], ◌∷◌, ◌++◌, eqb}
use Rattle.settings.specs.Answer.{Rule, ◌⇒◌}
use Rattle.codec.specs.Names.{same_bytes}
use Rattle.digest.specs.Name.{name_of, too_long}
use Rattle.wire.specs.Content.{Content, vote, commit, certificate, timeout, proposal, block, release}
use Rattle.blocks.specs.declared.Block.{Block}
use Rattle.protocol.specs.Work.{Work}
use Rattle.protocol.specs.Refusals.{child, next_block}

-- "A block, a proposal or a propose call may come with its contents in a second region". Present and empty is not absent
pub data Contents : Type 0 where
  none : Contents
  given : List ℕ → Contents

-- "Contents over 4,096 bytes are refused by 16"
abbrev pub too_long_rule : Contents → List Rule
too_long_rule none = []
too_long_rule (given s) = too_long s ⇒ 16 ∷ []

-- "and the box then checks that the name is this digest": of the block's parent, its height and the contents. "a name that isn't the digest by 17"
abbrev pub digest_rule : Block → Contents → List Rule
digest_rule b none = []
digest_rule b (given s) = not (same_bytes b.name (name_of b.parent b.height.0 s)) ⇒ 17 ∷ []

-- of a record. "Beside any other kind only the contents' length is judged"
abbrev pub record_digest_rule : Work → Content → Contents → List Rule
record_digest_rule W (vote j v x) c = []
record_digest_rule W (commit j v x) c = []
record_digest_rule W (certificate j k) c = []
record_digest_rule W (timeout t) c = []
record_digest_rule W (proposal j v x y h k) c = digest_rule (child W x y h) c
record_digest_rule W (block j x y h) c = digest_rule (child W x y h) c
record_digest_rule W (release j v x h) c = []

-- of propose: "with the safe block and its height plus 1"
abbrev pub propose_digest_rule : Work → List ℕ → Contents → List Rule
propose_digest_rule W x c = digest_rule (next_block W x) c

-- "right before 10 (propose: before 14)"
abbrev pub record_place : ℕ
record_place = 10

abbrev pub propose_place : ℕ
propose_place = 14

-- some rules stand in front of the first one of that number
unfoldable pub right_before : ℕ → List Rule → List Rule → List Rule
right_before a new [] = new
right_before a new (r ∷ rules) = cond (eqb r.number a) (new ++ (r ∷ rules)) (r ∷ right_before a new rules)

-- 16 and 17 by themselves (02, 2.5): each where no rule before it applies, or else 0. Assumes nothing.
use Rattle.std.specs.Prelude.{ℕ, suc, cond, not, List, [], ◌∷◌, eqb, leb}
use Rattle.settings.specs.Answer.{Rule, ◌⇒◌}
use Rattle.settings.specs.Quorum.{replicas}
use Rattle.codec.specs.Names.{same_bytes}
use Rattle.digest.specs.Name.{name_of, too_long}
use Rattle.wire.specs.declared.Child.{Child}
use Rattle.wire.specs.Shape.{shape_rules}
use Rattle.wire.specs.Content.{certificate_of, Content, vote, commit, certificate, timeout, proposal, block, release, content}
use Rattle.blocks.specs.Store.{Found}
use Rattle.memory.specs.Layout.{settings_of, entry_of}
use Rattle.protocol.specs.Work.{Work, n, view_now}
use Rattle.protocol.specs.Refusals.{region_rules}
use Rattle.protocol.specs.Contents.{given, too_long_rule}
use Rattle.protocol.specs.Calls.{◌then◌}
use Rattle.refusals.specs.Number.{first_of}
use Rattle.refusals.specs.Early.{proposal_first, early_propose}
use Rattle.judge.specs.Want.{Wanted, names, safe_block, want_of}
use Rattle.judge.specs.Late.{child_of, late_first, looked_up}

-- a number that is asked where none of these rules applies
abbrev pub behind : List Rule → ℕ → ℕ
behind rules k = cond (eqb (first_of rules) 0) k 0

-- "a name that isn't the digest by 17"
unfoldable pub digest_number : Child → List ℕ → ℕ
digest_number b s = cond (not (same_bytes b.name (name_of b.parent b.height.0 s))) 17 0

-- "right before 10": of kinds 7 and 8, behind what needs no store
unfoldable pub digest_due : List ℕ → ℕ → Content → List ℕ → ℕ
digest_due m current (vote j v x) s = 0
digest_due m current (commit j v x) s = 0
digest_due m current (certificate j k) s = 0
digest_due m current (timeout t) s = 0
digest_due m current (proposal j v x y h k) s = behind (proposal_first m current j v k) (digest_number (child_of x y h) s)
digest_due m current (block j x y h) s = behind (leb (replicas (settings_of m)) j ⇒ 6 ∷ []) (digest_number (child_of x y h) s)
digest_due m current (release j v x h) s = 0

-- 16 "right after 2"
unfoldable pub record_due : Work → ℕ → List ℕ → List ℕ → ℕ
record_due W room r s = behind (region_rules W room) (cond (too_long s) 16 (behind (shape_rules (n W) r) (digest_due W.memory (view_now W) (content r) s)))

-- propose: what is to be looked up, or the refusal before that, with 16 "before 15"
unfoldable pub propose_want_with : Work → ℕ → List ℕ → List ℕ → Wanted
propose_want_with W room x s =
    want_of (first_of (region_rules W room then too_long_rule (given s) then early_propose W x)) (names W.memory x (safe_block W.memory (certificate_of (entry_of W.memory))))

-- "for propose with the safe block and its height plus 1"
abbrev pub next_child : List ℕ → Wanted → Found → Child
next_child x w under = child_of x w.base (suc under.block.height.0)

-- 17 "before 14"
unfoldable pub propose_due : List ℕ → Wanted → Found → Found → List ℕ → ℕ
propose_due x w found under s =
    cond (eqb w.refusal 16) 16 (cond (eqb w.refusal 0) (behind (late_first found under) (digest_number (next_child x w under) s)) 0)

-- with what the store holds
unfoldable pub propose_refusal : Work → ℕ → List ℕ → List ℕ → ℕ
propose_refusal W room x s = let w = propose_want_with W room x s in propose_due x w (looked_up W w w.name) (looked_up W w w.base) s

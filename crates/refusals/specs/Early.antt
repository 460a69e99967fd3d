-- The refusals of a record and of propose up to what the store is asked (01: Refusals, by place): the lists of `protocol`, cut where a held block
-- is first looked up, with the leader by the list. Assumes nothing.
use Rattle.std.specs.Prelude.{ℕ, suc, ◌+◌, ◌*◌, Bool, cond, not, ◌&&◌, ◌||◌, List, [], ◌∷◌, ◌++◌, eqb, ltb, leb, length}
use Rattle.settings.specs.Answer.{Rule, ◌⇒◌}
use Rattle.settings.specs.Quorum.{replicas, last_view}
use Rattle.codec.specs.Names.{name_length, same_bytes, zero_name}
use Rattle.wire.specs.Fields.{kind_of, count_of, block_certificate_length, timeouts_head, timeout_length}
use Rattle.wire.specs.Content.{Certificate, Content, vote, commit, certificate, timeout, proposal, block, release}
use Rattle.certificate.specs.Good.{progress_good}
use Rattle.blocks.specs.declared.Block.{Block}
use Rattle.memory.specs.Layout.{settings_of, own_of}
use Rattle.memory.specs.Kept.{has, kept}
use Rattle.memory.specs.Window.{lowest}
use Rattle.memory.specs.Leaders.{by_list}
use Rattle.counters.specs.declared.Counters.{Counters}
use Rattle.protocol.specs.Work.{Work, n, own, view_now, timed, high_vote_view}
use Rattle.protocol.specs.Refusals.{not_other, above_window, view_of_progress, refusals}

-- counters, memory and store as they are lent, before anything is written
abbrev pub lent : Counters → List ℕ → List Block → Work
lent c m s = record { counters = c; memory = m; store = s; out = [] }

-- 2: a record of kind 3, or of kind 6 with at most n timeouts, that has its length
unfoldable pub certificate_sized : ℕ → List ℕ → Bool
certificate_sized n r =
    cond (eqb (kind_of r) 3) (eqb (length r) block_certificate_length)
    (eqb (kind_of r) 6 && (leb (count_of r) n && eqb (length r) (timeouts_head + timeout_length * count_of r)))

-- kind 5, 10 and 11: what is kept of that sender for that view
unfoldable pub kept_rules : List ℕ → ℕ → ℕ → List ℕ → List Rule
kept_rules m row j r =
    (has m row j && same_bytes (kept m row timeout_length j) r) ⇒ 10
    ∷ has m row j ⇒ 11
    ∷ []

-- kind 7, 6 to 9: in a memory and a current view
unfoldable pub proposal_first : List ℕ → ℕ → ℕ → ℕ → Certificate → List Rule
proposal_first m current j v k =
    ((leb (replicas (settings_of m)) j || eqb j (own_of m)) || (ltb 0 v && not (eqb j (by_list m v)))) ⇒ 6
    ∷ (ltb v current || eqb v 0) ⇒ 7
    ∷ leb last_view v ⇒ 8
    ∷ (not (progress_good (settings_of m) k && eqb (suc (view_of_progress k)) v)) ⇒ 9
    ∷ []

module _ (W : Work) where
  -- kinds 1 and 2: they differ in the row that keeps them
  unfoldable pub ballot_rules : ℕ → ℕ → ℕ → List ℕ → List Rule
  ballot_rules row j v x =
      not_other W j ⇒ 6
      ∷ ltb v (lowest (view_now W)) ⇒ 7
      ∷ above_window W v ⇒ 8
      ∷ (has W.memory row j && same_bytes (kept W.memory row name_length j) x) ⇒ 10
      ∷ has W.memory row j ⇒ 11
      ∷ []

  -- kind 7, 10 and 11: "proposal voted for", "another name voted for in that view"
  unfoldable pub voted_rules : ℕ → List ℕ → List Rule
  voted_rules v x =
      (eqb (high_vote_view W) v && same_bytes W.counters.high.name x) ⇒ 10
      ∷ eqb (high_vote_view W) v ⇒ 11
      ∷ []

  -- kind 7: 6 to 9, and what 10 and 11 say of the high vote
  unfoldable pub proposal_rules : ℕ → ℕ → List ℕ → Certificate → List Rule
  proposal_rules j v x k = proposal_first W.memory (view_now W) j v k ++ voted_rules v x

  -- kind 8: all but 6 asks the store
  abbrev pub block_first : ℕ → List Rule
  block_first j = leb (n W) j ⇒ 6 ∷ []

  -- every kind
  unfoldable pub early_rules : List ℕ → Content → List Rule
  early_rules r (vote j v x) = refusals W by_list r (vote j v x)
  early_rules r (commit j v x) = refusals W by_list r (commit j v x)
  early_rules r (certificate j k) = refusals W by_list r (certificate j k)
  early_rules r (timeout t) = refusals W by_list r (timeout t)
  early_rules r (proposal j v x y h k) = proposal_rules j v x k
  early_rules r (block j x y h) = block_first j
  early_rules r (release j v x h) = refusals W by_list r (release j v x h)

  -- propose: 15 and 5
  unfoldable pub early_propose : List ℕ → List Rule
  early_propose x =
      (not (eqb (by_list W.memory (view_now W)) (own W)) || (leb (view_now W) (timed W) || (eqb (high_vote_view W) (view_now W) || leb last_view (view_now W)))) ⇒ 15
      ∷ same_bytes x zero_name ⇒ 5
      ∷ []

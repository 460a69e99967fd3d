-- The names of a view that enough votes or commits decide, "lowest view first, then smaller name" (01: The box, rules C and D). Assumes nothing.
use Rattle.std.specs.Prelude.{ℕ, zero, suc, ◌-◌, Bool, true, false, cond, not, ◌&&◌, ◌||◌, List, Option, Some, None, leb, ltb}
use Rattle.codec.specs.Names.{name_length, zero_name, less_bytes}
use Rattle.memory.specs.declared.decided.Quorums.{Quorums}
use Rattle.memory.specs.declared.decided.Standing.{Standing}
use Rattle.memory.specs.Layout.{vote_row, commit_row}
use Rattle.memory.specs.Kept.{has, kept, kept_count, tally}

-- a name, or none
pub record Choice : Type 0 where
  pub some : Bool
  pub name : List ℕ

-- the next decided name, if there is one, and whether no other name of the view is decided
pub record Decision : Type 0 where
  pub some : Bool
  pub name : List ℕ
  pub only : Bool

abbrev pub no_choice : Choice
no_choice = record { some = false; name = zero_name }

abbrev pub chosen : List ℕ → Choice
chosen x = record { some = true; name = x }

-- what an `Option` of the code means
abbrev pub choice_of : Option (List ℕ) → Choice
choice_of None = no_choice
choice_of (Some x) = chosen x

-- above the bound, if there is one
unfoldable pub above : Choice → List ℕ → Bool
above after x = not after.some || less_bytes after.name x

-- and below the best so far, if there is one
unfoldable pub improves : Choice → Choice → List ℕ → Bool
improves after best x = above after x && (not best.some || less_bytes x best.name)

-- a name, if there is one, and whether no other is decided
abbrev pub decision : Choice → Bool → Decision
decision x only = record { some = x.some; name = x.name; only = only }

module _ (m : List ℕ) where
  -- enough of the first n replicas have an entry for x in a row
  abbrev pub backed : ℕ → ℕ → ℕ → List ℕ → Bool
  backed row n quorum x = leb quorum (tally m row x n).count

  -- enough kept votes, or enough kept commits
  unfoldable pub decided : Quorums → List ℕ → Bool
  decided q x = backed (vote_row q.view.0) q.n q.votes x || backed (commit_row q.view.0) q.n q.commits x

  -- fewer than a quorum have an entry for another name than x: no other name is backed in the row
  abbrev pub alone_in : ℕ → ℕ → ℕ → List ℕ → Bool
  alone_in row n quorum x = ltb (kept_count m row n - (tally m row x n).count) quorum

  unfoldable pub standing : ℕ → ℕ → ℕ → List ℕ → Standing
  standing row n quorum x = record { backed = backed row n quorum x; alone = alone_in row n quorum x }

  -- neither votes nor commits decide another name than x
  unfoldable pub alone : Quorums → List ℕ → Bool
  alone q x = alone_in (vote_row q.view.0) q.n q.votes x && alone_in (commit_row q.view.0) q.n q.commits x

  -- too few kept votes for any name, and too few kept commits
  unfoldable pub too_few : Quorums → Bool
  too_few q = ltb (kept_count m (vote_row q.view.0) q.n) q.votes && ltb (kept_count m (commit_row q.view.0) q.n) q.commits

  -- replica i's entry in a row, of those names that pass a test
  unfoldable pub consider : ℕ → (List ℕ → Bool) → Choice → ℕ → Choice → Choice
  consider row test after i best =
      let x = kept m row name_length i in
      cond (has m row i && (improves after best x && test x)) (chosen x) best

  -- those of the first k replicas, from the best so far on
  unfoldable pub choose : ℕ → (List ℕ → Bool) → Choice → Choice → ℕ → Choice
  choose row test after best zero = best
  choose row test after best (suc k) = consider row test after k (choose row test after best k)

  -- the least decided name above a bound, of all that are kept for the view
  unfoldable pub next_decided : Quorums → Choice → Choice
  next_decided q after = choose (commit_row q.view.0) (decided q) after (choose (vote_row q.view.0) (decided q) after no_choice q.n) q.n

  -- the first entry of a row, of k replicas from replica i on
  unfoldable pub first_of : ℕ → ℕ → ℕ → List ℕ
  first_of row i zero = zero_name
  first_of row i (suc k) = cond (has m row i) (kept m row name_length i) (first_of row (suc i) k)

  -- a name that is decided, if only one can be: the first kept vote, or the first kept commit where the votes are too few
  unfoldable pub likely : Quorums → List ℕ
  likely q = first_of (cond (ltb (kept_count m (vote_row q.view.0) q.n) q.votes) (commit_row q.view.0) (vote_row q.view.0)) 0 q.n

  -- the least decided name above a bound, and whether it is clear that no other name is decided
  unfoldable pub find_decided : Quorums → Choice → Decision
  find_decided q after = decision (next_decided q after) (alone q (likely q))

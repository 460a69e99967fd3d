-- When the records that a replica made say its acts. Assumes nothing.
use Rattle.std.specs.Prelude.{List, [], ◌∷◌, ◌++◌, ◌≡◌}
use Rattle.safety.specs.Trace.{Act, vote, commit, timeout}
use Rattle.safety.specs.Run.{Read, is_vote, is_commit, is_timeout, is_release, is_other}

module _ {Name : Type 0} where
  -- the record of an act
  abbrev pub shows : Act Name → Read Name
  shows (vote v x c) = is_vote v x
  shows (commit v x) = is_commit v x
  shows (timeout t) = is_timeout t

  -- a record that is none
  abbrev pub Silent : Read Name → Type 0
  Silent (is_vote v x) = ⊥
  Silent (is_commit v x) = ⊥
  Silent (is_timeout t) = ⊥
  Silent (is_release x h) = Unit {0}
  Silent is_other = Unit {0}

module _ {Item Name : Type 0} (reads : Item → Read Name) where
  -- records in the order made, acts with the last one first
  pub data Matches : List Item → List (Act Name) → Type 0 where
    start : Matches [] []
    no_act : {l : List Item} {a : List (Act Name)} (q : Item) → Matches l a → Silent (reads q) → Matches (l ++ (q ∷ [])) a
    an_act : {l : List Item} {a : List (Act Name)} (q : Item) (b : Act Name) → Matches l a → reads q ≡ shows b → Matches (l ++ (q ∷ [])) (b ∷ a)

-- What an event leaves: a draft, and a block with its place in the store, for the caller to fill in; and what has to hold before. Assumes nothing.
use Rattle.std.specs.Prelude.{ℕ, ◌+◌, ◌^◌, ◌<◌, ◌≡◌, Bool, false, cond, ◌&&◌, List, ◌++◌, Option, Some, None, ltb, length, set}
use Rattle.settings.specs.declared.Settings.{Settings}
use Rattle.settings.specs.Quorum.{replicas}
use Rattle.codec.specs.Bytes.{le_bytes}
use Rattle.wire.specs.Fields.{kind_of, sender_of, name_of, parent_of, height_of, progress_of, block_name_of, block_parent_of, block_height_of, vote_length, timeout_length, block_length}
use Rattle.wire.specs.declared.Child.{Child}
use Rattle.wire.specs.Content.{certificate_of}
use Rattle.wire.specs.Encode.{proposal_bytes}
use Rattle.certificate.specs.declared.Certificate.{Certificate}
use Rattle.certificate.specs.Safe.{safe_certificate}
use Rattle.blocks.specs.declared.Block.{Block}
use Rattle.memory.specs.Layout.{settings_of, own_of, block_count_of, entry_of, with_block_count}
use Rattle.protocol.specs.Work.{Work, timed, high_vote_view, held_block, hold, send_vote}
use Rattle.protocol.specs.Refusals.{store_length}
use Rattle.act.specs.declared.Draft.{Draft}
use Rattle.act.specs.Draft.{work_of, left, left_by}
use Rattle.act.specs.Progress.{IsProgress}
use Rattle.event.specs.declared.Event.{Event}
use Rattle.event.specs.declared.Placed.{Placed}

-- a store in which a new block is filled in at its place, where there is one
abbrev pub filled : List Block → Option Placed → List Block
filled s None = s
filled s (Some p) = set s p.place p.block

-- THE RELATION: from the draft d, memory m and region o an event leaves what f says, for every store of which `given` holds, once a new block is
-- filled in. A lent store has less than 2^64 entries
pub record Gives (f : Work → Work) (given : Work → Type 0) (d : Draft) (m o : List ℕ) (e : Event) (m' o' : List ℕ) : Type 0 where
  pub leaves : (s : List Block) → length s < 2 ^ 64 → given (work_of d m o s)
      → left e.draft m' o' (filled s e.placed) ≡ left_by (f (work_of d m o s)) o

-- what may be given of the store: nothing; whether a block of a name is held
abbrev pub Always : Work → Type 0
Always W = Unit {0}

abbrev pub HeldIs : List ℕ → Bool → Work → Type 0
HeldIs x t W = (held_block W x).is ≡ t

-- ---- "hold the block": a new one at the next place, and the number of held blocks
unfoldable pub placed_for : List ℕ → Block → Bool → Option Placed
placed_for m b t = cond t None (Some (record { place = block_count_of m; block = b }))

unfoldable pub counted_in : List ℕ → Bool → List ℕ
counted_in m t = cond t m (with_block_count m (block_count_of m + 1))

-- refusal 14 has seen to it
abbrev pub HasRoom : List ℕ → Bool → Type 0
HasRoom m t = t ≡ false → block_count_of m < store_length

-- "hold the block; if timed < v and high vote is below v, vote for it and make it high vote": the end of `proposition_of`
unfoldable pub hold_vote : ℕ → Block → Work → Work
hold_vote v b W = let W₂ = hold W b in cond (ltb (timed W₂) v && ltb (high_vote_view W₂) v) (send_vote v b.name W₂) W₂

-- ---- a record that came in
-- the block that a proposal, or a record of kind 8, is
unfoldable pub block_of_child : Child → Block
block_of_child x = record { name = x.name; parent = x.parent; height = x.height }

abbrev pub proposed_block : List ℕ → Block
proposed_block r = record { name = name_of r; parent = parent_of r; height = record { 0 = height_of r } }

abbrev pub said_block : List ℕ → Block
said_block r = record { name = block_name_of r; parent = block_parent_of r; height = record { 0 = block_height_of r } }

-- the name of which the store was asked
pub record Asked (r : List ℕ) (t : Bool) (W : Work) : Type 0 where
  pub proposal : kind_of r ≡ 7 → HeldIs (name_of r) t W
  pub block : kind_of r ≡ 8 → HeldIs (block_name_of r) t W

-- what the places 3 to 9 and 14 have shown of it, by its kind, in a cluster of n
pub record Taken (m r : List ℕ) (t : Bool) : Type 0 where
  pub vote : kind_of r ≡ 1 → (length r ≡ vote_length) × (sender_of r < replicas (settings_of m))
  pub commit : kind_of r ≡ 2 → (length r ≡ vote_length) × (sender_of r < replicas (settings_of m))
  pub timeout : kind_of r ≡ 5 → (length r ≡ timeout_length) × (sender_of r < replicas (settings_of m))
  pub proposal : kind_of r ≡ 7 → IsProgress (replicas (settings_of m)) (progress_of r) × HasRoom m t
  pub block : kind_of r ≡ 8 → (length r ≡ block_length) × HasRoom m t
  pub certificate : (kind_of r ≡ 1 → ⊥) → (kind_of r ≡ 2 → ⊥) → (kind_of r ≡ 5 → ⊥) → (kind_of r ≡ 7 → ⊥) → (kind_of r ≡ 8 → ⊥) → IsProgress (replicas (settings_of m)) r

-- ---- propose
unfoldable pub safe_of_entry : List ℕ → Certificate
safe_of_entry m = safe_certificate (settings_of m) (certificate_of (entry_of m))

-- the proposal of a child in a view, with the entry certificate
unfoldable pub own_proposal_bytes : List ℕ → ℕ → Child → List ℕ
own_proposal_bytes m v x = proposal_bytes (own_of m) v x.name x.parent x.height.0 (entry_of m)

-- what the store was asked: the name is new, and the safe block, which refusal 12 has found, has that height
pub record Proposable (x : List ℕ) (h : ℕ) (W : Work) : Type 0 where
  pub new : HeldIs x false W
  pub height : (held_block W (safe_of_entry W.memory).name).block.height.0 ≡ h

-- ---- opening: settings and own number in the memory
unfoldable pub head_bytes : Settings → ℕ → List ℕ
head_bytes s own = le_bytes 2 s.f ++ le_bytes 2 s.c ++ le_bytes 2 s.k ++ le_bytes 2 own

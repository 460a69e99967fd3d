-- What a record says (01: Records). `content` reads any bytes; it means something where the place "shape" accepts them. Assumes nothing.
use Rattle.std.specs.Prelude.{ℕ, ◌+◌, ◌*◌, ◌≤◌, cond, List, map, eqb, length, drop}
use Rattle.settings.specs.Answer.{Answer, judge}
use Rattle.codec.specs.Bytes.{part}
use Rattle.codec.specs.Names.{name_length}
use Rattle.wire.specs.declared.Vote.{Vote}
use Rattle.wire.specs.declared.Carried.{Carried}
use Rattle.wire.specs.declared.Timeout.{Timeout}
use Rattle.wire.specs.declared.Child.{Child}
use Rattle.wire.specs.declared.Release.{Release}
use Rattle.wire.specs.declared.Progress.{Progress}
use Rattle.wire.specs.declared.Progress.TheVariants.{Block, Timeouts}
use Rattle.wire.specs.Fields.{number_at, kind_of, sender_of, view_of, name_of, signers_of, high_view_of, high_name_of, carried_kind_of, carried_view_of, carried_name_of, carried_signers_of, count_of, parent_of, height_of, progress_of, block_name_of, block_parent_of, block_height_of, release_height_of, timeouts_head, timeout_length, cut, slots}
use Rattle.wire.specs.Shape.{shape_rules}

-- a view and the name behind it
unfoldable pub vote_at : List ℕ → ℕ → Vote
vote_at r at = record { view = record { 0 = number_at r at 8 }; name = part r (at + 8) name_length }

-- kind 5
unfoldable pub carried_of : List ℕ → Carried
carried_of r =
    record {
      kind = carried_kind_of r;
      view = record { 0 = carried_view_of r };
      name = carried_name_of r;
      signers = carried_signers_of r;
    }

unfoldable pub timeout_of : List ℕ → Timeout
timeout_of r =
    record {
      sender = sender_of r;
      view = record { 0 = view_of r };
      high = record { view = record { 0 = high_view_of r }; name = high_name_of r };
      carried = record {
        kind = carried_kind_of r;
        view = record { 0 = carried_view_of r };
        name = carried_name_of r;
        signers = carried_signers_of r;
      };
    }

-- kinds 7 and 8: what they say of a name, which stands at 16 in the one and at 8 in the other
unfoldable pub child_at : List ℕ → ℕ → Child
child_at r at =
    record {
      name = part r at name_length;
      parent = part r (at + 32) name_length;
      height = record { 0 = number_at r (at + 64) 8 };
    }

unfoldable pub proposed_of : List ℕ → Child
proposed_of r = record { name = name_of r; parent = parent_of r; height = record { 0 = height_of r } }

unfoldable pub block_of : List ℕ → Child
block_of r = record { name = block_name_of r; parent = block_parent_of r; height = record { 0 = block_height_of r } }

-- kind 9
unfoldable pub release_of : List ℕ → Release
release_of r = record { view = record { 0 = view_of r }; name = name_of r; height = record { 0 = release_height_of r } }

-- kinds 3 and 6, which a proposal holds as its progress certificate
pub data Certificate : Type 0 where
  -- view, name, signers
  by_block : ℕ → List ℕ → ℕ → Certificate
  -- view, timeouts
  by_timeouts : ℕ → List Timeout → Certificate

unfoldable pub certificate_of : List ℕ → Certificate
certificate_of r =
    cond (eqb (kind_of r) 3) (by_block (view_of r) (name_of r) (signers_of r))
    (by_timeouts (view_of r) (map timeout_of (slots r)))

-- a record: its sender first
pub data Content : Type 0 where
  -- kinds 1 and 2: view, name
  vote : ℕ → ℕ → List ℕ → Content
  commit : ℕ → ℕ → List ℕ → Content
  -- kinds 3 and 6
  certificate : ℕ → Certificate → Content
  -- kind 5: the sender is in it
  timeout : Timeout → Content
  -- kind 7: view, name, parent, height, progress certificate, whose sender is the proposal's
  proposal : ℕ → ℕ → List ℕ → List ℕ → ℕ → Certificate → Content
  -- kind 8: name, parent, height
  block : ℕ → List ℕ → List ℕ → ℕ → Content
  -- kind 9: view, name, height
  release : ℕ → ℕ → List ℕ → ℕ → Content

unfoldable pub content : List ℕ → Content
content r =
    cond (eqb (kind_of r) 1) (vote (sender_of r) (view_of r) (name_of r))
    (cond (eqb (kind_of r) 2) (commit (sender_of r) (view_of r) (name_of r))
    (cond (eqb (kind_of r) 5) (timeout (timeout_of r))
    (cond (eqb (kind_of r) 7) (proposal (sender_of r) (view_of r) (name_of r) (parent_of r) (height_of r) (certificate_of (progress_of r)))
    (cond (eqb (kind_of r) 8) (block (sender_of r) (block_name_of r) (block_parent_of r) (block_height_of r))
    (cond (eqb (kind_of r) 9) (release (sender_of r) (view_of r) (name_of r) (release_height_of r))
    (certificate (sender_of r) (certificate_of r)))))))

-- a slice that comes in: its content, or the place's refusal
unfoldable pub decode : ℕ → List ℕ → Answer Content
decode n r = judge (shape_rules n r) (content r)

-- the progress certificate that begins at a place of a record: by kind 3 its place, view and signers, else its place and count
unfoldable pub progress_at : List ℕ → ℕ → Progress
progress_at r at =
    cond (eqb (kind_of (drop at r)) 3)
    (Block (record { place = at; view = record { 0 = view_of (drop at r) }; signers = signers_of (drop at r) }))
    (Timeouts (record { place = at; count = count_of (drop at r) }))

-- what the enum's cases mean, over the bytes in which their places lie: kind 3 with that view and those signers, the name beside them in the bytes;
-- kind 6 with so many timeouts, which stand behind its head
unfoldable pub progress_means : List ℕ → Progress → Certificate
progress_means r (Block b) = by_block b.view.0 (name_of (drop b.place r)) b.signers
progress_means r (Timeouts t) = by_timeouts (view_of (drop t.place r)) (map timeout_of (cut t.count (drop timeouts_head (drop t.place r))))

-- the bytes that its meaning is read from are there: a block certificate's name, a timeout certificate's head and timeouts
unfoldable pub Within : List ℕ → Progress → Type 0
Within r (Block b) = b.place + 48 ≤ length r
Within r (Timeouts t) = t.place + (timeouts_head + timeout_length * t.count) ≤ length r

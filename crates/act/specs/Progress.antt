-- Certificates that are acted on: what has to hold of their records, and what one does before its commit. Assumes nothing.
use Rattle.std.specs.Prelude.{ℕ, suc, ◌+◌, ◌*◌, ◌≤◌, ◌<◌, ◌≡◌, cond, ◌⊎◌, List, eqb, length}
use Rattle.settings.specs.Quorum.{last_view, replicas}
use Rattle.codec.specs.Bytes.{part}
use Rattle.wire.specs.Fields.{kind_of, sender_of, view_of, count_of, vote_length, block_certificate_length, timeouts_head, timeout_length}
use Rattle.wire.specs.Content.{certificate_of}
use Rattle.certificate.specs.Safe.{safe_certificate}
use Rattle.memory.specs.Layout.{settings_of, own_of}
use Rattle.protocol.specs.Work.{Work, settings, send, adopt, enter_by}
use Rattle.protocol.specs.Refusals.{view_of_progress}
use Rattle.act.specs.declared.Draft.{Draft}
use Rattle.act.specs.Draft.{Ready}

-- a record of kind 3, or of kind 6 with at most n timeouts, that has its kind's length
abbrev pub HasForm : ℕ → List ℕ → Type 0
HasForm n r =
    ((kind_of r ≡ 3) × (length r ≡ block_certificate_length))
    ⊎ ((kind_of r ≡ 6) × (count_of r ≤ n) × (length r ≡ timeouts_head + timeout_length * count_of r))

-- and a view after which there is another: what a certificate that came in, or was formed, has
pub record IsProgress (n : ℕ) (r : List ℕ) : Type 0 where
  pub form : HasForm n r
  pub view : view_of r < last_view

-- what it may write: its record, and a commit behind a block certificate
abbrev pub certificate_room : List ℕ → ℕ
certificate_room r = length r + cond (eqb (kind_of r) 3) vote_length 0

-- it is adopted and sent, and the view after its own is entered; r has own as sender
unfoldable pub advance : List ℕ → Work → Work
advance r W =
    let k = certificate_of r in
    enter_by (send (adopt W (safe_certificate (settings W) k)) r) (suc (view_of_progress k)) r

-- a record that stands in the output region behind what is written, with own as sender, and that takes the replica to a higher view
pub record InOutput (d : Draft) (m o : List ℕ) (size : ℕ) : Type 0 where
  pub ready : Ready d m o (certificate_room (part o d.at size))
  pub whole : d.at + size ≤ length o
  pub progress : IsProgress (replicas (settings_of m)) (part o d.at size)
  pub sender : sender_of (part o d.at size) ≡ own_of m
  pub view : d.counters.view.0 ≤ view_of (part o d.at size)

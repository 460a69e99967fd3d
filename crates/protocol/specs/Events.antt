-- What an accepted call does before the rules run (01: The box: certificates, proposal, timer, propose). Assumes nothing.
use Rattle.std.specs.Prelude.{ℕ, suc, Bool, cond, ◌&&◌, List, eqb, ltb, leb}
use Rattle.codec.specs.Bytes.{patch, le_bytes}
use Rattle.wire.specs.Fields.{progress_of}
use Rattle.wire.specs.Encode.{proposal_bytes}
use Rattle.wire.specs.Content.{Certificate, by_block, by_timeouts, certificate_of, Content, vote, commit, certificate, timeout, proposal, block, release}
use Rattle.certificate.specs.Safe.{safe_certificate}
use Rattle.blocks.specs.declared.Block.{Block}
use Rattle.memory.specs.Layout.{entry_of}
use Rattle.protocol.specs.Work.{Work, settings, own, view_now, timed, high_vote_view, send, adopt, enter_by, hold, keep_vote, keep_commit, keep_timeout, send_vote, send_commit, send_timeout}
use Rattle.protocol.specs.Refusals.{view_of_progress, child, next_block}

-- a record with another sender
abbrev pub with_sender : ℕ → List ℕ → List ℕ
with_sender j r = patch r 6 (le_bytes 2 j)

-- its safe certificate, by the replica's settings
abbrev pub safe_in : Work → Certificate → Rattle.certificate.specs.declared.Certificate.Certificate
safe_in W k = safe_certificate (settings W) k

-- "if timed < w", and "if timed < v and high vote is below v"
abbrev pub may_commit : ℕ → Work → Bool
may_commit v W = ltb (timed W) v

abbrev pub may_vote : ℕ → Work → Bool
may_vote v W = ltb (timed W) v && ltb (high_vote_view W) v

-- "send a commit for w if timed < w", after a block certificate alone
abbrev pub commit_after : Certificate → Work → Work
commit_after (by_block v x g) W = cond (may_commit v W) (send_commit v x W) W
commit_after (by_timeouts v ts) W = W

-- "Block certificate of view w: adopt. If w ≥ view: send it, enter w+1, and send a commit for w if timed < w."
-- "Timeout certificate of view w ≥ view: adopt its safe certificate, send it to the next leader, enter w+1."
-- r is the certificate's record, of kind 3 or 6
unfoldable pub progress : List ℕ → Work → Work
progress r W =
    let k = certificate_of r in
    let v = view_of_progress k in
    let s = with_sender (own W) r in
    let W₁ = adopt W (safe_in W k) in
    cond (leb (view_now W) v) (commit_after k (enter_by (send W₁ s) (suc v) s)) W₁

-- "Proposal of view v: do what its certificate does (only adopt, if v is the current view); hold the block; if timed < v and high vote is below v,
-- vote for it and make it high vote."
unfoldable pub proposition_of : ℕ → Block → List ℕ → Work → Work
proposition_of v b r W =
    let W₁ = cond (eqb v (view_now W)) (adopt W (safe_in W (certificate_of r))) (progress r W) in
    let W₂ = hold W₁ b in
    cond (may_vote v W₂) (send_vote v b.name W₂) W₂

-- by kind; r is the record
unfoldable pub on_record : List ℕ → Content → Work → Work
on_record r (vote j v x) W = keep_vote W v j x
on_record r (commit j v x) W = keep_commit W v j x
on_record r (certificate j k) W = progress r W
on_record r (timeout t) W = keep_timeout W t.view.0 t.sender r
on_record r (proposal j v x y h k) W = proposition_of v (child W x y h) (progress_of r) W
on_record r (block j x y h) W = hold W (child W x y h)
on_record r (release j v x h) W = W

-- "Timer of the current view: send a timeout"
abbrev pub on_timer : ℕ → Work → Work
on_timer v W = send_timeout v W

-- "Propose (a name): build on the safe block of the entry certificate, send, and take the proposal as one's own."
unfoldable pub on_propose : List ℕ → Work → Work
on_propose x W =
    let b = next_block W x in
    let r = entry_of W.memory in
    proposition_of (view_now W) b r (send W (proposal_bytes (own W) (view_now W) b.name b.parent b.height.0 r))

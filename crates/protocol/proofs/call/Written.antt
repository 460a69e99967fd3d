-- How many bytes each action and each rule adds to what is written. Assumes nothing.
use Prim.Native.Nat.{ℕ, suc, ◌+◌, ◌≤◌, ◌<◌}
use native.Mathlib.Omega.{arith}
use mathlib.Core.Path.{◌≡◌, refl}
use mathlib.Core.Bool.{Bool, true, false, cond, ◌&&◌}
use mathlib.Core.Logic.{inl, inr}
use mathlib.Core.List.{List}
use lib.Dec.{leb}
use lib.ListN.{length, length-append}
use Rattle.settings.specs.Quorum.{largest, last_view}
use Rattle.codec.specs.Bytes.{le_bytes}
use Rattle.codec.proofs.Laws.{length-patch}
use Rattle.codec.proofs.Order.{and_true}
use Rattle.wire.specs.Fields.{kind_of, vote_length, block_certificate_length, timeout_length}
use Rattle.wire.specs.Content.{Certificate, by_block, by_timeouts, certificate_of}
use Rattle.wire.specs.Encode.{timeout_bytes}
use Rattle.wire.specs.Fit.{IsName, IsU64, CertificateFits}
use Rattle.wire.proofs.Lengths.{length_vote, length_timeout}
use Rattle.certificate.specs.Rank.{block_certificate, outranks}
use Rattle.certificate.specs.declared.Certificate.{Certificate as Adoptable}
use Rattle.blocks.specs.declared.Block.{Block}
use Rattle.memory.specs.Layout.{entry_room}
use Rattle.memory.specs.Decided.{no_choice, next_decided}
use Rattle.counters.specs.Counters.{locks_of}
use Rattle.protocol.specs.Work.{commit_record, vote_record, Work, n, own, view_now, held_block, send, keep_vote, keep_commit, keep_timeout, adopt, enter_by, hold, send_vote, send_commit, own_timeout, send_timeout}
use Rattle.protocol.specs.Refusals.{view_of_progress}
use Rattle.protocol.specs.Events.{may_commit, safe_in, with_sender, commit_after, progress}
use Rattle.protocol.specs.Rules.{test_a, test_b, rule_a, rule_b, rule_c, enough_votes, formed_block}
use Rattle.protocol.proofs.call.Regular.{EntryForm, Regular, ProgressForm}
use Rattle.protocol.proofs.call.Actions.{own_timeout_fits}
use Rattle.protocol.proofs.call.Certificates.{form_fits, formed_form}
use Rattle.protocol.proofs.call.Rules.{formed_block_kind, formed_block_form}

-- at most k bytes more are written
abbrev pub Grows : ℕ → Work → Work → Type 0
Grows k W W' = length W'.out ≤ length W.out + k

grows_if : (k : ℕ) (W A B : Work) (t : Bool) → (t ≡ true → Grows k W A) → (t ≡ false → Grows k W B) → Grows k W (cond t A B)
grows_if k W A B true a b = a refl
grows_if k W A B false a b = b refl

out_if : (A B : Work) (r : List ℕ) (t : Bool) → A.out ≡ r → B.out ≡ r → (cond t A B).out ≡ r
out_if A B r true a b = a
out_if A B r false a b = b

-- ---- what is sent
pub send-out : (W : Work) (r : List ℕ) → length (send W r).out ≡ length W.out + length r
send-out W r = length-append W.out r

pub vote_out : (W : Work) (v : ℕ) (x : List ℕ) → IsName x → length (send_vote v x W).out ≡ length W.out + vote_length
unfolding send_vote keep_vote
vote_out W v x h = omega (arith, length-append W.out (vote_record W v x), length_vote x h 1 (own W) v)

pub commit_out : (W : Work) (v : ℕ) (x : List ℕ) → IsName x → length (send_commit v x W).out ≡ length W.out + vote_length
unfolding send_commit keep_commit
commit_out W v x h = omega (arith, length-append W.out (commit_record W v x), length_vote x h 2 (own W) v)

pub timeout_out : (W : Work) (v : ℕ) → IsU64 v → Regular W → length (send_timeout v W).out ≡ length W.out + timeout_length
unfolding send_timeout keep_timeout
timeout_out W v h R = omega (arith, length-append W.out (timeout_bytes (own_timeout W v)), length_timeout (own_timeout W v) (own_timeout_fits W v h R))

pub adopt-out : (W : Work) (k : Adoptable) → (adopt W k).out ≡ W.out
unfolding adopt
adopt-out W k = refl

pub hold-out : (W : Work) (b : Block) → (hold W b).out ≡ W.out
unfolding hold
hold-out W b = out_if W _ W.out (held_block W b.name).is refl refl

-- ---- progress: the certificate's record, and a commit behind a block certificate
abbrev commit_room : Certificate → ℕ
commit_room (by_block v x g) = vote_length
commit_room (by_timeouts v ts) = 0

commit_after_out : (k : Certificate) (W : Work) → CertificateFits k → Grows (commit_room k) W (commit_after k W)
unfolding CertificateFits
commit_after_out (by_block v x g) W f = grows_if vote_length W _ _ (may_commit v W) (λ e. omega (arith, commit_out W v x f.1)) (λ e. omega arith)
commit_after_out (by_timeouts v ts) W f = omega arith

progress_room : (W : Work) (r : List ℕ) → CertificateFits (certificate_of r) → Grows (length r + commit_room (certificate_of r)) W (progress r W)
unfolding progress adopt enter_by
progress_room W r f =
    let k = certificate_of r in
    let s = with_sender (own W) r in
    let W₁ = adopt W (safe_in W k) in
    let W₃ = enter_by (send W₁ s) (suc (view_of_progress k)) s in
    let sent : length W₃.out ≡ length W.out + length r = omega (arith, length-append W.out s, length-patch r 6 (le_bytes 2 (own W))) in
    grows_if (length r + commit_room k) W (commit_after k W₃) W₁ (leb (view_now W) (view_of_progress k))
    (λ e. omega (arith, sent, commit_after_out k W₃ f)) (λ e. omega arith)

-- a block certificate and its commit, or a timeout certificate
block_room : (r : List ℕ) → kind_of r ≡ 3 → commit_room (certificate_of r) ≡ vote_length
unfolding certificate_of
block_room r k = rw k

timeouts_room : (r : List ℕ) → kind_of r ≡ 6 → commit_room (certificate_of r) ≡ 0
unfolding certificate_of
timeouts_room r k = rw k

pub progress_block_out : (W : Work) (r : List ℕ) → CertificateFits (certificate_of r) → kind_of r ≡ 3 → length r ≡ block_certificate_length → Grows (block_certificate_length + vote_length) W (progress r W)
progress_block_out W r f k l = omega (arith, progress_room W r f, block_room r k)

pub progress_out : (W : Work) (r : List ℕ) → ProgressForm (n W) r → n W ≤ largest → Grows entry_room W (progress r W)
progress_out W r f few = by_form f.form
  where
    by_form : EntryForm (n W) r → Grows entry_room W (progress r W)
    by_form (inl (k, l)) = omega (arith, progress_room W r (form_fits (n W) r f.bytes f.form), block_room r k)
    by_form (inr (k, c, l)) = omega (arith, progress_room W r (form_fits (n W) r f.bytes f.form), timeouts_room r k)

-- ---- the rules A, B and C at a view
pub a_out : (W : Work) (v : ℕ) → v < last_view → Regular W → Grows timeout_length W (rule_a v W)
unfolding rule_a
a_out W v h R =
    grows_if timeout_length W _ _ (test_a v W)
    (λ e. omega (arith, timeout_out W v (omega arith) R)) (λ e. omega arith)

pub b_out : (W : Work) (v : ℕ) → v < last_view → Regular W → Grows entry_room W (rule_b v W)
unfolding rule_b
b_out W v h R =
    grows_if entry_room W _ _ (test_b v W)
    (λ e. progress_out W _ (formed_form W.memory v (n W) (own W) R.typed.memory R.memory_long R.few R.member h) R.few) (λ e. omega arith)

pub c_out : (W : Work) (v : ℕ) → v < last_view → Regular W → Grows (block_certificate_length + vote_length) W (rule_c v W)
unfolding rule_c
c_out W v h R =
    let x = next_decided W.memory (enough_votes v W) no_choice in
    grows_if (block_certificate_length + vote_length) W _ _ (x.some && outranks (block_certificate v x.name 0) (locks_of W.counters).lock)
    (λ e. formed_out (and_true x.some _ e).0) (λ e. omega arith)
  where
    formed_out : (next_decided W.memory (enough_votes v W) no_choice).some ≡ true
        → Grows (block_certificate_length + vote_length) W (progress (formed_block v W (next_decided W.memory (enough_votes v W) no_choice).name) W)
    formed_out e =
        let f = formed_block_form W v h R e in
        let k = formed_block_kind W v h R e in
        progress_block_out W _ (form_fits (n W) _ f.bytes f.form) k.0 k.1

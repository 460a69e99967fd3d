-- Progress, the rules A to D and their run keep a replica regular. Assumes nothing.
use Prim.Native.Nat.{ℕ, zero, suc, ◌+◌, ◌≤◌, ◌<◌}
use native.Mathlib.Omega.{arith}
use mathlib.Core.Path.{◌≡◌, refl}
use mathlib.Core.Bool.{Bool, true, false, cond, ◌&&◌}
use mathlib.Core.List.{List}
use lib.Dec.{leb}
use lib.ListN.{length}
use Rattle.settings.specs.Quorum.{last_view}
use Rattle.codec.specs.Bytes.{IsBytes}
use Rattle.codec.proofs.Order.{and_true}
use Rattle.wire.specs.Fields.{kind_of, block_certificate_length}
use Rattle.wire.specs.Content.{Certificate, by_block, by_timeouts, certificate_of}
use Rattle.wire.specs.Fit.{CertificateFits}
use Rattle.certificate.specs.Rank.{block_certificate, outranks}
use Rattle.memory.specs.Layout.{block_count_of, vote_row}
use Rattle.memory.specs.Window.{lowest}
use Rattle.memory.specs.Decided.{no_choice, next_decided}
use Rattle.counters.specs.Counters.{locks_of}
use Rattle.protocol.specs.Work.{Work, settings, n, own, view_now, tip, blocks, held_block, send, adopt, enter_by}
use Rattle.protocol.specs.Typed.{BlockTyped}
use Rattle.protocol.specs.Refusals.{view_of_progress}
use Rattle.protocol.specs.Events.{may_commit, safe_in, with_sender, commit_after, progress}
use Rattle.protocol.specs.Rules.{test_a, test_b, rule_a, rule_b, rule_c, rule_d, enough_votes, formed_block, lowest_pair, ballot_views, each}
use Rattle.protocol.proofs.call.Typing.{all_take, held_typed}
use Rattle.protocol.proofs.call.Regular.{EntryForm, Regular, Still, ProgressForm, still_refl, still_trans, send_regular, adopt_regular, adopt_still, enter_regular}
use Rattle.protocol.proofs.call.Actions.{same_still, commit_regular, timeout_regular, release_regular}
use Rattle.protocol.proofs.call.Certificates.{form_fits, fits_typed, form_view, sender_bytes, sender_form, formed_form, block_kind, block_form, tally_u64, decided_name}

-- ---- either way
abbrev Next : Work → Work → Type 0
Next W W' = Regular W' × Still W W'

next_if : (W A B : Work) (t : Bool) → (t ≡ true → Next W A) → (t ≡ false → Next W B) → Next W (cond t A B)
next_if W A B true a b = a refl
next_if W A B false a b = b refl

-- ---- progress
commit_after_lem : (k : Certificate) (W : Work) → CertificateFits k → Regular W → Next W (commit_after k W)
unfolding CertificateFits
commit_after_lem (by_block v x g) W f R = next_if W _ _ (may_commit v W) (λ e. commit_regular W v x f.1 R) (λ e. (R, still_refl W))
commit_after_lem (by_timeouts v ts) W f R = (R, still_refl W)

-- the safe certificate of a record of the form is adopted
pub adopts_regular : (W : Work) (r : List ℕ) → IsBytes r → EntryForm (n W) r → Regular W → Regular (adopt W (safe_in W (certificate_of r)))
adopts_regular W r b f R = adopt_regular W _ (fits_typed (settings W) (certificate_of r) (omega (arith, R.few)) (form_fits (n W) r b f)) R

pub progress_regular : (W : Work) (r : List ℕ) → ProgressForm (n W) r → Regular W → Regular (progress r W) × Still W (progress r W)
unfolding progress adopt
progress_regular W r f R =
    let k = certificate_of r in
    let s = with_sender (own W) r in
    let W₁ = adopt W (safe_in W k) in
    let R₁ : Regular W₁ = adopts_regular W r f.bytes f.form R in
    let W₂ = send W₁ s in
    let W₃ = enter_by W₂ (suc (view_of_progress k)) s in
    let r₃ = enter_regular W₂ (suc (view_of_progress k)) s (omega arith) (omega (arith, form_view W r, f.view)) (sender_bytes (own W) r f.bytes) (sender_form (own W) r (n W) f.form) (send_regular W₁ s R₁) in
    let r₄ = commit_after_lem k W₃ (form_fits (n W) r f.bytes f.form) r₃.0 in
    next_if W (commit_after k W₃) W₁ (leb (view_now W) (view_of_progress k))
    (λ e. (r₄.0, still_trans W W₃ _ (still_trans W W₂ W₃ (same_still W W₂ refl refl) r₃.1) r₄.1)) (λ e. (R₁, adopt_still W _))

-- ---- the rules, at a view of the window
pub a_regular : (W : Work) (v : ℕ) → v < last_view → Regular W → Regular (rule_a v W) × Still W (rule_a v W)
unfolding rule_a
a_regular W v h R =
    next_if W _ _ (test_a v W)
    (λ e. timeout_regular W v (omega arith) R) (λ e. (R, still_refl W))

pub b_regular : (W : Work) (v : ℕ) → v < last_view → Regular W → Regular (rule_b v W) × Still W (rule_b v W)
unfolding rule_b
b_regular W v h R =
    next_if W _ _ (test_b v W)
    (λ e. progress_regular W _ (formed_form W.memory v (n W) (own W) R.typed.memory R.memory_long R.few R.member h) R) (λ e. (R, still_refl W))

-- the certificate that rule C forms, if a name is decided
module _ (W : Work) (v : ℕ) (h : v < last_view) (R : Regular W) (e : (next_decided W.memory (enough_votes v W) no_choice).some ≡ true) where
  abbrev formed_c : List ℕ
  formed_c = formed_block v W (next_decided W.memory (enough_votes v W) no_choice).name

  pub formed_block_kind : (kind_of formed_c ≡ 3) × (length formed_c ≡ block_certificate_length)
  formed_block_kind =
      block_kind (own W) v _ _ (omega (arith, R.member, R.few)) h
      (decided_name W.memory (enough_votes v W) no_choice R.typed.memory R.memory_long R.few e) (tally_u64 W.memory (vote_row v) _ (n W) R.few)

  pub formed_block_form : ProgressForm (n W) formed_c
  formed_block_form =
      block_form (own W) v _ _ (omega (arith, R.member, R.few)) h
      (decided_name W.memory (enough_votes v W) no_choice R.typed.memory R.memory_long R.few e) (tally_u64 W.memory (vote_row v) _ (n W) R.few) (n W)

pub c_regular : (W : Work) (v : ℕ) → v < last_view → Regular W → Regular (rule_c v W) × Still W (rule_c v W)
unfolding rule_c
c_regular W v h R =
    let x = next_decided W.memory (enough_votes v W) no_choice in
    next_if W _ _ (x.some && outranks (block_certificate v x.name 0) (locks_of W.counters).lock)
    (λ e. progress_regular W _ (formed_block_form W v h R (and_true x.some _ e).0) R) (λ e. (R, still_refl W))

-- what is held, tip or entry, and what a search that finds nothing answers
pub held_block_typed : (W : Work) (x : List ℕ) → Regular W → BlockTyped (held_block W x).block
held_block_typed W x R = held_typed (tip W) (blocks W) x R.typed.counters.tip (all_take BlockTyped (block_count_of W.memory) W.store R.typed.store)

pub d_regular : (W : Work) → Regular W → Regular (rule_d W) × Still W (rule_d W)
unfolding rule_d
d_regular W R =
    let p = lowest_pair (lowest (view_now W)) (ballot_views W) W in
    next_if W _ _ p.name.some (λ e. release_regular W p.at _ (held_block_typed W p.name.name R) R) (λ e. (R, still_refl W))

-- ---- their run
pub each_regular : (rule : ℕ → Work → Work) → ((W : Work) (v : ℕ) → v < last_view → Regular W → Next W (rule v W))
    → (v k : ℕ) (W : Work) → v + k ≤ last_view → Regular W → Regular (each rule v k W) × Still W (each rule v k W)
unfolding each
each_regular rule h v zero W l R = (R, still_refl W)
each_regular rule h v (suc k) W l R =
    let a = h W v (omega arith) R in
    let b = each_regular rule h (suc v) k (rule v W) (omega arith) a.0 in
    (b.0, still_trans W (rule v W) _ a.1 b.1)

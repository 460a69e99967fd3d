-- What a block certificate above the lock leaves: it is the lock, and what is kept has advanced (`Locked`). Assumes nothing.
use mathlib.Core.Path.{◌≡◌, refl, ◌∙◌}
use mathlib.Core.Bool.{true, cond}
use mathlib.Core.List.{List}
use Prim.Native.Nat.{ℕ, suc, ◌^◌, ◌≤◌, ◌<◌, max}
use native.Mathlib.Omega.{arith}
use borrow.Author.Tests.{leb-true}
use lib.Dec.{leb}
use lib.ListN.{length}
use Rattle.settings.specs.Quorum.{largest, last_view}
use Rattle.codec.specs.Names.{name_length}
use Rattle.wire.specs.Content.{by_block, certificate_of}
use Rattle.wire.specs.Encode.{block_certificate_bytes}
use Rattle.wire.specs.Fit.{IsName}
use Rattle.certificate.specs.declared.Certificate.{Certificate}
use Rattle.certificate.specs.Rank.{block_certificate, outranks, adopted}
use Rattle.certificate.specs.Safe.{safe_certificate}
use Rattle.memory.specs.Layout.{entry_room, votes_place}
use Rattle.memory.specs.Window.{entered}
use Rattle.memory.proofs.Header.{own_same, entry_own}
use Rattle.memory.proofs.Entering.{entered_head}
use Rattle.counters.specs.declared.Counters.{Counters}
use Rattle.counters.specs.Counters.{locks_of, with_locks, signed_of, adopting, entering}
use Rattle.counters.specs.Counters
use Rattle.protocol.specs.Work.{Work, own, view_now, send, adopt, enter_by, keep_commit, send_commit}
use Rattle.protocol.specs.Events.{may_commit, with_sender, commit_after, progress}
use Rattle.protocol.proofs.call.Regular.{Regular}
use Rattle.protocol.proofs.loop.Formed.{block_read, block_fits, length_sender}
use Rattle.protocol.proofs.loop.Advance.{Advanced, advanced_adopt, advanced_enter, advanced_commit}
use Rattle.protocol.proofs.Branch.{by_cases}

abbrev pub lock_of : Work → Certificate
lock_of W = (locks_of W.counters).lock

-- ---- what a block certificate above the lock leaves
pub record Locked (W W' : Work) (v : ℕ) (k : Certificate) : Type 0 where
  pub advanced : Advanced W W'
  pub lock : lock_of W' ≡ k
  pub view : view_now W' ≤ max (view_now W) (suc v)

lock_adopted : (W : Work) (v : ℕ) (x : List ℕ) (g : ℕ) → outranks (block_certificate v x g) (lock_of W) ≡ true → lock_of (adopt W (block_certificate v x g)) ≡ block_certificate v x g
unfolding adopt adopting with_locks adopted locks_of signed_of Counters.certificate_of
lock_adopted W v x g e = rw e

-- "Block certificate of view w: adopt. If w ≥ view: send it, enter w+1, and send a commit for w if timed < w."
progress_block : (W : Work) (r : List ℕ) (v : ℕ) (x : List ℕ) (g : ℕ) → certificate_of r ≡ by_block v x g
    → progress r W ≡ cond (leb (view_now W) v) (commit_after (by_block v x g) (enter_by (send (adopt W (block_certificate v x g)) (with_sender (own W) r)) (suc v) (with_sender (own W) r))) (adopt W (block_certificate v x g))
unfolding progress safe_certificate
progress_block W r v x g e = rw e

view_adopted : (W : Work) (k : Certificate) → view_now (adopt W k) ≡ view_now W
unfolding adopt adopting with_locks
view_adopted W k = refl

module _ (W : Work) (v : ℕ) (x r : List ℕ) (k : Certificate) where
  entered_lock : lock_of (enter_by (send (adopt W k) r) (suc v) r) ≡ lock_of (adopt W k)
  unfolding enter_by entering locks_of
  entered_lock = refl

  entered_view : view_now (enter_by (send (adopt W k) r) (suc v) r) ≡ suc v
  unfolding enter_by entering
  entered_view = refl

commit_lock : (W : Work) (v : ℕ) (x : List ℕ) → lock_of (send_commit v x W) ≡ lock_of W
unfolding send_commit keep_commit
commit_lock W v x = refl

commit_view : (W : Work) (v : ℕ) (x : List ℕ) → view_now (send_commit v x W) ≡ view_now W
unfolding send_commit keep_commit
commit_view W v x = refl

locked_commit : (W W₁ : Work) (v : ℕ) (x : List ℕ) (k : Certificate) → length x ≡ name_length → own W₁ < largest → Locked W W₁ v k → Locked W (send_commit v x W₁) v k
locked_commit W W₁ v x k l h L = record {
  advanced = advanced_commit W W₁ v x l h L.advanced;
  lock = commit_lock W₁ v x ∙ L.lock;
  view = omega (arith, L.view, commit_view W₁ v x);
}

own_entered : (W : Work) (v : ℕ) (r : List ℕ) (k : Certificate) → own (enter_by (send (adopt W k) r) (suc v) r) ≡ own W
unfolding adopt enter_by
own_entered W v r k = entry_own (entered W.memory (view_now (adopt W k)) (suc v)) r ∙ own_same W.memory _ votes_place (entered_head W.memory (view_now (adopt W k)) (suc v)) (omega arith)

module _ (W : Work) (R : Regular W) (v : ℕ) (x : List ℕ) (g : ℕ) (l : v < last_view) (name : IsName x) (word : g < 2 ^ 64)
    (higher : outranks (block_certificate v x g) (lock_of W) ≡ true) where
  pub locked_block : Locked W (progress (block_certificate_bytes (own W) v x g) W) v (block_certificate v x g)
  locked_block =
      let r = block_certificate_bytes (own W) v x g in
      let k = block_certificate v x g in
      let s = with_sender (own W) r in
      let W₁ = adopt W k in
      let W₂ = enter_by (send W₁ s) (suc v) s in
      let P : Work → Type 0 = λ X. Locked W X v k in
      let size : length s ≤ entry_room = omega (arith, length_sender (own W) r, block_fits (own W) v x g name) in
      let read = block_read (own W) v x g (omega (arith, R.member, R.few)) l name word in
      rw (progress_block W r v x g read)
      (by_cases P (leb (view_now W) v) (commit_after (by_block v x g) W₂) W₁
      (λ t.
      let up = leb-true (view_now W) v t in
      let L : Locked W W₂ v k = record {
        advanced = advanced_enter W k s v up size R.memory_long;
        lock = entered_lock W v x s k ∙ lock_adopted W v x g higher;
        view = omega (arith, entered_view W v x s k);
      } in
      by_cases P (may_commit v W₂) (send_commit v x W₂) W₂ (λ c. locked_commit W W₂ v x k name.size (omega (arith, own_entered W v s k, R.member, R.few)) L) (λ c. L))
      (λ t. record { advanced = advanced_adopt W k; lock = lock_adopted W v x g higher; view = omega (arith, view_adopted W k) }))

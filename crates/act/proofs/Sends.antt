-- What is sent: a vote, a commit, a timeout, as the code does it; each premise is what one callee ensures, in the order of the calls. Assumes nothing.
use Prim.Native.Nat.{ℕ, ◌+◌, ◌-◌, ◌≤◌}
use native.Mathlib.Omega.{arith}
use mathlib.Core.Path.{◌≡◌, refl, sym, ap, ◌∙◌}
use mathlib.Core.List.{List}
use lib.ListN.{length, take, drop, length-append, length-take}
use Rattle.codec.specs.Bytes.{part, patch}
use Rattle.codec.proofs.Laws.{part_lent, part_same}
use Rattle.codec.proofs.Le.{length-le_bytes}
use Rattle.wire.specs.declared.Timeout.{Timeout}
use Rattle.wire.specs.Encode.{vote_bytes, timeout_bytes}
use Rattle.wire.specs.Fit.{IsU64, TimeoutFits}
use Rattle.wire.proofs.Lengths.{length_header, length_timeout}
use Rattle.blocks.specs.declared.Block.{Block}
use Rattle.memory.specs.Layout.{own_of, vote_row, commit_row, timeout_row}
use Rattle.memory.specs.Kept.{keep}
use Rattle.counters.specs.declared.Counters.{Counters}
use Rattle.counters.specs.Counters.{voting, timing}
use Rattle.protocol.specs.Work.{view, send_vote, send_commit, send_timeout, own_timeout, keep_vote, keep_commit, keep_timeout}
use Rattle.protocol.proofs.call.Regular.{Regular}
use Rattle.protocol.proofs.call.Actions.{own_timeout_fits}
use Rattle.act.specs.declared.Draft.{Draft}
use Rattle.act.specs.Draft.{work_of, Left, Does, send_ballot, carried_by, timeout_by}
use Rattle.act.proofs.Steps.{empty_store, sent_at, sent_out, same_left}

length_ballot : (k s v : ℕ) (x : List ℕ) → length x ≡ 32 → length (vote_bytes k s v x) ≡ 48
unfolding vote_bytes
length_ballot k s v x h = simp (length-append, length_header, length-le_bytes, h)

module _ (d : Draft) (m o : List ℕ) (v : ℕ) (x : List ℕ) (l : length x ≡ 32) (h : d.at + 48 ≤ length o) where
  pub ballot_does : {me : ℕ} {m₁ o₁ : List ℕ} (k row : ℕ) → me ≡ own_of m → o₁ ≡ patch o d.at (vote_bytes k me v x) → m₁ ≡ keep m row (length x) me x
      → Does (send_ballot k row v x) d m o (record { counters = d.counters; at = d.at + 48 }) m₁ o₁
  unfolding send_ballot
  ballot_does {m₁ = m₁} {o₁ = o₁} k row e p q =
      let b = vote_bytes k (own_of m) v x in
      let n : length b ≡ 48 = length_ballot k (own_of m) v x l in
      let f : d.at + length b ≤ length o = omega arith in
      record {
        leaves = λ s. same_left (record { counters = d.counters; at = d.at + 48 }) m₁ o₁ s (send_ballot k row v x (work_of d m o s)) o refl
            (ap (λ (i : ℕ). d.at + i) (sym n) ∙ sent_at o d.at b f) (q ∙ rw (e, l)) (p ∙ rw e (sent_out o d.at b f)) refl;
      }

module _ {d d' : Draft} {m o m' o' : List ℕ} (v : ℕ) (x : List ℕ) where
  -- a vote is made the high vote too
  pub vote_does : {row : ℕ} {c : Counters} → row ≡ vote_row v → Does (send_ballot 1 row v x) d m o d' m' o'
      → c ≡ voting d'.counters (record { view = view v; name = x }) → Does (send_vote v x) d m o (record { counters = c; at = d'.at }) m' o'
  unfolding send_ballot send_vote keep_vote
  vote_does {row = row} {c = c} r h q = record {
    leaves = λ s. ap (λ (l : Left). record { counters = c; at = l.at; memory = l.memory; output = l.output; store = l.store }) (h.leaves s)
        ∙ rw (q, ap (λ (l : Left). l.counters) (h.leaves s), r);
  }

  pub commit_does : {row : ℕ} → row ≡ commit_row v → Does (send_ballot 2 row v x) d m o d' m' o' → Does (send_commit v x) d m o d' m' o'
  unfolding send_ballot send_commit keep_commit
  commit_does {row = row} r h = record { leaves = λ s. rw (← r) (h.leaves s) }

-- the part that is lent, `&out[at..at + k]`, has at most k bytes
pub lent_most : (s : List ℕ) (at k : ℕ) → length (take (at + k - at) (drop at s)) ≤ k
lent_most s at k = omega (arith, length-take (at + k - at) (drop at s))

own_timeout_is : (d : Draft) (m o : List ℕ) (s : List Block) (v : ℕ) → own_timeout (work_of d m o s) v ≡ timeout_by d.counters (own_of m) v
unfolding own_timeout timeout_by carried_by
own_timeout_is d m o s v = refl

module _ (d : Draft) (m o : List ℕ) (v : ℕ) (hv : IsU64 v) (R : Regular (work_of d m o empty_store)) (h : d.at + 112 ≤ length o) where
  pub timeout_does : {me row : ℕ} {t : Timeout} {e m₁ o₁ : List ℕ} {c : Counters} → me ≡ own_of m → t ≡ timeout_by d.counters me v → o₁ ≡ patch o d.at (timeout_bytes t)
      → row ≡ timeout_row v → e ≡ take (d.at + 112 - d.at) (drop d.at o₁) → m₁ ≡ keep m row (length e) me e → c ≡ timing d.counters (view v)
      → Does (send_timeout v) d m o (record { counters = c; at = d.at + 112 }) m₁ o₁
  unfolding send_timeout keep_timeout
  timeout_does {e = e} {m₁ = m₁} {o₁ = o₁} {c = c} i t p r g k q =
      let w = timeout_by d.counters (own_of m) v in
      let b = timeout_bytes w in
      let fit : TimeoutFits w = rw (own_timeout_is d m o empty_store v) at (own_timeout_fits (work_of d m o empty_store) v hv R) in
      let n : length b ≡ 112 = length_timeout w fit in
      let f : d.at + length b ≤ length o = omega arith in
      let p' : o₁ ≡ patch o d.at b = p ∙ ap (λ (u : Timeout). patch o d.at (timeout_bytes u)) (t ∙ ap (λ (j : ℕ). timeout_by d.counters j v) i) in
      let g' : e ≡ b = g ∙ part_lent o₁ d.at 112 ∙ ap (λ (s : List ℕ). part s d.at 112) p' ∙ part_same o d.at b 112 n h in
      record {
        leaves = λ s. same_left (record { counters = c; at = d.at + 112 }) m₁ o₁ s (send_timeout v (work_of d m o s)) o q
            (ap (λ (j : ℕ). d.at + j) (sym n) ∙ sent_at o d.at b f ∙ rw (own_timeout_is d m o s v))
            (k ∙ rw (i, r, g', n, own_timeout_is d m o s v)) (p' ∙ sent_out o d.at b f ∙ rw (own_timeout_is d m o s v)) refl;
      }

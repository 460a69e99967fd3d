-- A record by its kind, as the code finds it; each premise is a test or what one callee ensures. Assumes nothing.
use Prim.Native.Nat.{ℕ, ◌-◌, ◌≤◌}
use native.Mathlib.Omega.{arith}
use mathlib.Core.Path.{◌≡◌, refl, sym, ap, ◌∙◌}
use mathlib.Core.Bool.{Bool}
use mathlib.Core.Logic.{inl, inr}
use mathlib.Core.List.{List}
use Rattle.std.specs.Prelude.{None}
use lib.ListN.{length, take, drop, length-drop}
use lib.Seq.{length-take-le}
use Rattle.codec.specs.Bytes.{part, le_nat}
use Rattle.codec.specs.Names.{name_length}
use Rattle.codec.proofs.Laws.{part_rest}
use Rattle.wire.specs.declared.Child.{Child}
use Rattle.wire.specs.Fields.{kind_of, sender_of, view_of, name_of, parent_of, height_of, progress_of, block_name_of, block_parent_of, block_height_of, timeout_length}
use Rattle.wire.specs.declared.Kind.{Kind}
use Rattle.wire.specs.declared.Kind.TheVariants.{Vote, Commit, BlockCertificate, WeakCertificate, Timeout, TimeoutCertificate, Proposal, Block, Release}
use Rattle.wire.specs.Kinds.{number, NoKind}
use Rattle.settings.specs.Quorum.{replicas}
use Rattle.wire.specs.Content.{certificate_of, vote, commit, certificate, timeout, proposal, block, content, timeout_of, proposed_of, block_of}
use Rattle.blocks.specs.declared.Block as blocks
use Rattle.memory.specs.Layout.{settings_of, vote_row, commit_row, timeout_row}
use Rattle.memory.specs.Kept.{keep}
use Rattle.protocol.specs.Work.{Work, with_memory, hold, keep_vote, keep_commit, keep_timeout}
use Rattle.protocol.specs.Events.{progress, proposition_of, on_record}
use Rattle.act.specs.declared.Draft.{Draft}
use Rattle.act.specs.Draft.{work_of, Left, Does}
use Rattle.act.specs.Progress.{HasForm, IsProgress}
use Rattle.act.proofs.Steps.{does_same, does_nothing}
use Rattle.act.proofs.Advancing.{form_stands}
use Rattle.event.specs.declared.Event.{Event}
use Rattle.event.specs.Event.{Gives, HeldIs, placed_for, counted_in, Asked, Taken, block_of_child, proposed_block, said_block}
use Rattle.event.proofs.Giving.{gives_parts, gives_none, gives_given, gives_same}
use Rattle.event.proofs.Holding.{hold_gives}

-- ---- the contents
module _ (r : List ℕ) where
  pub content-vote : kind_of r ≡ 1 → content r ≡ vote (sender_of r) (view_of r) (name_of r)
  unfolding content
  content-vote e = rw e

  pub content-commit : kind_of r ≡ 2 → content r ≡ commit (sender_of r) (view_of r) (name_of r)
  unfolding content
  content-commit e = rw e

  pub content-timeout : kind_of r ≡ 5 → content r ≡ timeout (timeout_of r)
  unfolding content
  content-timeout e = rw e

  pub content-proposal : kind_of r ≡ 7 → content r ≡ proposal (sender_of r) (view_of r) (name_of r) (parent_of r) (height_of r) (certificate_of (progress_of r))
  unfolding content
  content-proposal e = rw e

  pub content-block : kind_of r ≡ 8 → content r ≡ block (sender_of r) (block_name_of r) (block_parent_of r) (block_height_of r)
  unfolding content
  content-block e = rw e

  content-certificate : (n : ℕ) → HasForm n r → content r ≡ certificate (sender_of r) (certificate_of r)
  unfolding content
  content-certificate n (inl (k, l)) = rw k
  content-certificate n (inr (k, c, l)) = rw k

-- ---- only the memory changes
memory_does : (f : Work → Work) (d : Draft) (m o m₁ : List ℕ) → d.at ≤ length o → ((s : List blocks.Block) → f (work_of d m o s) ≡ with_memory (work_of d m o s) m₁) → Does f d m o d m₁ o
memory_does f d m o m₁ h e =
    does_same (λ W. with_memory W m₁) f (λ s. sym (e s))
    (record { leaves = λ s. ap (λ (l : Left). record { counters = l.counters; at = l.at; memory = m₁; output = l.output; store = l.store }) ((does_nothing d m o h).leaves s) })

-- ---- by kind
-- an accepted record of no other kind is a certificate
pub others : (m r : List ℕ) (t : Bool) (k : Kind) → Taken m r t → number k ≡ kind_of r → (k ≡ Vote → ⊥) → (k ≡ Commit → ⊥) → (k ≡ Timeout → ⊥) → (k ≡ Proposal → ⊥) → (k ≡ Block → ⊥)
    → IsProgress (replicas (settings_of m)) r
others m r t Vote h e v c o p b = absurd (v refl)
others m r t Commit h e v c o p b = absurd (c refl)
others m r t BlockCertificate h e v c o p b = h.certificate (λ z. omega (arith, e, z)) (λ z. omega (arith, e, z)) (λ z. omega (arith, e, z)) (λ z. omega (arith, e, z)) (λ z. omega (arith, e, z))
others m r t WeakCertificate h e v c o p b = h.certificate (λ z. omega (arith, e, z)) (λ z. omega (arith, e, z)) (λ z. omega (arith, e, z)) (λ z. omega (arith, e, z)) (λ z. omega (arith, e, z))
others m r t Timeout h e v c o p b = absurd (o refl)
others m r t TimeoutCertificate h e v c o p b = h.certificate (λ z. omega (arith, e, z)) (λ z. omega (arith, e, z)) (λ z. omega (arith, e, z)) (λ z. omega (arith, e, z)) (λ z. omega (arith, e, z))
others m r t Proposal h e v c o p b = absurd (p refl)
others m r t Block h e v c o p b = absurd (b refl)
others m r t Release h e v c o p b = h.certificate (λ z. omega (arith, e, z)) (λ z. omega (arith, e, z)) (λ z. omega (arith, e, z)) (λ z. omega (arith, e, z)) (λ z. omega (arith, e, z))

-- and it has a kind
no_kind : (n k : ℕ) → NoKind n → 1 ≤ k → k ≤ 9 → n ≡ k → ⊥
no_kind n k (inl z) l h e = omega (arith, z, l, e)
no_kind n k (inr z) l h e = omega (arith, z, h, e)

pub has_kind : (m r : List ℕ) (t : Bool) → Taken m r t → NoKind (kind_of r) → ⊥
has_kind m r t h n =
    by (h.certificate (no_kind (kind_of r) 1 n (omega arith) (omega arith)) (no_kind (kind_of r) 2 n (omega arith) (omega arith)) (no_kind (kind_of r) 5 n (omega arith) (omega arith))
    (no_kind (kind_of r) 7 n (omega arith) (omega arith)) (no_kind (kind_of r) 8 n (omega arith) (omega arith))).form
  where
    by : HasForm (replicas (settings_of m)) r → ⊥
    by (inl (k, l)) = no_kind (kind_of r) 3 n (omega arith) (omega arith) k
    by (inr (k, c, l)) = no_kind (kind_of r) 6 n (omega arith) (omega arith) k

module _ (d : Draft) (m o r : List ℕ) (t : Bool) (h : d.at ≤ length o) {e : Event} {m₁ : List ℕ} where
  pub vote_gives : kind_of r ≡ 1 → m₁ ≡ keep m (vote_row (view_of r)) name_length (sender_of r) (name_of r) → e ≡ record { draft = d; placed = None }
      → Gives (on_record r (content r)) (Asked r t) d m o e m₁ o
  unfolding on_record keep_vote
  vote_gives q p x = gives_none (on_record r (content r)) (Asked r t) x (memory_does (on_record r (content r)) d m o m₁ h (λ s. rw (content-vote r q, p)))

  pub commit_gives : kind_of r ≡ 2 → m₁ ≡ keep m (commit_row (view_of r)) name_length (sender_of r) (name_of r) → e ≡ record { draft = d; placed = None }
      → Gives (on_record r (content r)) (Asked r t) d m o e m₁ o
  unfolding on_record keep_commit
  commit_gives q p x = gives_none (on_record r (content r)) (Asked r t) x (memory_does (on_record r (content r)) d m o m₁ h (λ s. rw (content-commit r q, p)))

  pub timeout_gives : kind_of r ≡ 5 → m₁ ≡ keep m (timeout_row (view_of r)) timeout_length (sender_of r) r → e ≡ record { draft = d; placed = None }
      → Gives (on_record r (content r)) (Asked r t) d m o e m₁ o
  unfolding on_record keep_timeout timeout_of
  timeout_gives q p x = gives_none (on_record r (content r)) (Asked r t) x (memory_does (on_record r (content r)) d m o m₁ h (λ s. rw (content-timeout r q, p)))

  pub block_gives : kind_of r ≡ 8 → (e.draft ≡ d) × ((e.placed ≡ placed_for m (said_block r) t) × (m₁ ≡ counted_in m t))
      → Gives (on_record r (content r)) (Asked r t) d m o e m₁ o
  unfolding on_record
  block_gives q x =
      gives_given (on_record r (content r)) (HeldIs (block_name_of r) t) (Asked r t) (λ s a. a.block q)
      (gives_same (λ W. hold W (said_block r)) (on_record r (content r)) (HeldIs (block_name_of r) t) (λ s l g. sym (rw (content-block r q)))
      (gives_parts (λ W. hold W (said_block r)) (HeldIs (block_name_of r) t) x.0 refl (hold_gives d m o (said_block r) t h x.1)))

module _ (d : Draft) (m o r : List ℕ) (t : Bool) {e : Event} {m₁ o₁ : List ℕ} where
  pub proposal_gives : kind_of r ≡ 7 → Gives (proposition_of (view_of r) (proposed_block r) (progress_of r)) (HeldIs (name_of r) t) d m o e m₁ o₁
      → Gives (on_record r (content r)) (Asked r t) d m o e m₁ o₁
  unfolding on_record
  proposal_gives q a =
      gives_given (on_record r (content r)) (HeldIs (name_of r) t) (Asked r t) (λ s g. g.proposal q)
      (gives_same (proposition_of (view_of r) (proposed_block r) (progress_of r)) (on_record r (content r)) (HeldIs (name_of r) t) (λ s l g. sym (rw (content-proposal r q))) a)

pub certificate_gives : (d : Draft) (m o r : List ℕ) (t : Bool) {n : ℕ} {d₁ : Draft} {e : Event} {m₁ o₁ : List ℕ} → IsProgress n r → Does (progress r) d m o d₁ m₁ o₁
    → e ≡ record { draft = d₁; placed = None } → Gives (on_record r (content r)) (Asked r t) d m o e m₁ o₁
unfolding on_record
certificate_gives d m o r t p a x =
    gives_none (on_record r (content r)) (Asked r t) x (does_same (progress r) (on_record r (content r)) (λ s. sym (rw (content-certificate r _ p.form))) a)

-- ---- a proposal, read
pub inner_long : (n : ℕ) (r : List ℕ) → IsProgress n (progress_of r) → 112 ≤ length r
inner_long n r p = omega (arith, (form_stands n (progress_of r) p.form).head, length-drop 88 r)

pub inner_is : (n : ℕ) (r : List ℕ) → IsProgress n (progress_of r) → IsProgress n (take (length r - 88) (drop 88 r))
inner_is n r p = rw (part_rest r 88) p

pub proposal_read : (d : Draft) (m o r : List ℕ) (t : Bool) {v : ℕ} {c : Child} {b : blocks.Block} {e : Event} {m₁ o₁ : List ℕ} → v ≡ le_nat (part r 8 8) → c ≡ proposed_of r → b ≡ block_of_child c
    → Gives (proposition_of v b (take (length r - 88) (drop 88 r))) (HeldIs b.name t) d m o e m₁ o₁
    → Gives (proposition_of (view_of r) (proposed_block r) (progress_of r)) (HeldIs (name_of r) t) d m o e m₁ o₁
unfolding proposed_of block_of_child
proposal_read d m o r t p q x a = rw (part_rest r 88, p, x, q) at a

pub block_read : (r : List ℕ) {c : Child} {b : blocks.Block} → c ≡ block_of r → b ≡ block_of_child c → b ≡ said_block r
unfolding block_of block_of_child
block_read r p q = q ∙ ap block_of_child p

-- a name of a record that has the length of a vote
pub kept_name : (r m : List ℕ) (row j : ℕ) {m₁ : List ℕ} → length r ≡ 48 → m₁ ≡ keep m row (length (take (48 - 16) (drop 16 r))) j (take (48 - 16) (drop 16 r)) → m₁ ≡ keep m row name_length j (name_of r)
unfolding part
kept_name r m row j l e = let n : length (take 32 (drop 16 r)) ≡ 32 = length-take-le 32 (drop 16 r) (omega (arith, length-drop 16 r)) in e ∙ rw n

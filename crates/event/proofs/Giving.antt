-- The relation `Gives` between an event in code and in the definitions: after a step, before a step, and where no block is new. Assumes nothing.
use Prim.Native.Nat.{ℕ, ◌+◌, ◌≤◌, ◌<◌, ◌^◌}
use mathlib.Core.Path.{◌≡◌, refl, ap, ◌∙◌}
use mathlib.Core.List.{List}
use Rattle.std.specs.Prelude.{Option, Some, None}
use lib.ListN.{length, length-set}
use Rattle.blocks.specs.declared.Block.{Block}
use Rattle.protocol.specs.Work.{Work}
use Rattle.act.specs.declared.Draft.{Draft}
use Rattle.protocol.proofs.call.Regular.{Regular}
use Rattle.act.specs.Draft.{work_of, left_by, Does, Ready}
use Rattle.act.proofs.Steps.{Longer, left_then, work_again, regular_ready}
use Rattle.event.specs.declared.Event.{Event}
use Rattle.event.specs.declared.Placed.{Placed}
use Rattle.event.specs.Event.{Gives, filled}

-- a block that is filled in changes no length
pub length_filled : (s : List Block) (p : Option Placed) → length (filled s p) ≡ length s
length_filled s None = refl
length_filled s (Some p) = length-set s p.place p.block

-- an event by its parts
pub gives_parts : (f : Work → Work) (given : Work → Type 0) {d d₁ : Draft} {m m₁ o o₁ : List ℕ} {p : Option Placed} {e : Event} → e.draft ≡ d₁ → e.placed ≡ p
    → Gives f given d m o (record { draft = d₁; placed = p }) m₁ o₁ → Gives f given d m o e m₁ o₁
gives_parts f given x y a = record { leaves = λ s l g. rw (x, y) (a.leaves s l g) }

-- a step, and no new block
pub gives_none : (f : Work → Work) (given : Work → Type 0) {d d₁ : Draft} {m m₁ o o₁ : List ℕ} {e : Event} → e ≡ record { draft = d₁; placed = None } → Does f d m o d₁ m₁ o₁
    → Gives f given d m o e m₁ o₁
gives_none f given x a = record { leaves = λ s l g. rw x (a.leaves s) }

-- more is given
pub gives_given : (f : Work → Work) (given given₁ : Work → Type 0) {d : Draft} {m m₁ o o₁ : List ℕ} {e : Event} → ((s : List Block) → given₁ (work_of d m o s) → given (work_of d m o s))
    → Gives f given d m o e m₁ o₁ → Gives f given₁ d m o e m₁ o₁
gives_given f given given₁ h a = record { leaves = λ s l g. a.leaves s l (h s g) }

-- the same event under another name
pub gives_same : (f g : Work → Work) (given : Work → Type 0) {d : Draft} {m o : List ℕ} {e : Event} {m₁ o₁ : List ℕ}
    → ((s : List Block) → length s < 2 ^ 64 → given (work_of d m o s) → f (work_of d m o s) ≡ g (work_of d m o s)) → Gives f given d m o e m₁ o₁ → Gives g given d m o e m₁ o₁
gives_same f g given {o = o} h a = record { leaves = λ s l x. a.leaves s l x ∙ ap (λ (W : Work). left_by W o) (h s l x) }

-- a step before an event: what is given is given after the step too
pub does_gives : (f g : Work → Work) (given given₁ : Work → Type 0) {d d₁ : Draft} {m m₁ o o₁ : List ℕ} {e : Event} {m₂ o₂ : List ℕ} → Does f d m o d₁ m₁ o₁
    → Gives g given₁ d₁ m₁ o₁ e m₂ o₂ → ((s : List Block) → given (work_of d m o s) → given₁ (work_of d₁ m₁ o₁ s)) → ((W : Work) → Longer W (g W))
    → Gives (λ W. g (f W)) given d m o e m₂ o₂
does_gives f g given given₁ {d} {m = m} {o = o} a b h longer =
    record { leaves = λ s l x. let W₁ = f (work_of d m o s) in left_then g W₁ o (a.leaves s) (b.leaves s l (h s x)) (longer W₁) }

-- a step behind an event
pub gives_then : (f g : Work → Work) (given : Work → Type 0) {d d₁ d₂ : Draft} {m m₁ m₂ o o₁ o₂ : List ℕ} {p : Option Placed}
    → Gives f given d m o (record { draft = d₁; placed = p }) m₁ o₁ → Does g d₁ m₁ o₁ d₂ m₂ o₂ → ((W : Work) → Longer W (g W))
    → Gives (λ W. g (f W)) given d m o (record { draft = d₂; placed = p }) m₂ o₂
gives_then f g given {d} {m = m} {o = o} {p = p} a c longer =
    record { leaves = λ s l x. let W₁ = f (work_of d m o s) in left_then g W₁ o (a.leaves s l x) (c.leaves (filled s p)) (longer W₁) }

-- ---- for the caller, at the store that it has
module _ (f : Work → Work) (given : Work → Type 0) {d : Draft} {m m₁ o o₁ : List ℕ} {e : Event} (a : Gives f given d m o e m₁ o₁) (s : List Block) (l : length s < 2 ^ 64) (g : given (work_of d m o s)) where
  -- the replica at work once the block is filled in
  pub gives_work : work_of e.draft m₁ o₁ (filled s e.placed) ≡ f (work_of d m o s)
  gives_work = work_again e.draft m₁ o₁ (filled s e.placed) (f (work_of d m o s)) o (a.leaves s l g)

  -- and what is ready for the rules
  pub gives_ready : (k : ℕ) → Regular (f (work_of d m o s)) → length (f (work_of d m o s)).out + k ≤ length o → Ready e.draft m₁ o₁ k
  gives_ready k R h = regular_ready e.draft m₁ o₁ (filled s e.placed) (f (work_of d m o s)) o k (a.leaves s l g) R h

-- A branch by its two cases, and a record by its kind. Assumes nothing.
use Prim.Native.Nat.{ℕ}
use mathlib.Core.Path.{◌≡◌, refl}
use mathlib.Core.Bool.{Bool, true, false, cond}
use mathlib.Core.List.{List}
use borrow.Author.Tests.{eqb-true}
use lib.Dec.{eqb}
use Rattle.wire.specs.declared.Timeout.{Timeout}
use Rattle.wire.specs.Fields.{kind_of}
use Rattle.wire.specs.Content.{Certificate, Content, vote, commit, certificate, timeout, proposal, block, release, content}

pub by_cases : {X : Type 0} (P : X → Type 0) (t : Bool) (x y : X) → (t ≡ true → P x) → (t ≡ false → P y) → P (cond t x y)
by_cases P true x y p q = p refl
by_cases P false x y p q = q refl

-- what holds of every content that the record's kind allows holds of its own
module _ (P : Content → Type 0) (r : List ℕ) where
  kind : (a : ℕ) (p q : Content) → (kind_of r ≡ a → P p) → P q → P (cond (eqb (kind_of r) a) p q)
  kind a p q h k = by_cases P (eqb (kind_of r) a) p q (λ e. h (eqb-true (kind_of r) a e)) (λ e. k)

  pub by_kind : ((j v : ℕ) (x : List ℕ) → P (vote j v x)) → ((j v : ℕ) (x : List ℕ) → P (commit j v x)) → ((t : Timeout) → P (timeout t)) → ((j : ℕ) (k : Certificate) → P (certificate j k))
      → (kind_of r ≡ 7 → (j v : ℕ) (x y : List ℕ) (h : ℕ) (k : Certificate) → P (proposal j v x y h k)) → (kind_of r ≡ 8 → (j : ℕ) (x y : List ℕ) (h : ℕ) → P (block j x y h))
      → (kind_of r ≡ 9 → (j v : ℕ) (x : List ℕ) (h : ℕ) → P (release j v x h)) → P (content r)
  unfolding content
  by_kind votes commits timeouts certificates proposals blocks releases =
      kind 1 _ _ (λ e. votes _ _ _) (kind 2 _ _ (λ e. commits _ _ _) (kind 5 _ _ (λ e. timeouts _) (kind 7 _ _ (λ e. proposals e _ _ _ _ _ _) (kind 8 _ _ (λ e. blocks e _ _ _ _)
      (kind 9 _ _ (λ e. releases e _ _ _ _) (certificates _ _))))))

-- If the last blocks of two rows are one above the other, one row begins with the other; so do any two rows of releases. Assumes nothing.
use mathlib.Core.List.{List, [], ◌∷◌, ◌++◌, append_assoc, append-nil}
use mathlib.Core.Logic.{◌⊎◌, inl, inr, ⊎_elim}
use mathlib.Core.Path.{◌≡◌, refl, sym, ap, subst, ◌∙◌}
use Prim.Native.Nat.{ℕ, suc, ◌+◌, ◌≤◌}
use native.Mathlib.Nat.{zero-add, add-suc, suc-add}
use native.Mathlib.Omega.{arith}
use lib.ListN.{length, length-append}
use lib.Seq.{append_snoc}
use Rattle.safety.specs.Cluster.{Cluster, Lawful, Extends, same, above}
use Rattle.safety.specs.Rows.{Begins, Row, none, more, Upward, OneParent, firsts, number, Linked, Released, nothing, up_to}
use Rattle.safety.proofs.Safety.{one_extends_other}

module _ {Name : Type 0} (Parent : Name → Name → Type 0) (genesis : Name) where
  -- a walk's blocks, written upward, go on a row
  pub row_upward : (l up : List Name) (y x : Name) → Row Parent genesis l y → Upward Parent genesis y up x → Row Parent genesis (l ++ up) x
  row_upward l [] y x r e = rw append-nil (rw e at r)
  row_upward l (a ∷ up) y x r u = rw append_snoc at (row_upward (l ++ (a ∷ [])) up a x (more r u.0) u.1)

module _ {Name : Type 0} {Parent : Name → Name → Type 0} {genesis : Name} (P : OneParent Parent genesis) where
  -- a row that ends in x, where x has the parent y, is a row that ends in y and then x
  pub unsnoc : (l : List Name) (x y : Name) → Row Parent genesis l x → Parent x y
      → (m : List Name) × Row Parent genesis m y × (l ≡ m ++ (x ∷ []))
  unsnoc l x y none p = absurd (P.top y p)
  unsnoc l x y (more {l = m} {y = z} r q) p = (m, subst (Row Parent genesis m) (P.one x z y q p) r, refl)

  pub same_row : (l m : List Name) (x : Name) → Row Parent genesis l x → Row Parent genesis m x → l ≡ m
  same_row l m x none s = go m genesis s refl
    where
      go : (m : List Name) (x : Name) → Row Parent genesis m x → x ≡ genesis → [] ≡ m
      go m x none e = refl
      go m x (more {y = y} r p) e = absurd (P.top y (rw e at p))
  same_row l m x (more {l = l'} {y = y} r p) s =
      let u = unsnoc m x y s p in
      ap (λ (h : List Name). h ++ (x ∷ [])) (same_row l' u.0 y r u.1) ∙ sym u.2

  -- if b extends a, the row to b begins with the row to a
  row_begins' : (l : List Name) (a : Name) → Row Parent genesis l a → (m : List Name) (b : Name) → Row Parent genesis m b → Extends Parent a b → Begins l m
  row_begins' l a r m b s same = record { rest = []; is = sym (append-nil l ∙ same_row l m a r s) }
  row_begins' l a r m b s (above {y = y} p e) =
      let u = unsnoc m b y s p in
      let h = row_begins' l a r u.0 y u.1 e in
      record { rest = h.rest ++ (b ∷ []); is = u.2 ∙ ap (λ (z : List Name). z ++ (b ∷ [])) h.is ∙ append_assoc l h.rest (b ∷ []) }

  pub row_begins : (l m : List Name) (a b : Name) → Row Parent genesis l a → Row Parent genesis m b → Extends Parent a b → Begins l m
  row_begins l m a b r s e = row_begins' l a r m b s e

pub empty_begins : {A : Type 0} (m : List A) → Begins [] m
empty_begins m = record { rest = m; is = refl }

-- of two lists, where one begins with the other, the shorter is the beginning of the longer, and lists of one length are the same
pub begins_short : {A : Type 0} (l m : List A) → Begins l m ⊎ Begins m l → length l ≤ length m → Begins l m
begins_short l m (inl b) h = b
begins_short l m (inr b) h = go b.rest b.is (omega (arith, ap length b.is, length-append m b.rest))
  where
    go : (r : List _) → l ≡ m ++ r → length r ≤ 0 → Begins l m
    go [] e h = record { rest = []; is = sym (append-nil l ∙ e ∙ append-nil m) }
    go (x ∷ r) e h = absurd (omega arith)

pub begins_equal : {A : Type 0} (l m : List A) → Begins l m → length l ≡ length m → l ≡ m
begins_equal l m b h = go b.rest b.is (omega (arith, ap length b.is, length-append l b.rest))
  where
    go : (r : List _) → m ≡ l ++ r → length r ≤ 0 → l ≡ m
    go [] e h = sym (e ∙ append-nil l)
    go (x ∷ r) e h = absurd (omega arith)

-- ---- rows with heights
module _ {A : Type 0} where
  pub number_append : (h : ℕ) (l m : List A) → number h (l ++ m) ≡ number h l ++ number (length l + h) m
  number_append h [] m = rw zero-add
  number_append h (a ∷ l) m = ap (λ (k : List (A × ℕ)). (a, h) ∷ k) (number_append (suc h) l m ∙ rw (suc-add, add-suc))

  pub number_begins : (h : ℕ) (l m : List (A × ℕ)) → l ≡ number h (firsts l) → m ≡ number h (firsts m) → Begins (firsts l) (firsts m) → Begins l m
  number_begins h l m p q b = record {
    rest = number (length (firsts l) + h) b.rest;
    is = q ∙ ap (number h) b.is ∙ number_append h (firsts l) b.rest ∙ ap (λ (k : List (A × ℕ)). k ++ number (length (firsts l) + h) b.rest) (sym p);
  }

module _ {A : Type 0} (Parent : A → A → Type 0) where
  abbrev final : A → List A → A
  final y [] = y
  final y (a ∷ l) = final a l

  final_snoc : (y : A) (l : List A) (x : A) → final y (l ++ (x ∷ [])) ≡ x
  final_snoc y [] x = refl
  final_snoc y (a ∷ l) x = final_snoc a l x

  linked_snoc : (h : ℕ) (y : A) (l : List A) (x : A) → Linked Parent h y (number h l) → Parent x (final y l) → Linked Parent h y (number h (l ++ (x ∷ [])))
  linked_snoc h y [] x k p = (p, refl, tt)
  linked_snoc h y (a ∷ l) x k p = (k.0, k.1, linked_snoc (suc h) a l x k.2 p)

  pub row_linked : (genesis : A) (l : List A) (x : A) → Row Parent genesis l x → Linked Parent 1 genesis (number 1 l) × (final genesis l ≡ x)
  row_linked genesis l x none = (tt, refl)
  row_linked genesis l x (more {l = m} {y = y} r p) =
      let h = row_linked genesis m y r in (linked_snoc 1 genesis m x h.0 (rw h.1 p), final_snoc genesis m x)

pub released_linked : {Name : Type 0} (R : Cluster Name) (genesis : Name) (l : List Name) → Released R genesis l → Linked R.Parent 1 genesis (number 1 l)
released_linked R genesis l nothing = tt
released_linked R genesis l (up_to {x = x} r d) = (row_linked R.Parent genesis l x r).0

module _ {Name : Type 0} (R : Cluster Name) (L : Lawful R) (genesis : Name) (P : OneParent R.Parent genesis) where
  pub one_row : (l m : List Name) → Released R genesis l → Released R genesis m → Begins l m ⊎ Begins m l
  one_row l m nothing s = inl (empty_begins m)
  one_row l m (up_to {v = v} {x = x} r d) nothing = inr (empty_begins l)
  one_row l m (up_to {v = v} {x = x} r d) (up_to {v = w} {x = y} s e) =
      ⊎_elim (λ h. inl (row_begins P l m x y r s h)) (λ h. inr (row_begins P m l y x s r h)) (one_extends_other R L v w x y d e)

  -- ONE CHAIN, over rows: the shorter is the beginning of the longer, and rows of one length are the same
  pub shorter_begins : (l m : List Name) → Released R genesis l → Released R genesis m → length l ≤ length m → Begins l m
  shorter_begins l m r s h = begins_short l m (one_row l m r s) h

  pub same_length_same : (l m : List Name) → Released R genesis l → Released R genesis m → length l ≡ length m → l ≡ m
  same_length_same l m r s h = begins_equal l m (shorter_begins l m r s (omega arith)) h

-- What holds of all that a table keeps for the views of its window, and what keeping an entry, entering a view and the fields at the start of the memory do to
-- it. Assumes nothing.
use Prim.Native.Nat.{ℕ, ◌+◌, ◌%◌, ◌≤◌, ◌<◌}
use mathlib.Core.Bool.{Bool, true, false}
use mathlib.Core.List.{List}
use mathlib.Core.Path.{◌≡◌, refl, sym, ap, ◌∙◌}
use native.Mathlib.Omega.{arith}
use borrow.Author.Tests.{eqb-true, eqb-false, leb-true, leb-false}
use lib.Dec.{eqb, leb}
use lib.ListN.{length}
use Rattle.settings.specs.Quorum.{largest}
use Rattle.codec.specs.Bytes.{IsBytes, part}
use Rattle.memory.specs.Layout.{memory_length, entry_room, with_entry, with_block_count}
use Rattle.memory.specs.Kept.{has, kept, keep}
use Rattle.memory.specs.Window.{entered}
use Rattle.memory.proofs.Apart.{Table, votes, commits, timeouts, rows_of, row_of, size_of, width_of, row_head, row_fits, rows_apart}
use Rattle.memory.proofs.Clearing.{has_same, kept_same}
use Rattle.memory.proofs.Keeping.{keep_stays, keep_apart, has-keep_other, kept-keep, kept-keep_other}
use Rattle.memory.proofs.Entering.{Windowed, entered_kept, entered_none}
use Rattle.memory.proofs.Header.{entry_behind, count_behind}

-- P holds of all entries of the n replicas in a table, for the views of its window; P says it of a view, a replica and an entry
abbrev pub HoldsIn : ℕ → Table → (ℕ → ℕ → List ℕ → Type 0) → ℕ → List ℕ → Type 0
HoldsIn n t P view m =
    (v j : ℕ) → Windowed t view v → j < n → has m (row_of t v) j ≡ true → P v j (kept m (row_of t v) (width_of t) j)

-- tables, told apart
abbrev pub tag : Table → ℕ
tag votes = 0
tag commits = 1
tag timeouts = 2

-- two views of one window have rows of their own
pub one_row : (t : Table) (view u v : ℕ) → Windowed t view u → Windowed t view v → u % rows_of t ≡ v % rows_of t → u ≡ v
one_row votes view u v a b e = omega (arith, a.first, a.last, b.first, b.last)
one_row commits view u v a b e = omega (arith, a.first, a.last, b.first, b.last)
one_row timeouts view u v a b e = omega (arith, a.first, a.last, b.first, b.last)

-- a view that was not below a window is not below an earlier one
pub window_back : (t : Table) (old new u : ℕ) → old ≤ new → Windowed t new u → u ≤ old + 3 → Windowed t old u
window_back votes old new u h a l = record { first = omega (arith, a.first); last = l }
window_back commits old new u h a l = record { first = omega (arith, a.first); last = l }
window_back timeouts old new u h a l = record { first = omega (arith, a.first); last = l }

module _ (n : ℕ) (few : n ≤ largest) (P : ℕ → ℕ → List ℕ → Type 0) where
  -- a row that is as it was
  row_holds : (t : Table) (m w : List ℕ) (v j : ℕ) → part w (row_of t v) (size_of t) ≡ part m (row_of t v) (size_of t) → j < n
      → (has m (row_of t v) j ≡ true → P v j (kept m (row_of t v) (width_of t) j)) → has w (row_of t v) j ≡ true → P v j (kept w (row_of t v) (width_of t) j)
  row_holds t m w v j e h p is =
      rw (kept_same m w (row_of t v) (width_of t) e j (omega arith)) (p (sym (has_same m w (row_of t v) (width_of t) e j) ∙ is))

  -- all rows are as they were
  pub same_holds : (t : Table) (view : ℕ) (m w : List ℕ) → ((v : ℕ) → part w (row_of t v) (size_of t) ≡ part m (row_of t v) (size_of t))
      → HoldsIn n t P view m → HoldsIn n t P view w
  same_holds t view m w e h v j a l is = row_holds t m w v j (e v) l (h v j a l) is

  pub entry_holds : (t : Table) (view : ℕ) (m r : List ℕ) → length r ≤ entry_room → HoldsIn n t P view m → HoldsIn n t P view (with_entry m r)
  entry_holds t view m r l = same_holds t view m (with_entry m r) (λ v. entry_behind m r l (row_of t v) (size_of t) (row_head t v))

  pub count_holds : (t : Table) (view : ℕ) (m : List ℕ) (k : ℕ) → HoldsIn n t P view m → HoldsIn n t P view (with_block_count m k)
  count_holds t view m k = same_holds t view m (with_block_count m k) (λ v. count_behind m k (row_of t v) (size_of t) (omega (arith, row_head t v)))

  -- entering a later view: what stays in the window holds, and what comes in has no entry
  pub entered_holds : (t : Table) (old new : ℕ) (m : List ℕ) → memory_length ≤ length m → old ≤ new → HoldsIn n t P old m → HoldsIn n t P new (entered m old new)
  entered_holds t old new m long le h v j a l = go (leb v (old + 3)) refl
    where
      go : (b : Bool) → leb v (old + 3) ≡ b → has (entered m old new) (row_of t v) j ≡ true → P v j (kept (entered m old new) (row_of t v) (width_of t) j)
      go true e =
          let in-old = leb-true v (old + 3) e in
          row_holds t m (entered m old new) v j (entered_kept m old new t v a in-old) l (h v j (window_back t old new v le a in-old) l)
      go false e = λ is.
          let none = entered_none m old new long t v a (leb-false v (old + 3) e) j in
          absurd (let z : ◌≡◌ {A = Bool} false true = sym none ∙ is in let c : ◌≡◌ {A = ℕ} 0 1 = cc in omega arith)

  -- an entry is kept in the table t: it holds of the entry itself, in its own table, and of all others
  module _ (view : ℕ) (m : List ℕ) (bytes : IsBytes m) (long : memory_length ≤ length m) (t : Table) (v i : ℕ) (e : List ℕ) (size : length e ≡ width_of t) (low : i < largest) where
    abbrev after : List ℕ
    after = keep m (row_of t v) (width_of t) i e

    apart_holds : (t' : Table) (u j : ℕ) → (t' ≡ t → u % rows_of t' ≡ v % rows_of t' → ⊥) → j < n
        → (has m (row_of t' u) j ≡ true → P u j (kept m (row_of t' u) (width_of t') j)) → has after (row_of t' u) j ≡ true → P u j (kept after (row_of t' u) (width_of t') j)
    apart_holds t' u j d =
        row_holds t' m after u j (keep_apart m (row_of t v) (width_of t) i e (row_of t' u) (size_of t') size low (rows_apart t' t u v d))

    pub other_holds : (t' : Table) → (tag t' ≡ tag t → ⊥) → HoldsIn n t' P view m → HoldsIn n t' P view after
    other_holds t' d h u j a l = apart_holds t' u j (λ q r. d (ap tag q)) l (h u j a l)

    pub keep_holds : Windowed t view v → P v i e → HoldsIn n t P view m → HoldsIn n t P view after
    keep_holds here p h u j a l = by_view (eqb u v) refl
      where
        by_has : (b : Bool) → has m (row_of t v) i ≡ b → (c : Bool) → eqb j i ≡ c → has after (row_of t v) j ≡ true → P v j (kept after (row_of t v) (width_of t) j)
        by_has true f c g is =
            let s = keep_stays m (row_of t v) (width_of t) i e f in
            rw s (h v j here l (rw s at is))
        by_has false f true g is =
            let q = eqb-true j i g in
            rw q (rw (kept-keep m (row_of t v) (width_of t) i e bytes (omega (arith, row_fits t v)) size low f) p)
        by_has false f false g is =
            let q = eqb-false j i g in
            let fits : row_of t v + size_of t ≤ length m = omega (arith, row_fits t v) in
            rw (kept-keep_other m (row_of t v) (width_of t) i e bytes fits size low f j q)
            (h v j here l (sym (has-keep_other m (row_of t v) (width_of t) i e bytes fits size low f j q) ∙ is))

        by_view : (b : Bool) → eqb u v ≡ b → has after (row_of t u) j ≡ true → P u j (kept after (row_of t u) (width_of t) j)
        by_view true f = let q = eqb-true u v f in rw q (by_has (has m (row_of t v) i) refl (eqb j i) refl)
        by_view false f = apart_holds t u j (λ q r. eqb-false u v f (one_row t view u v a here r)) l (h u j a l)

-- What tests of the timeouts inside a timeout certificate find, one by one. Assumes nothing.
use mathlib.Core.Path.{◌≡◌, refl, sym, subst, ◌∙◌}
use mathlib.Core.Bool.{Bool, true, false}
use mathlib.Core.List.{List, [], ◌∷◌}
use Prim.Native.Nat.{ℕ, suc}
use denote.Bor.{Bor}
use denote.Param.Members.{Mut}
use Rattle.std.specs.declared.option.Option.{Option}
use Rattle.std.specs.declared.option.Option.TheVariants.{Some, None}
use Rattle.std.specs.declared.slice.ChunksExact.{ChunksExact}
use Rattle.std.specs.Slice.Iter.{chunks_exact_size, chunks_exact_steps}
use Rattle.std.specs.Iterator.{AlwaysYields, Yields, YieldsThen}
use Rattle.std.specs.Option.{MatchOption}
use Rattle.std.specs.List.{FoldsTo}
use Rattle.std.specs.Fn.{Called}
use Rattle.wire.specs.Fields.{timeout_length, sender_of, slots_left}
use Rattle.wire.specs.Shape.{any, slot_value_bad, slots_value_bad}
use Rattle.wire.proofs.Turns.{slot_turn, slot_end, slots_yield}

-- ---- `any` of an iterator that gives a list, with a closure that computes a test
module _ {S A F : Type 0} (steps : S → Option A → S → Type 0) (v : A → List ℕ) (g : Mut F (A × Unit {0}) Bool) (test : List ℕ → Bool) (f : F)
    (computes : (x : A) (b : Bool) (q : F) → Called g f (x, tt) b q → (q ≡ f) × (b ≡ test (v x))) where
  any_gives : (r : Bool) (s u : S) (all : List (List ℕ)) (xs : List A) (o : Option A) (j i : F) (t : S)
      → i ≡ f → Yields steps s xs t → steps t o u → FoldsTo (λ p x q. Called g p (x, tt) false q) i xs j
      → MatchOption o (r ≡ false) (λ x. (r ≡ true) × ((h : F) × Called g j (x, tt) true h))
      → AlwaysYields steps v s all → r ≡ any test all
  unfolding any
  any_gives r s u [] [] None j i t k y p c m e = m
  any_gives r s u [] [] (Some x) j i t k y p c m e = absurd (e x u (subst (λ z. steps z (Some x) u) (sym y) p))
  any_gives r s u [] (x ∷ xs) o j i t k y p c m e = absurd (e x y.0 y.1)
  any_gives r s u (b ∷ all) [] None j i t k y p c m e = absurd (e.0 u (subst (λ z. steps z None u) (sym y) p))
  any_gives r s u (b ∷ all) [] (Some x) j i t k y p c m e =
      let w = e.1 x u (subst (λ z. steps z (Some x) u) (sym y) p) in
      let z = computes x true m.1.0 (subst (λ q. Called g q (x, tt) true m.1.0) (sym c ∙ k) m.1.1) in
      rw (m.0, ← w.0, ← z.1)
  any_gives r s u (b ∷ all) (x ∷ xs) o j i t k y p c m e =
      let w = e.1 x y.0 y.1 in
      let z = computes x false c.0 (subst (λ q. Called g q (x, tt) false c.0) k c.1) in
      rw (← w.0, ← z.1) (any_gives r y.0 u all xs o j c.0 t z.0 y.2 p c.2 m w.1)

-- the same of an iterator over timeouts
pub any_slot : {F : Type 0} {g : Mut F (Bor (List ℕ) × Unit {0}) Bool} {f : F} {r : Bool} (test : List ℕ → Bool) (s u : ChunksExact ℕ)
    → ((x : Bor (List ℕ)) (b : Bool) (q : F) → Called g f (x, tt) b q → (q ≡ f) × (b ≡ test x.now))
    → (xs : List (Bor (List ℕ))) × (o : Option (Bor (List ℕ))) × (j : F) × YieldsThen chunks_exact_steps s xs o u × FoldsTo (λ p x q. Called g p (x, tt) false q) f xs j
    × MatchOption o (r ≡ false) (λ x. (r ≡ true) × ((h : F) × Called g j (x, tt) true h))
    → chunks_exact_size s ≡ timeout_length → r ≡ any test (slots_left s)
any_slot {g = g} {f = f} {r = r} test s u computes (xs, o, j, (t, y, p), c, m) size =
    any_gives chunks_exact_steps (λ (x : Bor (List ℕ)). x.now) g test f computes r s u (slots_left s) xs o j f t refl y p c m (slots_yield s size)

-- ---- a turn of the loop that tests the values, and its end
module _ (n view low : ℕ) (s t : ChunksExact ℕ) (size : chunks_exact_size s ≡ timeout_length) where
  module _ (x : Bor (List ℕ)) (h : chunks_exact_steps s (Some x) t) where
    pub value_here : slot_value_bad n view low x.now ≡ true → slots_value_bad n view low (slots_left s) ≡ true
    unfolding slots_value_bad
    value_here e = rw ((slot_turn s t size x h).1, e)

    pub value_later : slot_value_bad n view low x.now ≡ false → slots_value_bad n view low (slots_left s) ≡ slots_value_bad n view (suc (sender_of x.now)) (slots_left t)
    unfolding slots_value_bad
    value_later e = rw ((slot_turn s t size x h).1, e)

  pub value_none : chunks_exact_steps s None t → slots_value_bad n view low (slots_left s) ≡ false
  unfolding slots_value_bad
  value_none h = rw (slot_end s t size h)

-- What a loop over the timeouts inside a timeout certificate finds, and `all` of them. Assumes nothing.
use mathlib.Core.Path.{◌≡◌, refl, sym, ap, subst, ◌∙◌}
use mathlib.Core.Bool.{Bool, true, false, cond}
use mathlib.Core.List.{List, [], ◌∷◌, map}
use Prim.Native.Nat.{ℕ, zero, suc, ◌+◌, ◌≤◌}
use lib.ListN.{length, drop}
use Rattle.wire.specs.declared.Timeout.{Timeout}
use denote.Bor.{Bor}
use denote.Param.Members.{Mut}
use Rattle.std.specs.declared.option.Option.{Option}
use Rattle.std.specs.declared.option.Option.TheVariants.{Some, None}
use Rattle.std.specs.declared.slice.ChunksExact.{ChunksExact}
use Rattle.std.specs.Slice.Iter.{chunks_exact_size, chunks_exact_steps}
use Rattle.std.specs.Iterator.{AlwaysYields, Yields, YieldsThen}
use Rattle.std.specs.Option.{MatchOption}
use Rattle.std.specs.List.{FoldsTo}
use Rattle.std.specs.Fn.{Called}
use Rattle.wire.specs.Fields.{timeout_length, cut, slots_left}
use Rattle.wire.specs.Content.{timeout_of}
use Rattle.wire.proofs.Turns.{slot_turn, slot_end, slots_yield}
use native.Mathlib.Omega.{arith}
use Rattle.certificate.specs.Good.{all}
use Rattle.certificate.specs.Safe.{each, gives, joins, backed_by}
use Rattle.certificate.specs.declared.Tally.{Tally}

pub count_timeouts : (k : ℕ) (s : List ℕ) → length (map timeout_of (cut k s)) ≡ k
unfolding cut
count_timeouts zero s = refl
count_timeouts (suc k) s = ap suc (count_timeouts k (drop 112 s))

-- one turn of a loop, and its end: what holds of all that the iterator has left
module _ (s t : ChunksExact ℕ) (size : chunks_exact_size s ≡ 112) where
  -- one fewer is left
  pub one_left : (x : Bor (List ℕ)) → chunks_exact_steps s (Some x) t → length (map timeout_of (slots_left s)) ≡ suc (length (map timeout_of (slots_left t)))
  one_left x h = rw (slot_turn s t size x h).1

  module _ {B : Type 0} (f : Timeout → B → B) (b : B) where
    pub each_on : (x : Bor (List ℕ)) {b' : B} → chunks_exact_steps s (Some x) t → b' ≡ f (timeout_of x.now) b → each f b (map timeout_of (slots_left s)) ≡ each f b' (map timeout_of (slots_left t))
    unfolding each
    each_on x h e = rw ((slot_turn s t size x h).1, e)

    pub each_end : chunks_exact_steps s None t → each f b (map timeout_of (slots_left s)) ≡ b
    unfolding each
    each_end h = rw (slot_end s t size h)

-- one timeout more is at most one more
pub backed_count : {i : ℕ} {b' : Tally} (n v : ℕ) (x : List ℕ) (t : Timeout) (b : Tally) → b' ≡ backed_by n v x t b → b.count ≤ i → b'.count ≤ i + 1
unfolding backed_by
backed_count {i} n v x t b e h = rw e (go (gives v x t))
  where
    go : (p : Bool) → (cond p (record { count = b.count + 1; signers = joins n t.sender b.signers }) b).count ≤ i + 1
    go true = omega arith
    go false = omega arith

-- ---- `all` of an iterator over timeouts, with a closure that computes a test of what is read
module _ {F : Type 0} (g : Mut F (Bor (List ℕ) × Unit {0}) Bool) (test : Timeout → Bool) (f : F)
    (computes : (x : Bor (List ℕ)) (b : Bool) (q : F) → Called g f (x, tt) b q → (q ≡ f) × (b ≡ test (timeout_of x.now))) where
  all_gives : (r : Bool) (s u : ChunksExact ℕ) (left : List (List ℕ)) (xs : List (Bor (List ℕ))) (o : Option (Bor (List ℕ))) (j i : F) (t : ChunksExact ℕ)
      → i ≡ f → Yields chunks_exact_steps s xs t → chunks_exact_steps t o u → FoldsTo (λ p x q. Called g p (x, tt) true q) i xs j
      → MatchOption o (r ≡ true) (λ x. (r ≡ false) × ((h : F) × Called g j (x, tt) false h))
      → AlwaysYields chunks_exact_steps (λ (x : Bor (List ℕ)). x.now) s left → r ≡ all test (map timeout_of left)
  unfolding all
  all_gives r s u [] [] None j i t k y p c m e = m
  all_gives r s u [] [] (Some x) j i t k y p c m e = absurd (e x u (subst (λ z. chunks_exact_steps z (Some x) u) (sym y) p))
  all_gives r s u [] (x ∷ xs) o j i t k y p c m e = absurd (e x y.0 y.1)
  all_gives r s u (b ∷ left) [] None j i t k y p c m e = absurd (e.0 u (subst (λ z. chunks_exact_steps z None u) (sym y) p))
  all_gives r s u (b ∷ left) [] (Some x) j i t k y p c m e =
      let w = e.1 x u (subst (λ z. chunks_exact_steps z (Some x) u) (sym y) p) in
      let z = computes x false m.1.0 (subst (λ q. Called g q (x, tt) false m.1.0) (sym c ∙ k) m.1.1) in
      rw (m.0, ← w.0, ← z.1)
  all_gives r s u (b ∷ left) (x ∷ xs) o j i t k y p c m e =
      let w = e.1 x y.0 y.1 in
      let z = computes x true c.0 (subst (λ q. Called g q (x, tt) true c.0) k c.1) in
      rw (← w.0, ← z.1) (all_gives r y.0 u left xs o j c.0 t z.0 y.2 p c.2 m w.1)

pub all_slots : {F : Type 0} {g : Mut F (Bor (List ℕ) × Unit {0}) Bool} {f : F} {r : Bool} (test : Timeout → Bool) (s u : ChunksExact ℕ)
    → ((x : Bor (List ℕ)) (b : Bool) (q : F) → Called g f (x, tt) b q → (q ≡ f) × (b ≡ test (timeout_of x.now)))
    → (xs : List (Bor (List ℕ))) × (o : Option (Bor (List ℕ))) × (j : F) × YieldsThen chunks_exact_steps s xs o u × FoldsTo (λ p x q. Called g p (x, tt) true q) f xs j
    × MatchOption o (r ≡ true) (λ x. (r ≡ false) × ((h : F) × Called g j (x, tt) false h))
    → chunks_exact_size s ≡ timeout_length → r ≡ all test (map timeout_of (slots_left s))
all_slots {g = g} {f = f} {r = r} test s u computes (xs, o, j, (t, y, p), c, m) size =
    all_gives g test f computes r s u (slots_left s) xs o j f t refl y p c m (slots_yield s size)

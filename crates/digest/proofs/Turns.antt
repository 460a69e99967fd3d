-- The code's turns are the schedule and the rounds. Assumes nothing.
use mathlib.Core.Path.{◌≡◌, refl, sym, ap, subst, ◌∙◌}
use mathlib.Core.List.{List}
use Prim.Native.Nat.{ℕ, zero, suc, ◌+◌, ◌-◌, ◌≤◌, ◌<◌}
use native.Mathlib.Numerals.{add-one}
use native.Mathlib.Nat.{add-zero, zero-add}
use native.Mathlib.Omega.{arith}
use lib.ListN.{length, take, drop, set, replicate, length-set}
use lib.Dec.{lit≤}
use lib.Seq.{get_or-take, get_or-set_same, length-take-le}
use Rattle.digest.specs.declared.Words.{Words}
use Rattle.digest.specs.Sha256.{◌!◌, words, next, extend, schedule, round, rounds}
use Rattle.digest.specs.Turns.{Run, run, word_of, turn, turns}
use Rattle.digest.proofs.Schedule.{first_words, extend_keeps, words_turn, extend_turn, length-schedule, rounds_turn, rounds_end}

-- turns in a row
pub turns_add : (f : ℕ → List ℕ → ℕ) (k : List ℕ) (t n j : ℕ) (r : Run) → turns f k t (n + j) r ≡ turns f k (t + n) j (turns f k t n r)
unfolding turns
turns_add f k t n zero r = ap (λ (i : ℕ). turns f k t i r) (add-zero n)
turns_add f k t n (suc j) r =
    let e : n + suc j ≡ suc (n + j) = omega arith in
    let g : t + (n + j) ≡ t + n + j = omega arith in
    ap (λ (i : ℕ). turns f k t i r) e ∙ ap (λ (i : ℕ). turn f k i (turns f k t (n + j) r)) g ∙ ap (turn f k (t + n + j)) (turns_add f k t n j r)

module _ (m k : List ℕ) (h : Words) (e : length k ≡ 64) where
  abbrev W : List ℕ
  W = schedule (words 16 m)

  -- after t turns over the block's words, and over the schedule's
  record First (t : ℕ) (r : Run) : Type 0 where
    long : length r.kept ≡ 64
    same : take t r.kept ≡ words t m
    rest : rounds (drop t k) (drop t W) r.variables ≡ rounds k W h

  record Later (t : ℕ) (r : Run) : Type 0 where
    long : length r.kept ≡ 64
    same : extend (64 - t) (take t r.kept) ≡ W
    rest : rounds (drop t k) (drop t W) r.variables ≡ rounds k W h

  one : (t x : ℕ) (v : Words) → t < 64 → x ≡ W ! t → rounds (drop t k) (drop t W) v ≡ rounds k W h → rounds (drop (t + 1) k) (drop (t + 1) W) (round v (k ! t) x) ≡ rounds k W h
  one t x v l f g =
      ap (λ (y : ℕ). rounds (drop (t + 1) k) (drop (t + 1) W) (round v (k ! t) y)) f
      ∙ rounds_turn k W t v (omega arith) (omega (arith, length-schedule m)) ∙ g

  first_turn_lem : (t : ℕ) (r : Run) → t < 16 → First t r → First (t + 1) (turn (word_of m) k t r)
  unfolding turn word_of
  first_turn_lem t r l p =
      record {
        long = length-set r.kept t _ ∙ p.long;
        same = words_turn r.kept m t _ (omega (arith, p.long)) refl p.same;
        rest = one t _ r.variables (omega arith) (sym (first_words m t l)) p.rest;
      }

  word_later : (t : ℕ) (w : List ℕ) → 16 ≤ t → t < 64 → length w ≡ 64 → extend (64 - t) (take t w) ≡ W → next t w ≡ W ! t
  word_later t w a b l s =
      let x = next t w in
      let w' = set w t x in
      let g : t < length (take (t + 1) w') = omega (arith, length-take-le (t + 1) w' (omega (arith, length-set w t x))) in
      sym
      (ap (λ (y : List ℕ). y ! t) (sym (extend_turn w t x a b l refl ∙ s))
      ∙ extend_keeps (64 - (t + 1)) (take (t + 1) w') t g ∙ get_or-take (t + 1) w' t 0 (omega arith) ∙ get_or-set_same w t x 0 (omega arith))

  later_turn : (t : ℕ) (r : Run) → 16 ≤ t → t < 64 → Later t r → Later (t + 1) (turn next k t r)
  unfolding turn
  later_turn t r a b p =
      record {
        long = length-set r.kept t _ ∙ p.long;
        same = extend_turn r.kept t _ a b p.long refl ∙ p.same;
        rest = one t _ r.variables b (word_later t r.kept a b p.long p.same) p.rest;
      }

  first_turns : (n : ℕ) → n ≤ 16 → First n (turns (word_of m) k 0 n (run (replicate 64 0) h))
  unfolding turns words
  first_turns zero l = record { long = refl; same = refl; rest = refl }
  first_turns (suc n) l =
      let r = turns (word_of m) k 0 n (run (replicate 64 0) h) in
      let p = first_turn_lem n r (omega arith) (first_turns n (omega arith)) in
      subst (λ (i : ℕ). First (suc n) (turn (word_of m) k i r)) (sym (zero-add n)) (subst (λ (i : ℕ). First i (turn (word_of m) k n r)) (add-one n) p)

  later_turns : (n : ℕ) (r : Run) → n ≤ 48 → Later 16 r → Later (16 + n) (turns next k 16 n r)
  unfolding turns
  later_turns zero r l p = p
  later_turns (suc n) r l p =
      let f : 16 + n + 1 ≡ 16 + suc n = omega arith in
      subst (λ (i : ℕ). Later i (turn next k (16 + n) (turns next k 16 n r))) f
      (later_turn (16 + n) (turns next k 16 n r) (omega arith) (omega arith) (later_turns n r (omega arith) p))

  half : (r : Run) → First 16 r → Later 16 r
  unfolding schedule
  half r p = record { long = p.long; same = ap (extend 48) p.same; rest = p.rest }

  -- all turns together
  pub turned : (turns next k 16 48 (turns (word_of m) k 0 16 (run (replicate 64 0) h))).variables ≡ rounds k W h
  turned =
      let r = turns next k 16 48 (turns (word_of m) k 0 16 (run (replicate 64 0) h)) in
      let p : Later 64 r = later_turns 48 (turns (word_of m) k 0 16 (run (replicate 64 0) h)) (lit≤ tt) (half (turns (word_of m) k 0 16 (run (replicate 64 0) h)) (first_turns 16 (lit≤ tt))) in
      sym (rounds_end k W 64 r.variables (omega arith)) ∙ p.rest

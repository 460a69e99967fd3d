-- THE PROGRAM IS 01'S RUN: where it has come to its end, what it leaves is what `program` of replay says of the input that it read, whatever follows in the input
-- after a stop; and its lines are the ones that `program` has. Assumes nothing.
use Prim.Native.Nat.{ℕ, ◌+◌, ◌*◌, ◌-◌, ◌^◌, ◌≤◌, ◌<◌}
use native.Mathlib.Omega.{arith}
use native.Mathlib.Nat.{le_refl}
use mathlib.Core.Path.{◌≡◌, refl, sym, ap, ◌∙◌}
use mathlib.Core.Bool.{Bool, true, false, cond, not, ◌&&◌, ◌||◌, true≢false}
use mathlib.Core.Logic.{◌⊎◌, inl, inr}
use mathlib.Core.List.{List, [], ◌++◌, append-nil, append_assoc}
use borrow.Author.Tests.{eqb-true, ne_eqb, ltb-true, ltb-false}
use lib.Dec.{eqb, ltb}
use lib.ListN.{length, take, drop, length-append, drop_of_length-le}
use lib.Seq.{take-append_seam, drop-append_seam, take_all}
use Rattle.blocks.specs.declared.Block.{Block}
use Rattle.counters.specs.Counters.{opened}
use Rattle.codec.specs.Bytes.{IsBytes}
use Rattle.wire.specs.Fit.{All}
use Rattle.memory.specs.Layout.{memory_length}
use Rattle.protocol.specs.Typed.{BlockTyped}
use Rattle.protocol.specs.Refusals.{store_length, output_length}
use Rattle.protocol.specs.Listing.{Line, printed}
use Rattle.replica.specs.Reply.{lent_to}
use Rattle.replay.specs.Input.{opening_length, well_formed, opening_of, pieces}
use Rattle.replay.specs.Replay.{Ran, run, followed_by, opens, opens_with, begun, program}
use Rattle.replay.specs.Listing.{listing_input}
use Rattle.replay.proofs.Cutting.{pieces_none}
use Rattle.replay.proofs.Listing.{program_prints}
use Rattle.replay.proofs.Whole.{run_stopped, run_after}
use Rattle.run.specs.declared.Turn.{Turn}
use Rattle.run.specs.Running.{Between, between, ran_of, goes_on, Went, Turns, spent, done, turn, first_turn, Program}

followed_twice : (a b : List Line) (s : Ran) → followed_by a (followed_by b s) ≡ followed_by (a ++ b) s
followed_twice a b s = λ i. record { replica = s.replica; output = s.output; lines = sym (append_assoc a b s.lines) i; next = s.next }

-- ---- turns: what was read in all of them, and the lines that were given
pub record Through (x y : Between) : Type 0 where
  pub read : List ℕ
  pub lines : List Line
  -- nothing is read where the program is over before the first
  pub over : goes_on x.turn ≡ false → read ≡ []
  pub ended : x.turn.ended ≡ true → (read ≡ []) × (y.turn.ended ≡ true)
  pub same : (rest : List ℕ) → (y.turn.ended ≡ true → rest ≡ []) → run (ran_of x) (pieces (x.hand ++ (read ++ rest))) ≡ followed_by lines (run (ran_of y) (pieces (y.hand ++ rest)))

stay : (x : Between) → Through x x
stay x = record { read = []; lines = []; over = λ _. refl; ended = λ e. (refl, e); same = λ rest _. refl }

then : {x y z : Between} → goes_on x.turn ≡ true → Went x y → Through y z → Through x z
then {x} {y} {z} g w u =
    record {
      read = w.read ++ u.read;
      lines = w.lines ++ u.lines;
      over = λ n. absurd (true≢false (sym g ∙ n));
      ended = λ e. (rw (w.none (w.ended e), (u.ended (w.ended e)).0), (u.ended (w.ended e)).1);
      same = λ rest nothing.
          ap (λ (l : List ℕ). run (ran_of x) (pieces (x.hand ++ l))) (append_assoc w.read u.read rest)
          ∙ (w.same (u.read ++ rest) (λ e. rw ((u.ended e).0, nothing (u.ended e).1))
          ∙ (ap (followed_by w.lines) (u.same rest nothing) ∙ followed_twice w.lines u.lines (run (ran_of z) (pieces (z.hand ++ rest)))));
    }

pub through : {k : ℕ} {x y : Between} → Turns k x y → Through x y
through (spent x) = stay x
through (done k x n) = stay x
through (turn k x y z g w t) = then g w (through t)

-- ---- the program comes to its end: where it is still going on after k turns, k is at most one more than twice the bytes read
abbrev unended : Between → ℕ
unended x = cond x.turn.ended 0 1

-- one turn
module _ (x y : Between) (w : Went x y) where
  no_later : unended y ≤ unended x
  no_later = by x.turn.ended y.turn.ended refl refl
    where
      by : (a b : Bool) → x.turn.ended ≡ a → y.turn.ended ≡ b → unended y ≤ unended x
      by true true e f = rw (e, f) (le_refl 0)
      by true false e f = absurd (true≢false (sym (w.ended e) ∙ f))
      by false true e f = rw (e, f) (omega arith)
      by false false e f = rw (e, f) (le_refl 1)

  one_more : 1 + (y.turn.have + unended y) ≤ x.turn.have + unended x + 2 * length w.read
  one_more = by w.gets_on
    where
      by : (0 < length w.read) ⊎ (((x.turn.ended ≡ false) × (y.turn.ended ≡ true)) ⊎ (y.turn.have < x.turn.have)) → 1 + (y.turn.have + unended y) ≤ x.turn.have + unended x + 2 * length w.read
      by (inl some) = omega (arith, some, no_later, w.most)
      by (inr (inl e)) =
          let l : length w.read ≡ 0 = ap length (w.none e.1) in
          let a : unended x ≡ 1 = rw e.0 in
          let b : unended y ≡ 0 = rw e.1 in
          omega (arith, l, a, b, w.most)
      by (inr (inr less)) = omega (arith, less, no_later)

turns_few : {k : ℕ} {x y : Between} (t : Turns k x y) → goes_on y.turn ≡ true → k + (y.turn.have + unended y) ≤ x.turn.have + unended x + 2 * length (through t).read
unfolding through then
turns_few (spent x) g = omega arith
turns_few (done k x n) g = absurd (true≢false (sym g ∙ n))
turns_few (turn k x y z g w t) h = let l = length-append w.read (through t).read in omega (arith, turns_few t h, one_more x y w, l)

-- ---- the end: the program has stopped, or the input has ended and nothing is left of it
ends_there : (x : Between) → goes_on x.turn ≡ false → (x.turn.have ≡ 0 → x.hand ≡ []) → (rest : List ℕ) → (x.turn.ended ≡ true → rest ≡ [])
    → run (ran_of x) (pieces (x.hand ++ rest)) ≡ ran_of x
unfolding run
ends_there x n short rest nothing = by (eqb x.turn.next 0) x.turn.ended (ltb 0 x.turn.have) refl refl refl n
  where
    by : (a e h : Bool) → eqb x.turn.next 0 ≡ a → x.turn.ended ≡ e → ltb 0 x.turn.have ≡ h → (not a && (not e || h)) ≡ false → run (ran_of x) (pieces (x.hand ++ rest)) ≡ ran_of x
    by true e h p q r f = run_stopped (ran_of x) (pieces (x.hand ++ rest)) (eqb-true x.turn.next 0 p)
    by false true false p q r f =
        let z : x.turn.have ≡ 0 = let l = ltb-false 0 x.turn.have r in omega arith in
        let e : x.hand ++ rest ≡ [] = rw (short z, nothing q) in
        ap (λ (l : List ℕ). run (ran_of x) (pieces l)) e ∙ ap (run (ran_of x)) pieces_none
    by false true true p q r f = absurd (true≢false f)
    by false false h p q r f = absurd (true≢false f)

-- ---- the whole program: fewer than 2 ^ 62 bytes are read to their end
pub comes_to_its_end : {m : List ℕ} {s : List Block} {o l m' : List ℕ} {s' : List Block} {o' l' : List ℕ} {t : Turn} (p : Program (2 ^ 64 - 1) m s o l m' s' o' l' t)
    → length (through p.went).read < 2 ^ 62 → goes_on t ≡ false
comes_to_its_end {t = t} p few = by (goes_on t) refl
  where
    by : (z : Bool) → goes_on t ≡ z → goes_on t ≡ false
    by true g = absurd (let f = turns_few p.went g in omega (arith, f, few))
    by false g = g

module _ {most : ℕ} {m : List ℕ} {s : List Block} {o l m' : List ℕ} {s' : List Block} {o' l' : List ℕ} {t : Turn} (p : Program most m s o l m' s' o' l' t) (end : goes_on t ≡ false) where
  abbrev begins : Ran
  begins = begun (opens (lent_to opened m s) (opening_of p.first)) o

  abbrev ends : Between
  ends = between (lent_to p.counters m' s') o' p.buffer l' t

  -- what was read behind the first record, and the lines that were given
  pub read : List ℕ
  read = (through p.went).read

  pub lines : List Line
  lines = begins.lines ++ (through p.went).lines

  -- a first record that is cut short stops the program
  short_stops : length p.first < opening_length → begins.next ≡ 0
  unfolding begun opens_with opening_of well_formed
  short_stops h = rw (ne_eqb (length p.first) opening_length (λ e. omega (arith, e, h)))

  unread : length p.first < opening_length → (through p.went).read ≡ []
  unread h = (through p.went).over (rw (short_stops h))

  -- the first record and what stands behind it
  parts : (c : List ℕ) → (length p.first < opening_length → c ≡ []) → (take opening_length (p.first ++ c) ≡ p.first) × (drop opening_length (p.first ++ c) ≡ c)
  parts c nothing = by (ltb (length p.first) opening_length) refl
    where
      by : (z : Bool) → ltb (length p.first) opening_length ≡ z → (take opening_length (p.first ++ c) ≡ p.first) × (drop opening_length (p.first ++ c) ≡ c)
      by true z =
          let h = ltb-true (length p.first) opening_length z in
          let e : p.first ++ c ≡ p.first = ap (λ (l : List ℕ). p.first ++ l) (nothing h) ∙ append-nil p.first in
          (ap (take opening_length) e ∙ take_all opening_length p.first p.short, ap (drop opening_length) e ∙ (drop_of_length-le p.first p.short ∙ sym (nothing h)))
      by false z =
          let h = ltb-false (length p.first) opening_length z in
          let e : length p.first ≡ opening_length = omega (arith, h, p.short) in
          (ap (λ (k : ℕ). take k (p.first ++ c)) (sym e) ∙ take-append_seam p.first c, ap (λ (k : ℕ). drop k (p.first ++ c)) (sym e) ∙ drop-append_seam p.first c)

  begins_as : begins ≡ followed_by begins.lines (ran_of (first_turn begins []))
  begins_as = λ i. record { replica = begins.replica; output = begins.output; lines = sym (append-nil begins.lines) i; next = begins.next }

  -- THE THEOREM: whatever follows in the input where the program stopped before its end
  pub program_is_run : (rest : List ℕ) → (length p.first < opening_length → rest ≡ []) → (t.ended ≡ true → rest ≡ [])
      → program (lent_to opened m s) o (p.first ++ (read ++ rest)) ≡ record { replica = lent_to p.counters m' s'; output = o'; lines = lines; next = t.next }
  unfolding program read lines
  program_is_run rest short nothing =
      let u = through p.went in
      let c = u.read ++ rest in
      let q = parts c (λ h. rw (unread h, short h)) in
      ap (λ (l : List ℕ). run (begun (opens (lent_to opened m s) (opening_of l)) o) (pieces (drop opening_length (p.first ++ c)))) q.0
      ∙ (ap (λ (l : List ℕ). run begins (pieces l)) q.1
      ∙ (ap (λ (z : Ran). run z (pieces c)) begins_as
      ∙ (run_after begins.lines (ran_of (first_turn begins [])) (pieces c)
      ∙ (ap (followed_by begins.lines) (u.same rest nothing ∙ ap (followed_by u.lines) (ends_there ends end (λ z. rw z) rest nothing))
      ∙ λ i. record { replica = lent_to p.counters m' s'; output = o'; lines = begins.lines ++ append-nil u.lines i; next = t.next }))))

  -- 01's listing follows: where the input was 01's, the lines are 01's
  pub listing_follows : IsBytes m → All BlockTyped s → memory_length ≤ length m → store_length ≤ length s → output_length ≤ length o → p.first ++ read ≡ listing_input → lines ≡ printed
  listing_follows b typed long many room e =
      let input : p.first ++ (read ++ []) ≡ listing_input = ap (λ (l : List ℕ). p.first ++ l) (append-nil read) ∙ e in
      sym (ap (λ (z : Ran). z.lines) (program_is_run [] (λ _. refl) (λ _. refl)))
      ∙ (ap (λ (l : List ℕ). (program (lent_to opened m s) o l).lines) input ∙ program_prints (lent_to opened m s) o b typed long many room)

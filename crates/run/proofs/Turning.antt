-- Laws of specs/Running.antt: one turn, and one turn after another. Assumes nothing.
use Prim.Native.Nat.{ℕ, zero, suc, ◌+◌, ◌-◌, ◌^◌, ◌≤◌, ◌<◌}
use native.Mathlib.Omega.{arith}
use native.Mathlib.Nat.{zero-add, suc-add}
use mathlib.Core.Path.{◌≡◌, refl, sym, ap, subst, ◌∙◌}
use mathlib.Core.Bool.{Bool, true, false, cond, not, ◌||◌, true≢false}
use mathlib.Core.Logic.{◌⊎◌, inl, inr}
use Rattle.std.specs.Prelude.{Option}
use mathlib.Core.List.{List, [], ◌∷◌, ◌++◌, append-nil, append_assoc}
use borrow.Author.Tests.{eqb-true, eqb-false, not-true, le-leb, ltb-true, ltb-false}
use lib.Dec.{eqb, ltb}
use lib.ListN.{length, take, drop, replicate, length-take, length-append}
use Rattle.settings.specs.Quorum.{largest}
use Rattle.settings.specs.Opening.{in_turn}
use Rattle.codec.specs.Bytes.{part, patch}
use Rattle.codec.proofs.Laws.{patch_nil}
use Rattle.codec.proofs.Order.{and_true}
use Rattle.blocks.specs.declared.Block.{Block}
use Rattle.counters.specs.declared.Counters.{Counters}
use Rattle.protocol.specs.Refusals.{store_length}
use Rattle.protocol.specs.Calls.{Replica}
use Rattle.replica.specs.Reply.{lent_to}
use Rattle.counters.specs.Counters.{opened}
use Rattle.replay.specs.declared.Opening.{Opening}
use Rattle.replay.specs.declared.Place.{Place}
use Rattle.replay.specs.Input.{opening_of, pieces}
use Rattle.replay.specs.Lines.{line_length, line_bytes, lines_bytes, refused_opening}
use Rattle.replay.specs.Replay.{Answered, after_answer, Ran, run, followed_by, opens, opens_with, begun, known, ready, goes, Standing, standing, start, stopped, steps}
use Rattle.replay.proofs.InTurn.{opens-in_turn}
use Rattle.replay.proofs.Laws.{ready_some}
use Rattle.replay.proofs.Whole.{ran_from, Stepped, steps_are_run, steps_move, run_goes_on}
use Rattle.run.specs.declared.Turn.{Turn}
use Rattle.run.specs.Running.{FirstRead, Refilled, Kept, Between, between, ran_of, goes_on, Went, Turns, spent, done, turn, first_turn, empty_block, Program, ProgramWithStore}

nothing_of : (l : List ℕ) → length l ≡ 0 → l ≡ []
nothing_of [] e = refl
nothing_of (x ∷ l) e = absurd (omega (arith, e))

-- ---- one turn: bytes are read, the known pieces are taken, and the rest is kept
module _ (p q : Replica) (o o' lines lines' before after kept : List ℕ) (t u v : Turn) (place : Place)
    (fill : Refilled t before u after)
    (steps-made : standing q o' lines' place ≡ steps u.ended (take u.have after) (length (take u.have after)) (standing p o lines (start u.next)))
    (keeps : Kept u after place v kept)
    (on : goes_on t ≡ true) (room : line_length ≤ length lines) where
  abbrev first : Standing
  first = standing p o lines (start u.next)

  stepped : Stepped u.ended (take u.have after) first (standing q o' lines' place)
  stepped = subst (Stepped u.ended (take u.have after) first) (sym steps-made) (steps_are_run u.ended (take u.have after) (length (take u.have after)) first)

  -- nothing is read where the input has ended afterwards
  none_read : u.ended ≡ true → fill.read ≡ []
  none_read e = by (t.ended || known (take t.have before)) refl
    where
      by : (z : Bool) → (t.ended || known (take t.have before)) ≡ z → fill.read ≡ []
      by true i = (fill.idle i).0
      by false i = nothing_of fill.read (eqb-true (length fill.read) 0 (sym (fill.reads i) ∙ e))

  stays_ended : t.ended ≡ true → u.ended ≡ true
  stays_ended e = (fill.idle (rw e)).1.0 ∙ e

  same_run : (rest : List ℕ) → (v.ended ≡ true → rest ≡ [])
      → run (ran_of (between p o before lines t)) (pieces (take t.have before ++ (fill.read ++ rest)))
      ≡ followed_by (run (ran_from first) stepped.taken).lines (run (ran_of (between q o' kept lines' v)) (pieces (take v.have kept ++ rest)))
  same_run rest nothing =
      let on = run_goes_on u.ended (take u.have after) rest (λ e. nothing (keeps.ended ∙ e)) first (standing q o' lines' place) stepped in
      let hand : take t.have before ++ (fill.read ++ rest) ≡ take u.have after ++ rest
      = sym (append_assoc (take t.have before) fill.read rest) ∙ ap (λ (l : List ℕ). l ++ rest) (sym fill.hand) in
      let from : ℕ → List ℕ → Ran = λ n l. run (record { replica = p; output = o; lines = []; next = n }) (pieces l) in
      let onward : ℕ → List ℕ → Ran = λ n l. followed_by (run (ran_from first) stepped.taken).lines (run (record { replica = q; output = o'; lines = []; next = n }) (pieces (l ++ rest))) in
      (ap (from t.next) hand ∙ ap (λ (n : ℕ). from n (take u.have after ++ rest)) (sym fill.next))
      ∙ (on ∙ (ap (λ (n : ℕ). onward n (drop place.at (take u.have after))) (sym keeps.next) ∙ ap (onward v.next) (sym keeps.hand)))

  -- the turn gets on
  not_stopped : eqb u.next 0 ≡ false
  not_stopped = ap (λ (n : ℕ). eqb n 0) fill.next ∙ not-true (eqb t.next 0) (and_true _ _ on).0

  moved : (k : ℕ) → 0 < k → goes u.ended (take u.have after) (length lines) (start u.next) ≡ true → 0 < (steps u.ended (take u.have after) k first).place.at
  moved zero h g = absurd (omega arith)
  moved (suc k) h g = steps_move u.ended (take u.have after) k first g

  -- where a piece can be taken, one is, and fewer bytes are at hand
  takes_one : ready u.ended (take u.have after) ≡ true → v.have < u.have
  unfolding goes
  takes_one r =
      let g : goes u.ended (take u.have after) (length lines) (start u.next) ≡ true = rw (not_stopped, le-leb line_length (length lines) room, r) in
      let some = ready_some u.ended (take u.have after) r in
      let m : 0 < place.at = subst (λ (s : Standing). 0 < s.place.at) (sym steps-made) (moved (length (take u.have after)) some g) in
      omega (arith, m, some, length-take u.have after, keeps.have)

  no_more : v.have ≤ t.have + length fill.read
  no_more =
      let l = ap length fill.hand ∙ length-append (take t.have before) fill.read in
      omega (arith, l, length-take u.have after, length-take t.have before, fill.within, keeps.have)

  progress : (0 < length fill.read) ⊎ (((t.ended ≡ false) × (v.ended ≡ true)) ⊎ (v.have < t.have))
  progress = by t.ended (known (take t.have before)) refl refl
    where
      -- the input has ended: what is left of it is taken
      at_end : t.ended ≡ true → (z : Bool) → ltb 0 (length (take u.have after)) ≡ z → v.have < t.have
      at_end e true z = let m = takes_one (rw (stays_ended e) z) in let i = (fill.idle (rw e)).1.1 in omega (arith, m, i)
      at_end e false z =
          let some = ltb-true 0 t.have (subst (λ (b : Bool). (not b || ltb 0 t.have) ≡ true) e (and_true (not (eqb t.next 0)) (not t.ended || ltb 0 t.have) on).1) in
          let l = ltb-false 0 (length (take u.have after)) z in
          omega (arith, some, l, length-take u.have after, fill.within, keeps.have)

      -- a piece is known: it is taken
      at_hand : t.ended ≡ false → known (take t.have before) ≡ true → v.have < t.have
      at_hand e k =
          let i = fill.idle (rw (e, k)) in
          let h : take u.have after ≡ take t.have before = fill.hand ∙ (ap (λ (l : List ℕ). take t.have before ++ l) i.0 ∙ append-nil (take t.have before)) in
          let m = takes_one (rw (i.1.0 ∙ e) (ap known h ∙ k)) in
          omega (arith, m, i.1.1)

      -- more is read, or nothing is left to read
      reading : t.ended ≡ false → known (take t.have before) ≡ false → (z : Bool) → eqb (length fill.read) 0 ≡ z
          → (0 < length fill.read) ⊎ (((t.ended ≡ false) × (v.ended ≡ true)) ⊎ (v.have < t.have))
      reading e k true z = inr (inl (e, keeps.ended ∙ (fill.reads (rw (e, k)) ∙ z)))
      reading e k false z = inl (let n = eqb-false (length fill.read) 0 z in omega (arith, n))

      by : (a b : Bool) → t.ended ≡ a → known (take t.have before) ≡ b → (0 < length fill.read) ⊎ (((t.ended ≡ false) × (v.ended ≡ true)) ⊎ (v.have < t.have))
      by true b e k = inr (inr (at_end e (ltb 0 (length (take u.have after))) refl))
      by false true e k = inr (inr (at_hand e k))
      by false false e k = reading e k (eqb (length fill.read) 0) refl

  pub turn_went : Went (between p o before lines t) (between q o' kept lines' v)
  turn_went =
      record {
        read = fill.read;
        lines = (run (ran_from first) stepped.taken).lines;
        ended = λ e. keeps.ended ∙ stays_ended e;
        none = λ e. none_read (sym keeps.ended ∙ e);
        same = same_run;
        given = stepped.holds.lines;
        most = no_more;
        gets_on = progress;
      }

-- the steps over the bytes at hand
pub known_steps : {c : Counters} {m : List ℕ} {s : List Block} {o' lines' input : List ℕ} {r first : Place} (t : Turn) (buffer : List ℕ) (p : Replica) (o lines : List ℕ)
    → input ≡ part buffer 0 t.have → first ≡ start t.next → standing (lent_to c m s) o' lines' r ≡ steps t.ended input (length input) (standing p o lines first)
    → standing (lent_to c m s) o' lines' r ≡ steps t.ended (take t.have buffer) (length (take t.have buffer)) (standing p o lines (start t.next))
unfolding part
known_steps {first = first} t buffer p o lines e f is =
    is
    ∙ (ap (λ (l : List ℕ). steps t.ended l (length l) (standing p o lines first)) e
    ∙ ap (λ (z : Place). steps t.ended (take t.have buffer) (length (take t.have buffer)) (standing p o lines z)) f)

-- ---- turns one after another
-- once the program is over, no turn is made
over_stays : {k : ℕ} {x z : Between} → goes_on x.turn ≡ false → Turns k x z → z ≡ x
over_stays n (spent x) = refl
over_stays n (done k x m) = refl
over_stays n (turn k x y z g w t) = absurd (true≢false (sym g ∙ n))

turns_add : {j k : ℕ} {x y z : Between} → Turns j x y → Turns k y z → Turns (j + k) x z
turns_add {k = k} {z = z} (spent x) t = subst (λ (n : ℕ). Turns n x z) (sym (zero-add k)) t
turns_add {k = k} (done j x n) t = subst (Turns (j + k) x) (sym (over_stays n t)) (done (j + k) x n)
turns_add {k = k} {z = z} (turn j x y w g W s) t = subst (λ (n : ℕ). Turns n x z) (sym (suc-add j k)) (turn (j + k) x y z g W (turns_add s t))

-- one more, and no more
pub one_more : {k : ℕ} {x y z : Between} → Turns k x y → goes_on y.turn ≡ true → Went y z → Turns (k + 1) x z
one_more {y = y} {z = z} t g w = turns_add t (turn 0 y z z g w (spent z))

pub no_more_turns : {k : ℕ} {x y : Between} (most : ℕ) → Turns k x y → k ≤ most → goes_on y.turn ≡ false → Turns most x y
no_more_turns {k = k} {x = x} {y = y} most t h n =
    let e : k + (most - k) ≡ most = omega arith in subst (λ (j : ℕ). Turns j x y) e (turns_add t (done (most - k) y n))

pub all_turns : {k : ℕ} {x y : Between} (most : ℕ) → Turns k x y → k ≡ most → Turns most x y
all_turns {x = x} {y = y} most t e = subst (λ (j : ℕ). Turns j x y) e t

-- ---- the whole program
pub program_went : {buffer buffer₁ : List ℕ} {o : Option Opening} {c₀ c₁ c₂ : Counters} {m₁ m₂ : List ℕ} {s₂ : List Block} {o₂ l₁ l₂ : List ℕ} {a : ℕ} {place : Place} {t t₂ : Turn}
    (m : List ℕ) (s : List Block) (out l last-buffer : List ℕ) → FirstRead buffer o → largest ≤ length buffer → buffer₁ ≡ patch buffer 0 (in_turn largest) → c₀ ≡ opened
    → after_answer a (lent_to c₁ m₁ s) [] ≡ opens_with (part buffer₁ 0) (lent_to c₀ m s) o
    → (place ≡ cond (eqb a 0) (start 1) stopped) × (l₁ ≡ cond (eqb a 0) l (patch l 0 (line_bytes refused_opening))) → t ≡ record { have = 0; ended = false; next = place.next }
    → Turns (2 ^ 64 - 1) (between (lent_to c₁ m₁ s) out buffer₁ l₁ t) (between (lent_to c₂ m₂ s₂) o₂ last-buffer l₂ t₂) → Program (2 ^ 64 - 1) m s out l m₂ s₂ o₂ l₂ t₂
unfolding begun lines_bytes
program_went {buffer} {buffer₁} {o} {c₀} {c₁} {c₂} {m₁} {m₂} {s₂} {o₂} {l₁} {l₂} {a} {place} {t} {t₂} m s out l last-buffer f fits put e₀ e₁ e₂ e₃ turns =
    record {
      first = take f.got buffer;
      short = omega (arith, length-take f.got buffer, f.most);
      counters = c₂;
      buffer = last-buffer;
      went = subst (λ (x : Between). Turns (2 ^ 64 - 1) x (between (lent_to c₂ m₂ s₂) o₂ last-buffer l₂ t₂))
          (begins ∙ ap (λ (x : Answered). first_turn (begun x out) (patch l 0 (lines_bytes (begun x out).lines))) opened_as_lem) turns;
    }
  where
    opened_as_lem : after_answer a (lent_to c₁ m₁ s) [] ≡ opens (lent_to opened m s) (opening_of (take f.got buffer))
    opened_as_lem = e₁ ∙ (opens-in_turn buffer buffer₁ fits put (lent_to c₀ m s) o ∙ (ap (λ (c : Counters). opens (lent_to c m s) o) e₀ ∙ ap (opens (lent_to opened m s)) f.is))

    by : (z : Bool)
        → ◌≡◌ {A = Between}
        (record { replica = lent_to c₁ m₁ s; output = out; hand = []; region = cond z l (patch l 0 (line_bytes refused_opening)); turn = record { have = 0; ended = false; next = (cond z (start 1) stopped).next } })
        (let b = cond z (record { replica = lent_to c₁ m₁ s; output = out; lines = []; next = 1 }) (record { replica = lent_to c₁ m₁ s; output = out; lines = refused_opening ∷ []; next = 0 }) in
        first_turn b (patch l 0 (lines_bytes b.lines)))
    by true = ap (λ (r : List ℕ). record { replica = lent_to c₁ m₁ s; output = out; hand = []; region = r; turn = record { have = 0; ended = false; next = 1 } }) (sym (patch_nil l 0))
    by false =
        ap (λ (r : List ℕ). record { replica = lent_to c₁ m₁ s; output = out; hand = []; region = patch l 0 r; turn = record { have = 0; ended = false; next = 0 } }) (sym (append-nil (line_bytes refused_opening)))

    begins : between (lent_to c₁ m₁ s) out buffer₁ l₁ t ≡ first_turn (begun (after_answer a (lent_to c₁ m₁ s) []) out) (patch l 0 (lines_bytes (begun (after_answer a (lent_to c₁ m₁ s) []) out).lines))
    begins =
        ap (λ (r : List ℕ). between (lent_to c₁ m₁ s) out buffer₁ r t) e₂.1
        ∙ (ap (between (lent_to c₁ m₁ s) out buffer₁ (cond (eqb a 0) l (patch l 0 (line_bytes refused_opening)))) (e₃ ∙ ap (λ (p : Place). record { have = 0; ended = false; next = p.next }) e₂.0) ∙ by (eqb a 0))

pub with_empty_store : {m o l m' o' l' : List ℕ} {s' : List Block} {t : Turn}
    → Program (2 ^ 64 - 1) m (replicate store_length empty_block) o l m' s' o' l' t → ProgramWithStore (2 ^ 64 - 1) m o l m' o' l' t
with_empty_store {s' = s'} p = record { store = s'; program = p }

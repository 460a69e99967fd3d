-- The steps over bytes at hand are the run over the pieces that these are cut into; and over a whole input, the run over all its pieces. Assumes nothing.
use Prim.Native.Nat.{ℕ, zero, suc, ◌+◌, ◌*◌, ◌≤◌, ◌<◌}
use mathlib.Core.Bool.{Bool, true, false, cond, not, ◌&&◌, true≢false}
use mathlib.Core.List.{List, [], ◌∷◌, ◌++◌, append-nil, append_assoc}
use mathlib.Core.Logic.{◌⊎◌, inl, inr}
use mathlib.Core.Path.{◌≡◌, refl, sym, ap, subst, ◌∙◌}
use native.Mathlib.Nat.{suc-add, zero-add, le_refl}
use native.Mathlib.Omega.{arith}
use lib.Dec.{eqb, leb, ltb}
use lib.ListN.{length, drop, length-append, length-drop}
use lib.Seq.{drop-drop}
use borrow.Author.Tests.{eqb-true, eq-eqb, leb-false, ltb-true, ltb-false}
use Rattle.codec.specs.Bytes.{patch}
use Rattle.codec.proofs.Laws.{patch_append, length-patch}
use Rattle.codec.proofs.Le.{length-le_bytes}
use Rattle.protocol.specs.Calls.{Replica}
use Rattle.protocol.specs.Listing.{Line, line_of}
use Rattle.replay.specs.Input.{Piece, broken, front, used, pieces, asks}
use Rattle.replay.specs.Lines.{next_call, line_length, line_bytes, lines_bytes}
use Rattle.replay.specs.Replay.{Answered, answered, Ran, taken, run, followed_by, Standing, standing, start, behind, with_line, goes, step, steps}
use Rattle.replay.specs.Cuts.{Cuts, none, more}
use Rattle.replay.proofs.Laws.{Goes, going, ready_some}
use Rattle.replay.proofs.Cutting.{used_some, pieces_empty, pieces_step, cuts_true, cuts_false, Stops}

-- ---- a run over pieces
-- once it has stopped, nothing changes
taken_stopped : (s : Ran) (p : Piece) → s.next ≡ 0 → taken s p ≡ s
unfolding taken
taken_stopped s p z = rw (eq-eqb s.next 0 z)

pub run_stopped : (s : Ran) (ps : List Piece) → s.next ≡ 0 → run s ps ≡ s
unfolding run
run_stopped s [] z = refl
run_stopped s (p ∷ ps) z = ap (λ (x : Ran). run x ps) (taken_stopped s p z) ∙ run_stopped s ps z

pub run_append : (s : Ran) (ps qs : List Piece) → run s (ps ++ qs) ≡ run (run s ps) qs
unfolding run
run_append s [] qs = refl
run_append s (p ∷ ps) qs = run_append (taken s p) ps qs

-- a piece that is no record stops it
pub broken_stops : (s : Ran) → (taken s broken).next ≡ 0
unfolding taken answered next_call
broken_stops s = by (eqb s.next 0) refl
  where
    x : Answered
    x = answered s.replica s.output (asks broken)

    by : (t : Bool) → eqb s.next 0 ≡ t
        → ◌≡◌ {A = ℕ} (cond t s (record { replica = x.replica; output = x.output; lines = s.lines ++ (line_of s.next x.answer x.replica.counters ∷ []); next = next_call s.next x.answer })).next 0
    by true e = eqb-true s.next 0 e
    by false e = refl

run_stops : (s : Ran) (ps : List Piece) → Stops ps → (run s ps).next ≡ 0
unfolding run
run_stops s ps t =
    ap (λ (qs : List Piece). (run s qs).next) t.last ∙ ap (λ (x : Ran). x.next) (run_append s t.before (broken ∷ [])) ∙ broken_stops (run s t.before)

-- pieces that were taken, and those of what is left
pub run_ended : {b rest : List ℕ} {ps : List Piece} → Cuts true b ps rest → (s : Ran) → run s (pieces b) ≡ run (run s ps) (pieces rest)
run_ended {rest = rest} {ps = ps} t s = ap (λ (qs : List Piece). run s qs) (cuts_true t) ∙ run_append s ps (pieces rest)

pub run_known : {b rest : List ℕ} {ps : List Piece} → Cuts false b ps rest → (c : List ℕ) (s : Ran) → run s (pieces (b ++ c)) ≡ run (run s ps) (pieces (rest ++ c))
run_known {b = b} {rest = rest} {ps = ps} t c s = by (cuts_false t c)
  where
    by : (pieces (b ++ c) ≡ ps ++ pieces (rest ++ c)) ⊎ ((pieces (b ++ c) ≡ ps) × Stops ps) → run s (pieces (b ++ c)) ≡ run (run s ps) (pieces (rest ++ c))
    by (inl e) = ap (λ (qs : List Piece). run s qs) e ∙ run_append s ps (pieces (rest ++ c))
    by (inr e) = ap (λ (qs : List Piece). run s qs) e.0 ∙ sym (run_stopped (run s ps) (pieces (rest ++ c)) (run_stops s ps e.1))

-- of bytes at hand, whatever stands behind them: nothing does where the input has ended
run_cuts : (ended : Bool) {b rest : List ℕ} {ps : List Piece} → Cuts ended b ps rest → (c : List ℕ) → (ended ≡ true → c ≡ []) → (s : Ran)
    → run s (pieces (b ++ c)) ≡ run (run s ps) (pieces (rest ++ c))
run_cuts true {b} {rest} {ps} t c nothing s = rw (nothing refl, append-nil b, append-nil rest) (run_ended t s)
run_cuts false t c nothing s = run_known t c s

-- lines that stood before stay in front, and change nothing else
taken_after : (ls : List Line) (s : Ran) (p : Piece) → taken (followed_by ls s) p ≡ followed_by ls (taken s p)
unfolding taken
taken_after ls s p = by (eqb s.next 0)
  where
    x : Answered
    x = answered s.replica s.output (asks p)

    l : List Line
    l = line_of s.next x.answer x.replica.counters ∷ []

    by : (t : Bool)
        → cond t (followed_by ls s) (record { replica = x.replica; output = x.output; lines = (ls ++ s.lines) ++ l; next = next_call s.next x.answer })
        ≡ followed_by ls (cond t s (record { replica = x.replica; output = x.output; lines = s.lines ++ l; next = next_call s.next x.answer }))
    by true = refl
    by false = λ i. record { replica = x.replica; output = x.output; lines = append_assoc ls s.lines l i; next = next_call s.next x.answer }

pub run_after : (ls : List Line) (s : Ran) (ps : List Piece) → run (followed_by ls s) ps ≡ followed_by ls (run s ps)
unfolding run
run_after ls s [] = refl
run_after ls s (p ∷ ps) = ap (λ (x : Ran). run x ps) (taken_after ls s p) ∙ run_after ls (taken s p) ps

-- ---- the bytes of a line
length_line : (l : Line) → length (line_bytes l) ≡ line_length
unfolding line_bytes
length_line l = simp (length-append, length-le_bytes)

-- ---- steps over bytes at hand
-- the run from what stands, with no line yet
abbrev pub ran_from : Standing → Ran
ran_from s = record { replica = s.replica; output = s.output; lines = []; next = s.place.next }

-- what stands after s is what a run left, with its lines in the region behind those of s
pub record Holds (s : Standing) (R : Ran) (s' : Standing) : Type 0 where
  pub replica : s'.replica ≡ R.replica
  pub output : s'.output ≡ R.output
  pub next : s'.place.next ≡ R.next
  pub lines : s'.lines ≡ patch s.lines s.place.filled (lines_bytes R.lines)
  pub filled : s'.place.filled ≡ s.place.filled + line_length * length R.lines

-- the bytes from its place on
abbrev pub rest : List ℕ → Standing → List ℕ
rest input s = drop s.place.at input

module _ (ended : Bool) (input : List ℕ) where
  -- between the two, the first pieces were taken, as a run takes them
  pub record Stepped (s s' : Standing) : Type 0 where
    pub taken : List Piece
    pub cuts : Cuts ended (rest input s) taken (rest input s')
    pub holds : Holds s (run (ran_from s) taken) s'

  -- one step, by whether a piece is taken
  abbrev answer : Standing → Answered
  answer s = answered s.replica s.output (asks (front (rest input s)))

  abbrev next_standing : Standing → Standing
  next_standing s =
      standing (answer s).replica (answer s).output (with_line s.lines s.place (answer s).answer (answer s).replica.counters)
      (behind s.place (used (rest input s)) (answer s).answer)

  step-goes : (s : Standing) → goes ended input (length s.lines) s.place ≡ true → step ended input s ≡ next_standing s
  unfolding step
  step-goes s g = rw g

  pub step_ends : (s : Standing) → goes ended input (length s.lines) s.place ≡ false → step ended input s ≡ s
  unfolding step
  step_ends s g = rw g

  -- more steps
  pub steps_end : (k : ℕ) (s : Standing) → goes ended input (length s.lines) s.place ≡ false → steps ended input k s ≡ s
  unfolding steps
  steps_end zero s g = refl
  steps_end (suc k) s g = ap (λ (x : Standing). steps ended input k x) (step_ends s g) ∙ steps_end k s g

  pub steps_add : (j k : ℕ) (s : Standing) → steps ended input (j + k) s ≡ steps ended input k (steps ended input j s)
  unfolding steps
  steps_add zero k s = rw (zero-add k)
  steps_add (suc j) k s = rw (suc-add j k) (steps_add j k (step ended input s))

  -- the place only grows, and where a piece is to be taken it does
  step_moves : (s : Standing) → goes ended input (length s.lines) s.place ≡ true → s.place.at < (step ended input s).place.at
  step_moves s g = rw (step-goes s g) (let u = used_some (rest input s) (ready_some ended (rest input s) (going ended input (length s.lines) s.place g).piece) in omega (arith, u))

  step_grows : (s : Standing) → s.place.at ≤ (step ended input s).place.at
  step_grows s = by (goes ended input (length s.lines) s.place) refl
    where
      by : (t : Bool) → goes ended input (length s.lines) s.place ≡ t → s.place.at ≤ (step ended input s).place.at
      by true g = let m = step_moves s g in omega (arith, m)
      by false g = rw (step_ends s g) (le_refl s.place.at)

  steps_grow : (k : ℕ) (s : Standing) → s.place.at ≤ (steps ended input k s).place.at
  unfolding steps
  steps_grow zero s = le_refl s.place.at
  steps_grow (suc k) s = let a = step_grows s in let b = steps_grow k (step ended input s) in omega (arith, a, b)

  pub steps_move : (k : ℕ) (s : Standing) → goes ended input (length s.lines) s.place ≡ true → s.place.at < (steps ended input (suc k) s).place.at
  unfolding steps
  steps_move k s g = let a = step_moves s g in let b = steps_grow k (step ended input s) in omega (arith, a, b)

  -- a step in front
  stepped_front : (s s' : Standing) → Goes ended input (length s.lines) s.place → Stepped (next_standing s) s' → Stepped s s'
  unfolding lines_bytes run taken
  stepped_front s s' g t =
      let p : Piece = front (rest input s) in
      let l : Line = line_of s.place.next (answer s).answer (answer s).replica.counters in
      let ps : List Piece = t.taken in
      let R : Ran = run (ran_from (next_standing s)) ps in
      let e : run (ran_from s) (p ∷ ps) ≡ followed_by (l ∷ []) R = rw g.running (run_after (l ∷ []) (ran_from (next_standing s)) ps) in
      let h = t.holds in
      let f = h.filled in
      record {
        taken = p ∷ ps;
        cuts = more (rest input s) (rest input s') ps g.piece (rw (drop-drop (used (rest input s)) s.place.at input) t.cuts);
        holds = rw e (record {
          replica = h.replica;
          output = h.output;
          next = h.next;
          lines = h.lines ∙ sym (patch_append s.lines s.place.filled (line_bytes l) (lines_bytes R.lines) ∙ rw (length_line l));
          filled = omega arith;
        });
      }

  -- THE STEPS ARE THE RUN over the pieces that were taken
  pub steps_are_run : (k : ℕ) (s : Standing) → Stepped s (steps ended input k s)
  unfolding steps run lines_bytes patch
  steps_are_run zero s = record {
    taken = [];
    cuts = none (rest input s);
    holds = record { replica = refl; output = refl; next = refl; lines = refl; filled = omega arith };
  }
  steps_are_run (suc k) s = by (goes ended input (length s.lines) s.place) refl (steps_are_run k (step ended input s)) (steps_are_run k s)
    where
      by : (t : Bool) → goes ended input (length s.lines) s.place ≡ t
          → Stepped (step ended input s) (steps ended input k (step ended input s)) → Stepped s (steps ended input k s) → Stepped s (steps ended input k (step ended input s))
      by true g t u = stepped_front s (steps ended input k (step ended input s)) (going ended input (length s.lines) s.place g) (subst (λ (x : Standing). Stepped x (steps ended input k (step ended input s))) (step-goes s g) t)
      by false g t u = rw (step_ends s g) u

  -- nothing is taken where no byte is left
  pub nothing_goes : (s : Standing) → length (rest input s) ≡ 0 → goes ended input (length s.lines) s.place ≡ false
  nothing_goes s z = by (goes ended input (length s.lines) s.place) refl
    where
      by : (t : Bool) → goes ended input (length s.lines) s.place ≡ t → t ≡ false
      by true g = absurd (let h = ready_some ended (rest input s) (going ended input (length s.lines) s.place g).piece in omega (arith, h, z))
      by false g = refl

  pub step_less : (s : Standing) → goes ended input (length s.lines) s.place ≡ true → length (rest input (step ended input s)) < length (rest input s)
  step_less s g =
      let m = step_moves s g in
      let h = ready_some ended (rest input s) (going ended input (length s.lines) s.place g).piece in
      let l = length-drop s.place.at input in
      let n = length-drop (step ended input s).place.at input in
      omega (arith, m, h, l, n)

  -- as many steps as bytes are left, or more, leave the same
  pub steps_settle : (j k : ℕ) (s : Standing) → length (rest input s) ≤ j → length (rest input s) ≤ k → steps ended input j s ≡ steps ended input k s
  unfolding steps
  steps_settle zero zero s a b = refl
  steps_settle zero (suc k) s a b = sym (steps_end (suc k) s (nothing_goes s (omega arith)))
  steps_settle (suc j) zero s a b = steps_end (suc j) s (nothing_goes s (omega arith))
  steps_settle (suc j) (suc k) s a b = by (goes ended input (length s.lines) s.place) refl (steps_settle j k (step ended input s))
    where
      by : (t : Bool) → goes ended input (length s.lines) s.place ≡ t
          → (length (rest input (step ended input s)) ≤ j → length (rest input (step ended input s)) ≤ k → steps ended input j (step ended input s) ≡ steps ended input k (step ended input s))
          → steps ended input j (step ended input s) ≡ steps ended input k (step ended input s)
      by true g f = let m = step_less s g in f (omega arith) (omega arith)
      by false g f = rw (step_ends s g) (steps_end j s g ∙ sym (steps_end k s g))

-- ---- a whole input
module _ (input : List ℕ) where
  -- with a turn for each byte and room for each line, the steps end where the program has stopped or nothing is left
  abbrev Ended : Standing → Type 0
  Ended s = (s.place.next ≡ 0) ⊎ (length (rest input s) ≡ 0)

  ends_at : (s : Standing) → goes true input (length s.lines) s.place ≡ false → s.place.filled + line_length * length (pieces (rest input s)) ≤ length s.lines → Ended s
  unfolding goes
  ends_at s g m = by (eqb s.place.next 0) (leb (s.place.filled + line_length) (length s.lines)) (ltb 0 (length (rest input s))) refl refl refl g
    where
      by : (x y z : Bool) → eqb s.place.next 0 ≡ x → leb (s.place.filled + line_length) (length s.lines) ≡ y → ltb 0 (length (rest input s)) ≡ z
          → (not x && (y && z)) ≡ false → Ended s
      by true y z e f h g = inl (eqb-true s.place.next 0 e)
      by false true true e f h g = absurd (true≢false g)
      by false true false e f h g = let l = ltb-false 0 (length (rest input s)) h in inr (omega arith)
      by false false false e f h g = let l = ltb-false 0 (length (rest input s)) h in inr (omega arith)
      by false false true e f h g =
          let l = leb-false (s.place.filled + line_length) (length s.lines) f in
          let c = ap length (pieces_step (rest input s) (ltb-true 0 (length (rest input s)) h)) in
          absurd (omega arith)

  steps_done : (k : ℕ) (s : Standing) → length (rest input s) ≤ k → s.place.filled + line_length * length (pieces (rest input s)) ≤ length s.lines → Ended (steps true input k s)
  unfolding steps
  steps_done zero s h m = inr (omega arith)
  steps_done (suc k) s h m = by (goes true input (length s.lines) s.place) refl (steps_done k (step true input s))
    where
      by : (t : Bool) → goes true input (length s.lines) s.place ≡ t
          → (length (rest input (step true input s)) ≤ k → (step true input s).place.filled + line_length * length (pieces (rest input (step true input s))) ≤ length (step true input s).lines → Ended (steps true input k (step true input s)))
          → Ended (steps true input k (step true input s))
      by true g f =
          let some = ltb-true 0 (length (rest input s)) (going true input (length s.lines) s.place g).piece in
          let u = used_some (rest input s) some in
          let d = drop-drop (used (rest input s)) s.place.at input in
          let c = ap length (pieces_step (rest input s) some) in
          let n = length-drop (used (rest input s)) (rest input s) in
          f
          (rw (step-goes true input s g, ← d) (omega arith))
          (rw (step-goes true input s g, ← d, length-patch) (omega arith))
      by false g f = rw (step_ends true input s g, steps_end true input k s g) (ends_at s g m)

  -- from any place on: the run over all pieces that are left
  pub steps_whole : (k : ℕ) (s : Standing) → length (rest input s) ≤ k → s.place.filled + line_length * length (pieces (rest input s)) ≤ length s.lines
      → Holds s (run (ran_from s) (pieces (rest input s))) (steps true input k s)
  unfolding run
  steps_whole k s h m = rw (run_ended t.cuts (ran_from s) ∙ by (steps_done k s h m)) t.holds
    where
      t : Stepped true input s (steps true input k s)
      t = steps_are_run true input k s

      R : Ran
      R = run (ran_from s) t.taken

      by : Ended (steps true input k s) → run R (pieces (rest input (steps true input k s))) ≡ R
      by (inl z) = run_stopped R (pieces (rest input (steps true input k s))) (sym t.holds.next ∙ z)
      by (inr z) = ap (λ (ps : List Piece). run R ps) (pieces_empty (rest input (steps true input k s)) z)

-- THE THEOREM: from the input's first byte on, with an empty region of lines
pub record WholeRun (region : List ℕ) (R : Ran) (s' : Standing) : Type 0 where
  pub replica : s'.replica ≡ R.replica
  pub output : s'.output ≡ R.output
  pub next : s'.place.next ≡ R.next
  pub lines : s'.lines ≡ patch region 0 (lines_bytes R.lines)
  pub filled : s'.place.filled ≡ line_length * length R.lines

pub whole_input : (r : Replica) (o lines input : List ℕ) (next k : ℕ) → length input ≤ k → line_length * length (pieces input) ≤ length lines
    → WholeRun lines (run (record { replica = r; output = o; lines = []; next = next }) (pieces input)) (steps true input k (standing r o lines (start next)))
whole_input r o lines input next k h m =
    let x = steps_whole input k (standing r o lines (start next)) h (omega arith) in
    record { replica = x.replica; output = x.output; next = x.next; lines = x.lines; filled = x.filled ∙ zero-add _ }

-- ---- an input of which more follows: what was taken of the bytes at hand, and then the run over what is left of them and what follows
holds_after : (s s' : Standing) (R : Ran) → Holds s R s' → R ≡ followed_by R.lines (ran_from s')
holds_after s s' R h = λ i. record { replica = sym h.replica i; output = sym h.output i; lines = sym (append-nil R.lines) i; next = sym h.next i }

pub run_goes_on : (ended : Bool) (input c : List ℕ) → (ended ≡ true → c ≡ []) → (s s' : Standing) (t : Stepped ended input s s')
    → run (ran_from s) (pieces (rest input s ++ c)) ≡ followed_by (run (ran_from s) t.taken).lines (run (ran_from s') (pieces (rest input s' ++ c)))
run_goes_on ended input c nothing s s' t =
    let R : Ran = run (ran_from s) t.taken in
    let qs : List Piece = pieces (rest input s' ++ c) in
    run_cuts ended t.cuts c nothing (ran_from s) ∙ ap (λ (x : Ran). run x qs) (holds_after s s' R t.holds) ∙ run_after R.lines (ran_from s') qs

-- How bytes are cut into pieces: one after another, whatever bytes stand behind a piece that is known, and joined records into these records. Assumes nothing.
use Prim.Native.Nat.{ℕ, zero, suc, ◌≤◌, ◌<◌}
use mathlib.Core.Bool.{Bool, true, false, cond, not, ◌&&◌, ◌||◌, true≢false}
use mathlib.Core.List.{List, [], ◌∷◌, ◌++◌, map}
use mathlib.Core.Logic.{◌⊎◌, inl, inr}
use mathlib.Core.Path.{◌≡◌, refl, sym, ap, ◌∙◌}
use native.Mathlib.Nat.{le_refl}
use native.Mathlib.Omega.{arith}
use lib.Dec.{leb}
use lib.ListN.{length, take, drop, length-append, length-drop}
use lib.Seq.{length-take-le, take-append-le, drop-append-le, take_all, drop-length}
use borrow.Author.Tests.{leb-true, ltb-true, le-leb}
use Rattle.codec.specs.Bytes.{part, le_nat}
use Rattle.codec.proofs.Order.{and_true}
use Rattle.wire.specs.Fields.{header_length, length_of}
use Rattle.wire.specs.Encode.{joined}
use Rattle.wire.specs.Fit.{All}
use Rattle.refusals.proofs.Numbers.{and_both}
use Rattle.replay.specs.Input.{sized, longest_record, Piece, whole, broken, begins_whole, front, used, cut, pieces}
use Rattle.replay.specs.Replay.{known}
use Rattle.replay.specs.Cuts.{Cuts, none, more, IsRecord}

-- ---- what it is that bytes begin with a record
pub record Begins (b : List ℕ) : Type 0 where
  pub header : header_length ≤ length b
  pub size : sized (length_of b) ≡ true
  pub least : header_length ≤ length_of b
  pub there : length_of b ≤ length b

pub sized_least : (n : ℕ) → sized n ≡ true → header_length ≤ n
sized_least n e = leb-true header_length n (and_true (leb header_length n) (leb n longest_record) e).0

pub begins : (b : List ℕ) → begins_whole b ≡ true → Begins b
unfolding begins_whole
begins b e =
    let x = and_true (leb header_length (length b)) (sized (length_of b) && leb (length_of b) (length b)) e in
    let y = and_true (sized (length_of b)) (leb (length_of b) (length b)) x.1 in
    record {
      header = leb-true header_length (length b) x.0;
      size = y.0;
      least = sized_least (length_of b) y.0;
      there = leb-true (length_of b) (length b) y.1;
    }

pub begins_whole_lem : (b : List ℕ) → header_length ≤ length b → sized (length_of b) ≡ true → length_of b ≤ length b → begins_whole b ≡ true
unfolding begins_whole
begins_whole_lem b h s l = and_both _ _ (le-leb header_length (length b) h) (and_both _ _ s (le-leb (length_of b) (length b) l))

-- ---- the first piece, by that test
module _ (b : List ℕ) where
  pub front-whole : begins_whole b ≡ true → front b ≡ whole (take (length_of b) b)
  unfolding front
  front-whole e = rw e

  pub front-broken : begins_whole b ≡ false → front b ≡ broken
  unfolding front
  front-broken e = rw e

  pub used_whole : begins_whole b ≡ true → used b ≡ length_of b
  unfolding used
  used_whole e = rw e

  pub used_broken : begins_whole b ≡ false → used b ≡ length b
  unfolding used
  used_broken e = rw e

  pub used_within : used b ≤ length b
  unfolding used
  used_within = by (begins_whole b) refl
    where
      by : (t : Bool) → begins_whole b ≡ t → cond t (length_of b) (length b) ≤ length b
      by true e = (begins b e).there
      by false e = le_refl (length b)

  pub used_some : 0 < length b → 0 < used b
  unfolding used
  used_some h = by (begins_whole b) refl
    where
      by : (t : Bool) → begins_whole b ≡ t → 0 < cond t (length_of b) (length b)
      by true e = let x = begins b e in omega arith
      by false e = h

  -- by the piece
  pub whole_front : (r : List ℕ) → whole r ≡ front b → (used b ≡ length r) × (header_length ≤ length r)
  whole_front r e = by (begins_whole b) refl
    where
      by : (t : Bool) → begins_whole b ≡ t → (used b ≡ length r) × (header_length ≤ length r)
      by true t =
          let x = begins b t in
          let f : whole r ≡ whole (take (length_of b) b) = e ∙ front-whole t in
          let same : r ≡ take (length_of b) b = cc in
          let l : length r ≡ length_of b = ap length same ∙ length-take-le (length_of b) b x.there in
          (used_whole t ∙ sym l, omega (arith, l, x.least))
      by false t = let f : whole r ≡ broken = e ∙ front-broken t in cc

  pub broken_front : broken ≡ front b → used b ≡ length b
  broken_front e = by (begins_whole b) refl
    where
      by : (t : Bool) → begins_whole b ≡ t → used b ≡ length b
      by true t = let f : broken ≡ whole (take (length_of b) b) = e ∙ front-whole t in cc
      by false t = used_broken t

-- ---- all pieces: more turns than bytes change nothing
cut_same : (k j : ℕ) (b : List ℕ) → length b ≤ k → length b ≤ j → cut k b ≡ cut j b
unfolding cut
cut_same zero zero b h l = refl
cut_same zero (suc j) [] h l = refl
cut_same zero (suc j) (x ∷ b) h l = absurd (omega arith)
cut_same (suc k) zero [] h l = refl
cut_same (suc k) zero (x ∷ b) h l = absurd (omega arith)
cut_same (suc k) (suc j) [] h l = refl
cut_same (suc k) (suc j) (x ∷ b) h l =
    let s = used_some (x ∷ b) (omega arith) in
    let d = length-drop (used (x ∷ b)) (x ∷ b) in
    ap (λ (ps : List Piece). front (x ∷ b) ∷ ps) (cut_same k j (drop (used (x ∷ b)) (x ∷ b)) (omega arith) (omega arith))

pub cut_more : (k : ℕ) (b : List ℕ) → length b ≤ k → cut k b ≡ pieces b
cut_more k b h = cut_same k (length b) b h (le_refl (length b))

pub pieces_empty : (b : List ℕ) → length b ≡ 0 → pieces b ≡ []
unfolding cut
pieces_empty b z = rw z

pub pieces_none : pieces [] ≡ []
pieces_none = pieces_empty [] refl

pub pieces_step : (b : List ℕ) → 0 < length b → pieces b ≡ front b ∷ pieces (drop (used b) b)
unfolding cut
pieces_step [] h = absurd (omega arith)
pieces_step (x ∷ b) h =
    let s = used_some (x ∷ b) h in
    let d = length-drop (used (x ∷ b)) (x ∷ b) in
    ap (λ (ps : List Piece). front (x ∷ b) ∷ ps) (cut_more (length b) (drop (used (x ∷ b)) (x ∷ b)) (omega arith))

pub pieces-broken : (b : List ℕ) → 0 < length b → begins_whole b ≡ false → pieces b ≡ broken ∷ []
pieces-broken b h e = pieces_step b h ∙ rw (front-broken b e, used_broken b e, drop-length b, pieces_none)

-- ---- bytes behind
pub length_behind : (b c : List ℕ) → header_length ≤ length b → length_of (b ++ c) ≡ length_of b
unfolding part
length_behind b c h = ap le_nat (take-append-le 4 b c (omega arith))

pub whole_behind : (b c : List ℕ) → begins_whole b ≡ true → begins_whole (b ++ c) ≡ true
whole_behind b c e =
    let x = begins b e in
    let l = length-append b c in
    let s = length_behind b c x.header in
    begins_whole_lem (b ++ c) (omega arith) (rw s x.size) (omega arith)

not_whole : (b : List ℕ) → sized (length_of b) ≡ false → begins_whole b ≡ false
not_whole b u = by (begins_whole b) refl
  where
    by : (t : Bool) → begins_whole b ≡ t → begins_whole b ≡ false
    by true e = absurd (true≢false (sym (begins b e).size ∙ u))
    by false e = e

-- a piece that is known: its header is there, and where no record is there, its length is none
pub known_header : (b : List ℕ) → known b ≡ true → header_length ≤ length b
unfolding known
known_header b e = leb-true header_length (length b) (and_true _ _ e).0

pub known_broken : (b : List ℕ) → known b ≡ true → begins_whole b ≡ false → sized (length_of b) ≡ false
unfolding known begins_whole
known_broken b e n = by (leb header_length (length b)) (sized (length_of b)) (leb (length_of b) (length b)) e n
  where
    by : (p s l : Bool) → (p && (not s || l)) ≡ true → (p && (s && l)) ≡ false → s ≡ false
    by true true l e f = absurd (true≢false (sym e ∙ f))
    by true false l e f = refl
    by false s l e f = absurd (true≢false (sym e))

pub broken_behind : (b c : List ℕ) → known b ≡ true → begins_whole b ≡ false → begins_whole (b ++ c) ≡ false
broken_behind b c e n = not_whole (b ++ c) (rw (length_behind b c (known_header b e)) (known_broken b e n))

pub front_behind : (b c : List ℕ) → known b ≡ true → front (b ++ c) ≡ front b
front_behind b c e = by (begins_whole b) refl
  where
    by : (t : Bool) → begins_whole b ≡ t → front (b ++ c) ≡ front b
    by true w =
        let x = begins b w in
        front-whole (b ++ c) (whole_behind b c w)
        ∙ ap whole (ap (λ (n : ℕ). take n (b ++ c)) (length_behind b c x.header) ∙ take-append-le (length_of b) b c x.there)
        ∙ sym (front-whole b w)
    by false n = front-broken (b ++ c) (broken_behind b c e n) ∙ sym (front-broken b n)

pub used_behind : (b c : List ℕ) → begins_whole b ≡ true → used (b ++ c) ≡ used b
used_behind b c w = used_whole (b ++ c) (whole_behind b c w) ∙ length_behind b c (begins b w).header ∙ sym (used_whole b w)

whole_known : (b : List ℕ) → begins_whole b ≡ true → known b ≡ true
unfolding known
whole_known b w = let x = begins b w in and_both _ _ (le-leb header_length (length b) x.header) (rw x.size (le-leb (length_of b) (length b) x.there))

pub pieces_behind : (b c : List ℕ) → begins_whole b ≡ true → pieces (b ++ c) ≡ front b ∷ pieces (drop (used b) b ++ c)
pieces_behind b c w =
    let l = length-append b c in
    let x = begins b w in
    pieces_step (b ++ c) (omega arith)
    ∙ rw (front_behind b c (whole_known b w), used_behind b c w, drop-append-le (used b) b c (used_within b))

-- where it is known and no record, it is the last, whatever stands behind
pub pieces_stop : (b c : List ℕ) → known b ≡ true → begins_whole b ≡ false → pieces (b ++ c) ≡ broken ∷ []
pieces_stop b c e n =
    let l = length-append b c in
    let h = known_header b e in
    pieces-broken (b ++ c) (omega arith) (broken_behind b c e n)

-- ---- pieces that can be taken are the first pieces
pub cuts_true : {b rest : List ℕ} {ps : List Piece} → Cuts true b ps rest → pieces b ≡ ps ++ pieces rest
cuts_true (none b) = refl
cuts_true (more b rest ps h t) = pieces_step b (ltb-true 0 (length b) h) ∙ ap (λ (qs : List Piece). front b ∷ qs) (cuts_true t)

-- of bytes at hand, whatever stands behind them; unless the last piece is no record, which is the input's last then
pub record Stops (ps : List Piece) : Type 0 where
  pub before : List Piece
  pub last : ps ≡ before ++ (broken ∷ [])

cuts_nothing : {b rest : List ℕ} {ps : List Piece} → Cuts false b ps rest → length b ≡ 0 → ps ≡ []
cuts_nothing (none b) z = refl
cuts_nothing (more b rest ps h t) z = let k = known_header b h in absurd (omega arith)

pub cuts_false : {b rest : List ℕ} {ps : List Piece} → Cuts false b ps rest → (c : List ℕ) → (pieces (b ++ c) ≡ ps ++ pieces (rest ++ c)) ⊎ ((pieces (b ++ c) ≡ ps) × Stops ps)
cuts_false (none b) c = inl refl
cuts_false (more b rest ps h t) c = by (begins_whole b) refl (cuts_false t c)
  where
    by : (w : Bool) → begins_whole b ≡ w
        → (pieces (drop (used b) b ++ c) ≡ ps ++ pieces (rest ++ c)) ⊎ ((pieces (drop (used b) b ++ c) ≡ ps) × Stops ps)
        → (pieces (b ++ c) ≡ (front b ∷ ps) ++ pieces (rest ++ c)) ⊎ ((pieces (b ++ c) ≡ front b ∷ ps) × Stops (front b ∷ ps))
    by true w (inl p) = inl (pieces_behind b c w ∙ ap (λ (qs : List Piece). front b ∷ qs) p)
    by true w (inr p) =
        inr (pieces_behind b c w ∙ ap (λ (qs : List Piece). front b ∷ qs) p.0, record { before = front b ∷ p.1.before; last = ap (λ (qs : List Piece). front b ∷ qs) p.1.last })
    by false n p =
        let z : ps ≡ [] = cuts_nothing t (ap length (ap (λ (k : ℕ). drop k b) (used_broken b n) ∙ drop-length b)) in
        let e : front b ∷ ps ≡ broken ∷ [] = rw (front-broken b n, z) in
        inr (pieces_stop b c h n ∙ sym e, record { before = []; last = e })

-- ---- joined records are cut into these records
record_whole : (r : List ℕ) → IsRecord r → begins_whole r ≡ true
record_whole r i =
    let t = i.told in
    begins_whole_lem r (sized_least (length r) i.size) (rw t i.size) (omega arith)

pub records_cut : (rs : List (List ℕ)) → All IsRecord rs → pieces (joined rs) ≡ map whole rs
unfolding joined All
records_cut [] i = pieces_none
records_cut (r ∷ rs) i =
    let w = record_whole r i.0 in
    let t = i.0.told in
    pieces_behind r (joined rs) w
    ∙ rw (front-whole r w, used_whole r w, t, take_all (length r) r (le_refl (length r)), drop-length r, records_cut rs i.1)

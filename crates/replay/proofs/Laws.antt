-- Laws of specs/Input.antt and specs/Replay.antt for the functions by value. Assumes nothing.
use Prim.Native.Nat.{ℕ, ◌+◌, ◌-◌, ◌^◌, ◌≤◌, ◌<◌, min}
use native.Mathlib.Omega.{arith}
use mathlib.Core.Logic.{◌⊎◌, inl, inr}
use Rattle.std.specs.Prelude.{Option, Some, None, Result, Ok, Err, unwrap_or}
use Rattle.std.specs.Result.{IsErr, IsErrAnd}
use Rattle.settings.specs.declared.refusal.Refusal.{Refusal}
use Rattle.settings.specs.Refusal.{number}
use Rattle.std.specs.Borrow.{Bor}
use Rattle.std.specs.Slice.{IsGetRangeResult}
use mathlib.Core.Path.{◌≡◌, refl, sym, ap, ◌∙◌}
use mathlib.Core.Bool.{Bool, true, false, cond, not, ◌&&◌, true≢false}
use mathlib.Core.List.{List, [], ◌++◌}
use borrow.Author.Tests.{ltb-true, ltb-false, leb-true, eqb-true, not-true, lt-leb, le-leb, ne_eqb}
use lib.Dec.{eqb, leb, ltb}
use lib.ListN.{length, take, drop, length-drop, drop_of_length-le}
use lib.Seq.{take_all, take-nil}
use Rattle.codec.specs.Bytes.{part, patch, le_bytes}
use Rattle.codec.proofs.Laws.{part_rest, patch_append}
use Rattle.codec.proofs.Le.{length-le_bytes}
use Rattle.codec.proofs.Order.{and_true}
use Rattle.codec.specs.Names.{name_length}
use Rattle.wire.specs.Fields.{header_length, length_of, kind_of, sender_of, view_of}
use Rattle.protocol.specs.Contents.{none}
use Rattle.protocol.specs.OneCall.{Call, receive, timer, propose}
use Rattle.replay.specs.declared.Ask.{Ask}
use Rattle.replay.specs.declared.Place.{Place}
use Rattle.replay.specs.Input.{timer_kind, timer_length, propose_kind, propose_length, calls, answers, asks_host, asks_record, opening_length, well_formed, sized, whole, broken, begins_whole, front}
use Rattle.protocol.specs.Listing.{line}
use Rattle.replay.specs.Lines.{line_length, line_bytes}
use Rattle.replay.specs.Replay.{known, ready, goes}
use Rattle.replay.specs.Requests.{asked_of, piece_of, told_front, request_at}

-- a well-formed opening is there as a whole
pub well_formed-length : (r : List ℕ) → well_formed r ≡ true → length r ≡ opening_length
unfolding well_formed
well_formed-length r e = eqb-true (length r) opening_length (and_true _ _ e).0

-- what can be taken has a byte
pub ready_some : (ended : Bool) (b : List ℕ) → ready ended b ≡ true → 0 < length b
unfolding known
ready_some true b e = ltb-true 0 (length b) e
ready_some false b e = let h : header_length ≤ length b = leb-true header_length (length b) (and_true _ _ e).0 in omega (arith, h)

pub nothing_ready : (ended : Bool) (b : List ℕ) → length b ≡ 0 → ready ended b ≡ false
nothing_ready ended b e = go (ready ended b) refl
  where
    go : (t : Bool) → ready ended b ≡ t → t ≡ false
    go true p = absurd (let h = ready_some ended b p in omega (arith, h, e))
    go false p = refl

-- what a step asks for
pub record Goes (ended : Bool) (input : List ℕ) (room : ℕ) (p : Place) : Type 0 where
  pub running : eqb p.next 0 ≡ false
  pub fits : p.filled + line_length ≤ room
  pub piece : ready ended (drop p.at input) ≡ true

pub going : (ended : Bool) (input : List ℕ) (room : ℕ) (p : Place) → goes ended input room p ≡ true → Goes ended input room p
unfolding goes
going ended input room p e =
    let h = and_true _ _ e in
    let s = and_true _ _ h.1 in
    record {
      running = not-true (eqb p.next 0) h.0;
      fits = leb-true (p.filled + line_length) room s.0;
      piece = s.1;
    }

-- a part of bytes, as a slice between two places gives it
pub take_from_zero : (n : ℕ) (s : List ℕ) → take (n - 0) s ≡ take n s
take_from_zero n s = ap (λ (k : ℕ). take k s) (let e : n - 0 ≡ n = omega arith in e)

pub part_none : (s : List ℕ) (at n : ℕ) → length s ≤ at → part s at n ≡ []
unfolding part
part_none s at n h = ap (take n) (drop_of_length-le s h) ∙ take-nil n

pub part_all : (s : List ℕ) (at n : ℕ) → length s - at ≤ n → take (length s - at) (drop at s) ≡ part s at n
unfolding part
part_all s at n h = part_rest s at ∙ sym (take_all n (drop at s) (let e = length-drop at s in omega (arith, e, h)))

-- what a record asks, by its kind
module _ (r : List ℕ) where
  pub timer_asks : kind_of r ≡ timer_kind → asks_record r ≡ asks_host r timer_length (timer (view_of r))
  unfolding asks_record
  timer_asks e = rw e

  pub propose_asks : kind_of r ≡ propose_kind → asks_record r ≡ asks_host r propose_length (propose (part r 8 name_length) none)
  unfolding asks_record
  propose_asks e = rw e

  pub record_asks : (kind_of r ≡ timer_kind → ⊥) → (kind_of r ≡ propose_kind → ⊥) → asks_record r ≡ calls (receive r none)
  unfolding asks_record
  record_asks t p = rw (ne_eqb _ _ t, ne_eqb _ _ p)

  pub host_length : (n : ℕ) (c : Call) → calls c ≡ asks_host r n c → length r ≡ n
  host_length n c e = by (eqb (length r) n) refl e
    where
      by : (t : Bool) → eqb (length r) n ≡ t → calls c ≡ cond t (cond (eqb (sender_of r) 0) (calls c) (answers 6)) (answers 3) → length r ≡ n
      by true f e = eqb-true (length r) n f
      by false f e = cc

pub err_asked : (x : Result Ask Refusal) (e : Refusal) → IsErr x × IsErrAnd x (λ z. z ≡ e) → asked_of x ≡ answers (number e)
unfolding asked_of
err_asked (Ok a) e h = absurd (true≢false (sym h.0))
err_asked (Err z) e h = ap (λ (k : Refusal). answers (number k)) h.1

-- the number of the next call
pub next_number : (k : ℕ) → k < 2 ^ 64 → min (k + 1) 0xffff_ffff_ffff_ffff ≡ cond (ltb k 0xffff_ffff_ffff_ffff) (k + 1) k
next_number k h = by (ltb k 0xffff_ffff_ffff_ffff) refl
  where
    by : (t : Bool) → ltb k 0xffff_ffff_ffff_ffff ≡ t → min (k + 1) 0xffff_ffff_ffff_ffff ≡ cond t (k + 1) k
    by true e = let l = ltb-true k 0xffff_ffff_ffff_ffff e in omega (arith, l)
    by false e = let l = ltb-false k 0xffff_ffff_ffff_ffff e in omega (arith, l, h)

-- the first bytes, or all where there are fewer
pub first_got : (s : List ℕ) (n : ℕ) (r : Option (Bor (List ℕ))) (d : Bor (List ℕ)) → d.now ≡ s → IsGetRangeResult s 0 n r → (unwrap_or r d).now ≡ part s 0 n
unfolding part
first_got s n None d e g = e ∙ sym (take_all n s (short g.0))
  where
    short : (n < 0) ⊎ (length s < n) → length s ≤ n
    short (inl h) = omega arith
    short (inr h) = omega arith
first_got s n (Some x) d e g = g.0.2 ∙ take_from_zero n s

-- the bytes from a place on
pub rest_got : (s : List ℕ) (at : ℕ) (x : Bor (List ℕ)) → IsGetRangeResult s at (length s) (Some x) → x.now ≡ drop at s
rest_got s at x g = g.0.2 ∙ part_rest s at

pub none_got : (s : List ℕ) (at : ℕ) → IsGetRangeResult s at (length s) None → length (drop at s) ≡ 0
none_got s at g = by g.0
  where
    by : (length s < at) ⊎ (length s < length s) → length (drop at s) ≡ 0
    by (inl h) = let l = length-drop at s in omega (arith, l, h)
    by (inr h) = absurd (omega (arith, h))

-- the record that bytes begin with
pub record_got : (s : List ℕ) {n : ℕ} (r : Option (Bor (List ℕ))) → n ≡ length_of s → header_length ≤ length s → sized n ≡ true → IsGetRangeResult s 0 n r → piece_of r ≡ front s
unfolding piece_of front begins_whole
record_got s {n} None e h z g = by g.0
  where
    by : (n < 0) ⊎ (length s < n) → broken ≡ cond (leb header_length (length s) && (sized (length_of s) && leb (length_of s) (length s))) (whole (take (length_of s) s)) broken
    by (inl l) = absurd (omega (arith, l))
    by (inr l) = rw (← e, le-leb header_length (length s) h, z, lt-leb n (length s) l)
record_got s {n} (Some x) e h z g = rw (← e, le-leb header_length (length s) h, z, le-leb n (length s) g.0.1, g.0.2) (ap whole (take_from_zero n s))

pub no_record : (s : List ℕ) → begins_whole s ≡ false → piece_of None ≡ front s
unfolding piece_of front
no_record s e = rw e

-- what is known of the next piece
module _ (ended : Bool) (input : List ℕ) (room : ℕ) (p : Place) where
  pub over_goes : p.next ≡ 0 → goes ended input room p ≡ false
  unfolding goes
  over_goes e = rw e

  pub full_goes : room < p.filled + line_length → goes ended input room p ≡ false
  unfolding goes
  full_goes h = rw (lt-leb (p.filled + line_length) room h) (by (eqb p.next 0))
    where
      by : (t : Bool) → (not t && false) ≡ false
      by true = refl
      by false = refl

  pub ready_goes : (p.next ≡ 0 → ⊥) → p.filled + line_length ≤ room → goes ended input room p ≡ ready ended (drop p.at input)
  unfolding goes
  ready_goes n h = rw (ne_eqb p.next 0 n, le-leb (p.filled + line_length) room h)

  pub not_asked : goes ended input room p ≡ false → None ≡ request_at ended input room p
  unfolding request_at
  not_asked e = rw e

  pub is_asked : goes ended input room p ≡ true → Some (told_front (drop p.at input)) ≡ request_at ended input room p
  unfolding request_at
  is_asked e = rw e

-- the five numbers of a line, put one after another
then_word : (s : List ℕ) (at next v : ℕ) (t : List ℕ) → next ≡ at + 8 → patch (patch s at (le_bytes 8 v)) next t ≡ patch s at (le_bytes 8 v ++ t)
then_word s at next v t e = sym (patch_append s at (le_bytes 8 v) t ∙ ap (λ (j : ℕ). patch (patch s at (le_bytes 8 v)) j t) (ap (λ (k : ℕ). at + k) (length-le_bytes 8 v) ∙ sym e))

pub line_put : (s : List ℕ) (at call answer view timed height : ℕ)
    → patch (patch (patch (patch (patch s at (le_bytes 8 call)) (at + 8) (le_bytes 8 answer)) (at + 16) (le_bytes 8 view)) (at + 24) (le_bytes 8 timed)) (at + 32) (le_bytes 8 height)
    ≡ patch s at (line_bytes (line call answer view timed height))
unfolding line_bytes
line_put s at call answer view timed height =
    let s₁ = patch s at (le_bytes 8 call) in
    let s₂ = patch s₁ (at + 8) (le_bytes 8 answer) in
    let s₃ = patch s₂ (at + 16) (le_bytes 8 view) in
    then_word s₃ (at + 24) (at + 32) timed (le_bytes 8 height) (omega arith)
    ∙ (then_word s₂ (at + 16) (at + 24) view (le_bytes 8 timed ++ le_bytes 8 height) (omega arith)
    ∙ (then_word s₁ (at + 8) (at + 16) answer (le_bytes 8 view ++ (le_bytes 8 timed ++ le_bytes 8 height)) (omega arith)
    ∙ then_word s at (at + 8) call (le_bytes 8 answer ++ (le_bytes 8 view ++ (le_bytes 8 timed ++ le_bytes 8 height))) refl))

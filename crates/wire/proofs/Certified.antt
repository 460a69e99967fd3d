-- The certificates that the place "shape" does not refuse: the bytes in which one stands that fits and is as 4 and 5 ask. Assumes nothing.
use mathlib.Core.Path.{◌≡◌, refl, sym, ap, ◌∙◌}
use mathlib.Core.Logic.Iff
use mathlib.Core.Logic.{◌↔◌, ◌⊎◌, inl, inr, ⊎_elim}
use mathlib.Core.Bool.{Bool, true, false, cond, true≢false}
use mathlib.Core.List.{List, map}
use Prim.Native.Nat.{ℕ, ◌+◌, ◌*◌, ◌^◌, ◌≤◌, ◌<◌}
use native.Mathlib.Omega.{arith}
use borrow.Author.Tests.{eqb-true}
use lib.Dec.{eqb}
use lib.ListN.{length, drop, length-drop}
use Rattle.codec.specs.Bytes.{IsBytes}
use Rattle.codec.proofs.Le.{bytes_drop}
use Rattle.wire.specs.declared.Timeout.{Timeout}
use Rattle.wire.specs.Fields.{block_certificate_length, timeout_length, timeouts_head, kind_of, sender_of, view_of, name_of, signers_of, count_of, count_padding, slots}
use Rattle.wire.specs.Content.{timeout_of, Certificate, by_block, by_timeouts, certificate, timeout}
use Rattle.wire.specs.Encode.{timeout_bytes, joined, encode}
use Rattle.wire.specs.Shape.{any, frame_bad, timeouts_length, certificate_length, certificate_kind_bad, slots_value_bad, slot_kind_bad, certificate_value_bad}
use Rattle.wire.specs.Fit.{All, TimeoutFits, CertificateFits, Fits, TimeoutsProper, CertificateProper}
use Rattle.wire.proofs.Rows.{Reads}
use Rattle.wire.proofs.Tables.{fields_of, Stands, stands_alone, stands_encode, encode_stands, length_stands, framed_stands, fits_stands, length_row}
use Rattle.wire.proofs.Slots.{FullLength, all_map, all_impl, all_both, map_back, joined-cut, cut_whole}
use Rattle.wire.proofs.Contents.{slots_stand, timeouts_back}
use Rattle.wire.proofs.Facts.{Off, off_or, off_eq, off_any, off_lt, off_beyond, Framed, off_frame, Slot, off_slots}

-- ---- a certificate's tests, kind by kind
abbrev pub Calm : ℕ → List ℕ → Type 0
Calm n r = (certificate_length r ≡ false) × (certificate_kind_bad r ≡ false) × (certificate_value_bad n r ≡ false)

calm_block : (n : ℕ) (r : List ℕ) → kind_of r ≡ 3 → Calm n r ↔ ((length r ≡ block_certificate_length) × (signers_of r < 2 ^ n))
unfolding certificate_length certificate_kind_bad certificate_value_bad
calm_block n r e =
    let a : Off (certificate_length r) (length r ≡ block_certificate_length) = rw e (off_eq (length r) block_certificate_length) in
    let b : certificate_kind_bad r ≡ false = rw e in
    let c : Off (certificate_value_bad n r) (signers_of r < 2 ^ n) = rw e (off_beyond n (signers_of r)) in
    (λ h. (a.0 h.0, c.0 h.2), λ h. (a.1 h.0, b, c.1 h.1))

-- the lengths of a timeout certificate
abbrev Sized : List ℕ → Type 0
Sized r = (timeouts_head ≤ length r) × ((length r ≡ timeouts_head + timeout_length * count_of r) × All Framed (slots r))

off_sized : (r : List ℕ) → Off (timeouts_length r) (Sized r)
unfolding timeouts_length
off_sized r =
    off_or (off_lt (length r) timeouts_head) (off_or (off_eq (length r) (timeouts_head + timeout_length * count_of r)) (off_any frame_bad Framed off_frame (slots r)))

-- and what else is asked of one
abbrev Filled : ℕ → List ℕ → Type 0
Filled n r = Sized r × (count_padding r ≡ 0) × (All Slot (slots r) × TimeoutsProper n (view_of r) 0 (map timeout_of (slots r)))

calm_timeouts : (n : ℕ) (r : List ℕ) → kind_of r ≡ 6 → Calm n r ↔ Filled n r
unfolding certificate_length certificate_kind_bad certificate_value_bad
calm_timeouts n r e =
    let a : Off (certificate_length r) (Sized r) = rw e (off_sized r) in
    let b : Off (certificate_kind_bad r) (any slot_kind_bad (slots r) ≡ false) = rw e Iff.rfl in
    let c : Off (certificate_value_bad n r) ((count_padding r ≡ 0) × (slots_value_bad n (view_of r) 0 (slots r) ≡ false)) = rw e (off_or (off_eq (count_padding r) 0) Iff.rfl) in
    let d = off_slots n (view_of r) 0 (slots r) in
    (λ h. let (p, v) = c.0 h.2 in (a.0 h.0, p, d.0 (b.0 h.1, v)), λ h. let (k, v) = d.1 h.2 in (a.1 h.0, b.1 k, c.1 (h.1, v)))

pub calm_kind : (r : List ℕ) → certificate_kind_bad r ≡ false → (kind_of r ≡ 3) ⊎ (kind_of r ≡ 6)
unfolding certificate_kind_bad
calm_kind r h = go (eqb (kind_of r) 3) refl (eqb (kind_of r) 6) refl h
  where
    go : (a : Bool) → eqb (kind_of r) 3 ≡ a → (b : Bool) → eqb (kind_of r) 6 ≡ b → cond a false (cond b (any slot_kind_bad (slots r)) true) ≡ false → (kind_of r ≡ 3) ⊎ (kind_of r ≡ 6)
    go true e b f h = inl (eqb-true (kind_of r) 3 e)
    go false e true f h = inr (eqb-true (kind_of r) 6 f)
    go false e false f h = absurd (true≢false h)

-- ---- a timeout stands where length, kind and padding are right
pub stands_timeout : (r : List ℕ) → Framed r → length r ≡ timeout_length → Slot r → Stands r (timeout (timeout_of r))
unfolding timeout_of
stands_timeout r f l (k, p) =
    stands_alone r (timeout (timeout_of r)) refl l (f.1 ∙ l, (k, (refl, (refl, (refl, (refl, (refl, (p, (refl, (refl, (refl, tt)))))))))))

-- ---- a certificate that is not refused
abbrev pub Held : ℕ → List ℕ → Type 0
Held n r = (k : Certificate) × Stands r (certificate (sender_of r) k) × Fits (certificate (sender_of r) k) × CertificateProper n k

held_block_lem : (n : ℕ) (r : List ℕ) → IsBytes r → Framed r → kind_of r ≡ 3 → (length r ≡ block_certificate_length) × (signers_of r < 2 ^ n) → Held n r
unfolding Fits CertificateProper
held_block_lem n r b f e (l, g) =
    let k = by_block (view_of r) (name_of r) (signers_of r) in
    let st = stands_alone r (certificate (sender_of r) k) refl l (f.1 ∙ l, (e, (refl, (refl, (refl, (refl, tt)))))) in
    (k, st, fits_stands r (certificate (sender_of r) k) b st tt, g)

-- the timeouts inside: each stands in its bytes
abbrev GoodSlot : List ℕ → Type 0
GoodSlot r = (FullLength r × IsBytes r) × (Framed r × Slot r)

slot_holds : (r : List ℕ) → GoodSlot r → Stands r (timeout (timeout_of r))
slot_holds r h = stands_timeout r h.1.0 h.0.0 h.1.1

good_slots : (r : List ℕ) → IsBytes r → Sized r → All Slot (slots r) → All GoodSlot (slots r)
good_slots r b (low, (size, frames)) h =
    let l = length-drop timeouts_head r in
    all_both (λ s. FullLength s × IsBytes s) (λ s. Framed s × Slot s) (slots r)
    (cut_whole (count_of r) (drop timeouts_head r) (bytes_drop timeouts_head r b) (omega arith)) (all_both Framed Slot (slots r) frames h)

slots_back : (l : List (List ℕ)) → All GoodSlot l → map timeout_bytes (map timeout_of l) ≡ l
unfolding encode
slots_back l h =
    map_back timeout_of timeout_bytes l
    (all_impl GoodSlot (λ s. timeout_bytes (timeout_of s) ≡ s) l (λ s g. encode_stands s (timeout (timeout_of s)) g.0.1 (slot_holds s g)) h)

slots_fit : (l : List (List ℕ)) → All GoodSlot l → All TimeoutFits (map timeout_of l)
unfolding Fits
slots_fit l h = all_map GoodSlot TimeoutFits timeout_of l (λ s g. fits_stands s (timeout (timeout_of s)) g.0.1 (slot_holds s g) tt) h

held_timeouts : (n : ℕ) (r : List ℕ) → IsBytes r → Framed r → kind_of r ≡ 6 → Filled n r → Held n r
unfolding CertificateProper
held_timeouts n r b f e (sized, p, (h, proper)) =
    let k = by_timeouts (view_of r) (map timeout_of (slots r)) in
    let g = good_slots r b sized h in
    let l = length-drop timeouts_head r in
    let row = ap joined (slots_back (slots r) g) ∙ joined-cut (count_of r) (drop timeouts_head r) (omega arith) in
    let m = ap length row in
    let reads : Reads r 0 (fields_of (certificate (sender_of r) k)) = (omega arith, (e, (refl, (refl, (omega arith, (p, tt)))))) in
    let st : Stands r (certificate (sender_of r) k) = record { reads = reads; inside = sized.0; rest = sym row } in
    (k, st, fits_stands r (certificate (sender_of r) k) b st (slots_fit (slots r) g), proper)

pub held : (n : ℕ) (r : List ℕ) → IsBytes r → Framed r → Calm n r → Held n r
held n r b f h =
    ⊎_elim (λ e. held_block_lem n r b f e ((calm_block n r e).0 h)) (λ e. held_timeouts n r b f e ((calm_timeouts n r e).0 h)) (calm_kind r h.1)

-- ---- the other way round
pub sender_stands : (r : List ℕ) (s : ℕ) (k : Certificate) → Stands r (certificate s k) → sender_of r ≡ s
sender_stands r s (by_block v x g) h = h.reads.1.1.0
sender_stands r s (by_timeouts v ts) h = h.reads.1.1.0

pub kind_stands : (r : List ℕ) (s : ℕ) (k : Certificate) → Stands r (certificate s k) → (kind_of r ≡ 3) ⊎ (kind_of r ≡ 6)
kind_stands r s (by_block v x g) h = inl h.reads.1.0
kind_stands r s (by_timeouts v ts) h = inr h.reads.1.0

pub slot_stands : (r : List ℕ) (t : Timeout) → Stands r (timeout t) → Slot r
slot_stands r t h = let (_, (k, (_, (_, (_, (_, (_, (p, _)))))))) = h.reads in (k, p)

-- each timeout inside, from what holds of the bytes in which one stands
slots_each : (r : List ℕ) (s v : ℕ) (ts : List Timeout) → All TimeoutFits ts → Stands r (certificate s (by_timeouts v ts)) → (P : List ℕ → Type 0)
    → ((q : List ℕ) (t : Timeout) → Stands q (timeout t) → P q) → All P (slots r)
unfolding Fits encode
slots_each r s v ts f h P g = rw (slots_stand r s v ts f h) (all_map TimeoutFits P timeout_bytes ts (λ t u. g (timeout_bytes t) t (stands_encode (timeout t) u)) f)

pub calm_stands : (n : ℕ) (r : List ℕ) (s : ℕ) (k : Certificate) → CertificateFits k → CertificateProper n k → Stands r (certificate s k) → Calm n r
unfolding CertificateFits CertificateProper
calm_stands n r s (by_block v x g) f p h =
    (calm_block n r h.reads.1.0).1 (length_stands r (certificate s (by_block v x g)) h, rw h.reads.1.1.1.1.1.0 p)
calm_stands n r s (by_timeouts v ts) f p h =
    let (_, (e, (_, (w, (c, (z, _)))))) = h.reads in
    let m = length_row ts f.2 in
    let l = length_stands r (certificate s (by_timeouts v ts)) h in
    let frames = slots_each r s v ts f.2 h Framed (λ q t. framed_stands q (timeout t)) in
    let inner = slots_each r s v ts f.2 h Slot slot_stands in
    (calm_timeouts n r e).1 ((h.inside, (omega arith, frames)), z, (inner, rw (w, slots_stand r s v ts f.2 h, timeouts_back ts f.2) p))

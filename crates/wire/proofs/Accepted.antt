-- What the place "shape" accepts: the bytes in which a content stands that fits and is as 4 and 5 ask. Assumes nothing.
use mathlib.Core.Path.{◌≡◌, refl, sym, ap, ◌∙◌, subst}
use mathlib.Core.Logic.Iff
use mathlib.Core.Logic.{◌↔◌, ◌⊎◌, inl, inr}
use mathlib.Core.Bool.{Bool, true, false, not, cond}
use mathlib.Core.List.{List}
use Prim.Native.Nat.{ℕ, ◌<◌}
use native.Mathlib.Omega.{arith}
use borrow.Author.Tests.{eqb-true}
use lib.Dec.{eqb}
use lib.ListN.{length, length-drop}
use Rattle.codec.specs.Bytes.{IsBytes}
use Rattle.codec.specs.Names.{same_bytes, zero_name}
use Rattle.codec.proofs.Le.{bytes_drop}
use Rattle.wire.specs.Fields.{vote_length, timeout_length, proposal_head, block_length, kind_of, sender_of, view_of, name_of, parent_of, height_of, progress_of, block_name_of, block_parent_of, block_height_of}
use Rattle.wire.specs.Content.{timeout_of, Content, vote, commit, certificate, timeout, proposal, block, release}
use Rattle.wire.specs.Encode.{certificate_bytes, encode}
use Rattle.wire.specs.Shape.{certificate_length, progress_length, kind_length, bad_length, carried_kind_bad, certificate_kind_bad, bad_kind, timeout_value_bad, certificate_value_bad, progress_value_bad, proposal_value_bad, bad_value, shape_rules}
use Rattle.wire.specs.Fit.{Fits, TimeoutProper, Proper}
use Rattle.wire.proofs.Tables.{Inner, Stands, stands_alone, stands_encode, encode_stands, length_stands, framed_stands, fits_stands}
use Rattle.wire.proofs.Contents.{timeout_stands}
use Rattle.wire.proofs.Facts.{Off, off_or, off_eq, off_same, off_never, off_le, Quiet, Framed, off_frame, off_timeout}
use Rattle.wire.proofs.Certified.{calm_kind, stands_timeout, held, sender_stands, kind_stands, slot_stands, calm_stands}

-- ---- the kinds that 4 lets pass
pub data Sort (k : ℕ) : Type 0 where
  voting : k ≡ 1 → Sort k
  committing : k ≡ 2 → Sort k
  timing : k ≡ 5 → Sort k
  proposing : k ≡ 7 → Sort k
  blocking : k ≡ 8 → Sort k
  certifying : (k ≡ 3) ⊎ (k ≡ 6) → Sort k

sort : (r : List ℕ) → bad_kind r ≡ false → Sort (kind_of r)
unfolding bad_kind
sort r h = go (eqb (kind_of r) 1) refl (eqb (kind_of r) 2) refl (eqb (kind_of r) 5) refl (eqb (kind_of r) 7) refl (eqb (kind_of r) 8) refl h
  where
    go : (a : Bool) → eqb (kind_of r) 1 ≡ a → (b : Bool) → eqb (kind_of r) 2 ≡ b → (c : Bool) → eqb (kind_of r) 5 ≡ c
        → (d : Bool) → eqb (kind_of r) 7 ≡ d → (f : Bool) → eqb (kind_of r) 8 ≡ f
        → cond a false (cond b false (cond c (carried_kind_bad r) (cond d (certificate_kind_bad (progress_of r)) (cond f false (certificate_kind_bad r))))) ≡ false
        → Sort (kind_of r)
    go true e b _ c _ d _ f _ h = voting (eqb-true (kind_of r) 1 e)
    go false _ true e c _ d _ f _ h = committing (eqb-true (kind_of r) 2 e)
    go false _ false _ true e d _ f _ h = timing (eqb-true (kind_of r) 5 e)
    go false _ false _ false _ true e f _ h = proposing (eqb-true (kind_of r) 7 e)
    go false _ false _ false _ false _ true e h = blocking (eqb-true (kind_of r) 8 e)
    go false _ false _ false _ false _ false _ h = certifying (calm_kind r h)

-- ---- what is asked of each: the frame, then 3, 4 and 5
abbrev Plain : List ℕ → ℕ → List ℕ → Type 0
Plain r size name = Framed r × (length r ≡ size) × Unit {0} × (name ≡ zero_name → ⊥)

abbrev pub Asked : ℕ → (r : List ℕ) → Sort (kind_of r) → Type 0
Asked n r (voting e) = Plain r vote_length (name_of r)
Asked n r (committing e) = Plain r vote_length (name_of r)
Asked n r (timing e) = Framed r × (length r ≡ timeout_length) × (carried_kind_bad r ≡ false) × (timeout_value_bad n r ≡ false)
Asked n r (proposing e) =
    Framed r × (Framed (progress_of r) × (certificate_length (progress_of r) ≡ false)) × (certificate_kind_bad (progress_of r) ≡ false)
    × ((name_of r ≡ zero_name → ⊥) × ((sender_of (progress_of r) ≡ sender_of r) × ((sender_of (progress_of r) < n) × (certificate_value_bad n (progress_of r) ≡ false))))
Asked n r (blocking e) = Plain r block_length (block_name_of r)
Asked n r (certifying e) = Framed r × (certificate_length r ≡ false) × (certificate_kind_bad r ≡ false) × (certificate_value_bad n r ≡ false)

module _ (n : ℕ) (r : List ℕ) where
  quiet : {P Q S : Type 0} → Off (kind_length r) P → Off (bad_kind r) Q → Off (bad_value n r) S → Quiet (shape_rules n r) ↔ (Framed r × P × Q × S)
  unfolding bad_length
  quiet a b c =
      let l = off_or (off_frame r) a in
      (λ h. ((l.0 h.0).0, (l.0 h.0).1, b.0 h.1.0, c.0 h.1.1.0), λ h. (l.1 (h.0, h.1), (b.1 h.2, (c.1 h.3, tt))))

  plain : (size : ℕ) (name : List ℕ) → kind_length r ≡ not (eqb (length r) size) → bad_kind r ≡ false → bad_value n r ≡ same_bytes name zero_name
      → Quiet (shape_rules n r) ↔ Plain r size name
  plain size name a b c = quiet (rw a (off_eq (length r) size)) (rw b off_never) (rw c (off_same name zero_name))

  asked : (s : Sort (kind_of r)) → Quiet (shape_rules n r) ↔ Asked n r s
  unfolding kind_length progress_length bad_kind bad_value proposal_value_bad progress_value_bad
  asked (voting e) = plain vote_length (name_of r) (rw e) (rw e) (rw e)
  asked (committing e) = plain vote_length (name_of r) (rw e) (rw e) (rw e)
  asked (timing e) = quiet (rw e (off_eq (length r) timeout_length)) (rw e Iff.rfl) (rw e Iff.rfl)
  asked (proposing e) =
      quiet (rw e (off_or (off_frame (progress_of r)) Iff.rfl)) (rw e Iff.rfl)
      (rw e (off_or (off_same (name_of r) zero_name) (off_or (off_eq (sender_of (progress_of r)) (sender_of r)) (off_or (off_le n (sender_of (progress_of r))) Iff.rfl))))
  asked (blocking e) = plain block_length (block_name_of r) (rw e) (rw e) (rw e)
  asked (certifying (inl e)) = quiet (rw e Iff.rfl) (rw e Iff.rfl) (rw e Iff.rfl)
  asked (certifying (inr e)) = quiet (rw e Iff.rfl) (rw e Iff.rfl) (rw e Iff.rfl)

-- ---- what is not refused, and the other way round
abbrev pub Taken : ℕ → List ℕ → Type 0
Taken n r = (x : Content) × Stands r x × Fits x × Proper n x

module _ (n : ℕ) (r : List ℕ) (b : IsBytes r) where
  take_stands : (x : Content) → Stands r x → Inner x → Proper n x → Taken n r
  take_stands x h i p = (x, h, fits_stands r x b h i, p)

  take_sort : (s : Sort (kind_of r)) → Asked n r s → Taken n r
  unfolding Fits Proper encode
  take_sort (voting e) (f, l, _, z) =
      let x = vote (sender_of r) (view_of r) (name_of r) in
      take_stands x (stands_alone r x refl l (f.1 ∙ l, (e, (refl, (refl, (refl, tt)))))) tt z
  take_sort (committing e) (f, l, _, z) =
      let x = commit (sender_of r) (view_of r) (name_of r) in
      take_stands x (stands_alone r x refl l (f.1 ∙ l, (e, (refl, (refl, (refl, tt)))))) tt z
  take_sort (timing e) (f, l, c, v) =
      let (p, t) = (off_timeout n r).0 (c, v) in
      take_stands (timeout (timeout_of r)) (stands_timeout r f l (e, p)) tt t
  take_sort (proposing e) (f, (g, l), c, (z, (s, (m, v)))) =
      let q = bytes_drop proposal_head r b in
      let (k, st, fk, pk) = held n (progress_of r) q g (l, c, v) in
      let p : certificate_bytes (sender_of r) k ≡ progress_of r = rw (← s) (encode_stands (progress_of r) (certificate (sender_of (progress_of r)) k) q st) in
      let o = length-drop proposal_head r in
      let w = ap length p in
      take_stands (proposal (sender_of r) (view_of r) (name_of r) (parent_of r) (height_of r) k)
      (record { reads = (omega arith, (e, (refl, (refl, (refl, (refl, (refl, tt))))))); inside = omega arith; rest = sym p }) fk.1 (z, omega arith, pk)
  take_sort (blocking e) (f, l, _, z) =
      let x = block (sender_of r) (block_name_of r) (block_parent_of r) (block_height_of r) in
      take_stands x (stands_alone r x refl l (f.1 ∙ l, (e, (refl, (refl, (refl, (refl, tt))))))) tt z
  take_sort (certifying e) (f, l, c, v) = let (k, st, fk, pk) = held n r b f (l, c, v) in (certificate (sender_of r) k, st, fk, pk)

  pub taken : Quiet (shape_rules n r) → Taken n r
  taken h = let s = sort r h.1.0 in take_sort s ((asked n r s).0 h)

pub quiet_stands : (n : ℕ) (r : List ℕ) (x : Content) → Fits x → Proper n x → Stands r x → Quiet (shape_rules n r)
unfolding Fits Proper encode
quiet_stands n r (vote s v x) f p h =
    (asked n r (voting h.reads.1.0)).1 (framed_stands r (vote s v x) h, length_stands r (vote s v x) h, tt, λ e. p (sym h.reads.1.1.1.1.0 ∙ e))
quiet_stands n r (commit s v x) f p h =
    (asked n r (committing h.reads.1.0)).1 (framed_stands r (commit s v x) h, length_stands r (commit s v x) h, tt, λ e. p (sym h.reads.1.1.1.1.0 ∙ e))
quiet_stands n r (certificate s k) f p h =
    let (l, c, v) = calm_stands n r s k f.1 p h in
    (asked n r (certifying (kind_stands r s k h))).1 (framed_stands r (certificate s k) h, l, c, v)
quiet_stands n r (timeout t) f p h =
    let (c, v) = (off_timeout n r).1 ((slot_stands r t h).1, subst (TimeoutProper n) (sym (timeout_stands r t h)) p) in
    (asked n r (timing h.reads.1.0)).1 (framed_stands r (timeout t) h, length_stands r (timeout t) h, c, v)
quiet_stands n r (proposal s v x y i k) f p h =
    let q : Stands (progress_of r) (certificate s k) = rw h.rest (stands_encode (certificate s k) (f.0, f.5)) in
    let (l, c, w) = calm_stands n (progress_of r) s k f.5 p.2 q in
    let a = sender_stands (progress_of r) s k q in
    (asked n r (proposing h.reads.1.0)).1 (
      framed_stands r (proposal s v x y i k) h,
      (framed_stands (progress_of r) (certificate s k) q, l),
      c,
      (λ e. p.0 (sym h.reads.1.1.1.1.0 ∙ e), (a ∙ sym h.reads.1.1.0, (rw a p.1, w))),
    )
quiet_stands n r (block s x y i) f p h =
    (asked n r (blocking h.reads.1.0)).1 (framed_stands r (block s x y i) h, length_stands r (block s x y i) h, tt, λ e. p (sym h.reads.1.1.1.0 ∙ e))
quiet_stands n r (release s v x i) f p h = absurd p

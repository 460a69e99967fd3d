-- Reading back: what is written is read, and what the place "shape" accepts is the encoding of what it reads as. Assumes nothing.
use mathlib.Core.Path.{◌≡◌, refl, sym, ap, ◌∙◌}
use mathlib.Core.Logic.{◌↔◌}
use mathlib.Core.Bool.{not}
use mathlib.Core.List.{List, [], ◌∷◌}
use Prim.Native.Nat.{ℕ}
use lib.Dec.{eqb}
use lib.ListN.{length}
use Rattle.settings.specs.Answer.{accepts, ◌⇒◌}
use Rattle.codec.specs.Bytes.{IsBytes}
use Rattle.wire.specs.Fields.{release_length, kind_of, sender_of, view_of, name_of, release_height_of}
use Rattle.wire.specs.Content.{Content, release, content, decode}
use Rattle.wire.specs.Encode.{encode}
use Rattle.wire.specs.Shape.{frame_bad, shape_rules, shape_of, release_shape}
use Rattle.wire.specs.Fit.{Fits, Proper}
use Rattle.wire.proofs.Tables.{stands_alone, stands_encode, encode_stands, length_stands, framed_stands}
use Rattle.wire.proofs.Contents.{content_stands}
use Rattle.wire.proofs.Facts.{off_eq, Quiet, off_judge, Framed, off_frame}
use Rattle.wire.proofs.Accepted.{taken, quiet_stands}

-- ---- what is written
pub read_written : (x : Content) → Fits x → content (encode x) ≡ x
read_written x f = content_stands (encode x) x f (stands_encode x f)

pub shape_written : (n : ℕ) (x : Content) → Fits x → Proper n x → shape_of n (encode x) ≡ accepts tt
unfolding shape_of
shape_written n x f p = (off_judge (shape_rules n (encode x)) tt tt).1 (quiet_stands n (encode x) x f p (stands_encode x f), refl)

pub decode_written : (n : ℕ) (x : Content) → Fits x → Proper n x → decode n (encode x) ≡ accepts x
unfolding decode
decode_written n x f p =
    (off_judge (shape_rules n (encode x)) (content (encode x)) x).1 (quiet_stands n (encode x) x f p (stands_encode x f), read_written x f)

-- ---- what is read
-- a content that stands in r is its own
read_stands : (n : ℕ) (r : List ℕ) → IsBytes r → Quiet (shape_rules n r) → (encode (content r) ≡ r) × Fits (content r) × Proper n (content r)
read_stands n r b q =
    let (x, h, f, p) = taken n r b q in
    rw (content_stands r x f h) (encode_stands r x b h, f, p)

accepted : (n : ℕ) (r : List ℕ) → IsBytes r → shape_of n r ≡ accepts tt → (encode (content r) ≡ r) × Fits (content r) × Proper n (content r)
unfolding shape_of
accepted n r b e = read_stands n r b ((off_judge (shape_rules n r) tt tt).0 e).0

pub written_read : (n : ℕ) (r : List ℕ) → IsBytes r → shape_of n r ≡ accepts tt → encode (content r) ≡ r
written_read n r b e = (accepted n r b e).0

pub read_fits : (n : ℕ) (r : List ℕ) → IsBytes r → shape_of n r ≡ accepts tt → Fits (content r)
read_fits n r b e = (accepted n r b e).1

pub read_proper : (n : ℕ) (r : List ℕ) → IsBytes r → shape_of n r ≡ accepts tt → Proper n (content r)
read_proper n r b e = (accepted n r b e).2

pub only_these : (n : ℕ) (r : List ℕ) (x : Content) → IsBytes r → decode n r ≡ accepts x → r ≡ encode x
unfolding decode
only_these n r x b e = let (q, c) = (off_judge (shape_rules n r) (content r) x).0 e in sym (read_stands n r b q).0 ∙ ap encode c

-- ---- kind 9
off_release : (r : List ℕ) → (release_shape r ≡ accepts tt) ↔ (Framed r × (kind_of r ≡ 9) × (length r ≡ release_length))
unfolding release_shape
off_release r =
    let j = off_judge (frame_bad r ⇒ 3 ∷ not (eqb (kind_of r) 9) ⇒ 4 ∷ not (eqb (length r) release_length) ⇒ 3 ∷ []) tt tt in
    let k = off_eq (kind_of r) 9 in
    let l = off_eq (length r) release_length in (
      λ h. let ((a, (b, (c, _))), _) = j.0 h in ((off_frame r).0 a, k.0 b, l.0 c),
      λ h. j.1 (((off_frame r).1 h.0, (k.1 h.1, (l.1 h.2, tt))), refl),
    )

pub release_written : (s v : ℕ) (x : List ℕ) (h : ℕ) → Fits (release s v x h) → release_shape (encode (release s v x h)) ≡ accepts tt
release_written s v x h f =
    let y = release s v x h in
    let st = stands_encode y f in
    (off_release (encode y)).1 (framed_stands (encode y) y st, st.reads.1.0, length_stands (encode y) y st)

pub release_read : (r : List ℕ) → IsBytes r → release_shape r ≡ accepts tt → encode (content r) ≡ r
unfolding content
release_read r b h =
    let (f, e, l) = (off_release r).0 h in
    let x = release (sender_of r) (view_of r) (name_of r) (release_height_of r) in
    let c : content r ≡ x = rw e in
    ap encode c ∙ encode_stands r x b (stands_alone r x refl l (f.1 ∙ l, (e, (refl, (refl, (refl, (refl, tt)))))))

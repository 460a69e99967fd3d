-- What the place "shape" leaves of a slice that passes: how long it is, by kind. Assumes nothing.
use mathlib.Core.Path.{◌≡◌, refl}
use mathlib.Core.Bool.{Bool, true, false, not, cond, ◌||◌, true≢false}
use mathlib.Core.List.{List}
use Prim.Native.Nat.{ℕ, ◌+◌, ◌*◌, ◌-◌, ◌≤◌}
use native.Mathlib.Omega.{arith}
use borrow.Author.Tests.{ltb-false, eqb-true, ne_eqb}
use lib.Dec.{eqb, ltb}
use lib.ListN.{length, length-drop}
use Rattle.wire.specs.Fields.{kind_of, count_of, progress_of, slots}
use Rattle.wire.specs.Shape.{any, frame_bad, timeouts_length, certificate_length, progress_length, kind_length, bad_length, slot_kind_bad, certificate_kind_bad, bad_kind}

-- neither of two tests passes
pub or_false : (p q : Bool) → (p || q) ≡ false → (p ≡ false) × (q ≡ false)
or_false true q e = absurd (true≢false e)
or_false false q e = (refl, e)

-- a test of inequality that fails
pub isnt_false : (a b : ℕ) → not (eqb a b) ≡ false → a ≡ b
isnt_false a b e = go (eqb a b) refl e
  where
    go : (t : Bool) → eqb a b ≡ t → not t ≡ false → a ≡ b
    go true e h = eqb-true a b e
    go false e h = absurd (true≢false h)

pub frame_header : (r : List ℕ) → frame_bad r ≡ false → 8 ≤ length r
unfolding frame_bad
frame_header r e = ltb-false (length r) 8 (or_false _ _ e).0

-- ---- a certificate: kind 3, or kind 6 with its timeouts
pub certificate_block : (r : List ℕ) → certificate_length r ≡ false → kind_of r ≡ 3 → length r ≡ 56
unfolding certificate_length
certificate_block r e k = isnt_false (length r) 56 (rw k at e)

pub certificate_timeouts : (r : List ℕ) → certificate_length r ≡ false → kind_of r ≡ 6 → length r ≡ 24 + 112 * count_of r
unfolding certificate_length timeouts_length
certificate_timeouts r e k =
    let t : timeouts_length r ≡ false = rw k at e in
    isnt_false (length r) (24 + 112 * count_of r) (or_false _ (any frame_bad (slots r)) (or_false (ltb (length r) 24) _ t).1).0

pub certificate_other : (r : List ℕ) → certificate_kind_bad r ≡ false → (kind_of r ≡ 3 → ⊥) → kind_of r ≡ 6
unfolding certificate_kind_bad
certificate_other r e k = go (eqb (kind_of r) 6) refl (rw (ne_eqb (kind_of r) 3 k) at e)
  where
    go : (t : Bool) → eqb (kind_of r) 6 ≡ t → cond t (any slot_kind_bad (slots r)) true ≡ false → kind_of r ≡ 6
    go true q h = eqb-true (kind_of r) 6 q
    go false q h = absurd (true≢false h)

-- ---- a record of each kind
module _ (r : List ℕ) (e : bad_length r ≡ false) where
  pub whole_header : 8 ≤ length r
  unfolding bad_length
  whole_header = frame_header r (or_false (frame_bad r) (kind_length r) e).0

  whole_kind : kind_length r ≡ false
  unfolding bad_length
  whole_kind = (or_false (frame_bad r) (kind_length r) e).1

  pub whole_vote : kind_of r ≡ 1 → length r ≡ 48
  unfolding kind_length
  whole_vote k = isnt_false (length r) 48 (rw k at whole_kind)

  pub whole_commit : kind_of r ≡ 2 → length r ≡ 48
  unfolding kind_length
  whole_commit k = isnt_false (length r) 48 (rw k at whole_kind)

  pub whole_timeout : kind_of r ≡ 5 → length r ≡ 112
  unfolding kind_length
  whole_timeout k = isnt_false (length r) 112 (rw k at whole_kind)

  pub whole_block : kind_of r ≡ 8 → length r ≡ 80
  unfolding kind_length
  whole_block k = isnt_false (length r) 80 (rw k at whole_kind)

  -- a proposal has a header inside
  whole_progress : kind_of r ≡ 7 → progress_length r ≡ false
  unfolding kind_length
  whole_progress k = rw k at whole_kind

  pub whole_inner : kind_of r ≡ 7 → 8 ≤ length (progress_of r)
  unfolding progress_length
  whole_inner k = frame_header (progress_of r) (or_false (frame_bad (progress_of r)) (certificate_length (progress_of r)) (whole_progress k)).0

  pub whole_proposal : kind_of r ≡ 7 → 96 ≤ length r
  whole_proposal k = let h = whole_inner k in let g : length (progress_of r) ≡ length r - 88 = length-drop 88 r in omega arith

  pub inner_length : kind_of r ≡ 7 → certificate_length (progress_of r) ≡ false
  unfolding progress_length
  inner_length k = (or_false (frame_bad (progress_of r)) (certificate_length (progress_of r)) (whole_progress k)).1

  pub whole_certificate : (kind_of r ≡ 1 → ⊥) → (kind_of r ≡ 2 → ⊥) → (kind_of r ≡ 5 → ⊥) → (kind_of r ≡ 7 → ⊥) → (kind_of r ≡ 8 → ⊥) → certificate_length r ≡ false
  unfolding kind_length
  whole_certificate k1 k2 k5 k7 k8 = rw (ne_eqb _ _ k1, ne_eqb _ _ k2, ne_eqb _ _ k5, ne_eqb _ _ k7, ne_eqb _ _ k8) at whole_kind

-- ---- what the place 4 leaves
module _ (r : List ℕ) (e : bad_kind r ≡ false) where
  pub inner_kind : kind_of r ≡ 7 → certificate_kind_bad (progress_of r) ≡ false
  unfolding bad_kind
  inner_kind k = rw k at e

  pub certificate_kind : (kind_of r ≡ 1 → ⊥) → (kind_of r ≡ 2 → ⊥) → (kind_of r ≡ 5 → ⊥) → (kind_of r ≡ 7 → ⊥) → (kind_of r ≡ 8 → ⊥) → certificate_kind_bad r ≡ false
  unfolding bad_kind
  certificate_kind k1 k2 k5 k7 k8 = rw (ne_eqb _ _ k1, ne_eqb _ _ k2, ne_eqb _ _ k5, ne_eqb _ _ k7, ne_eqb _ _ k8) at e

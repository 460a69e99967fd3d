-- The timeouts that stand in a record: cut in two, and copied but one. Assumes nothing.
use mathlib.Core.Path.{◌≡◌, refl, sym, ap, ap₂, ◌∙◌}
use mathlib.Core.Bool.{Bool, true, false, not}
use mathlib.Core.List.{List, [], ◌∷◌, ◌++◌, map}
use Prim.Native.Nat.{ℕ, zero, suc, ◌+◌, ◌*◌, ◌-◌, ◌≤◌, ◌<◌}
use native.Mathlib.Nat.{zero-add}
use native.Mathlib.Omega.{arith}
use borrow.Table.Elements.{map_app}
use lib.Dec.{eqb}
use lib.ListN.{length, take, drop}
use lib.Pointwise.{pointwise}
use lib.Seq.{take-nil, take-take, drop-drop}
use Rattle.settings.specs.declared.Settings.{Settings}
use Rattle.settings.specs.Quorum.{timeout_quorum}
use Rattle.codec.specs.Bytes.{part, patch}
use Rattle.codec.specs.Names.{same_bytes}
use Rattle.codec.proofs.Library.{pointwise_same}
use Rattle.codec.proofs.Laws.{length-part, length-patch, part_same, part_before, part_span}
use Rattle.wire.specs.declared.Timeout.{Timeout}
use Rattle.wire.specs.Fields.{sender_of, cut, timeouts_head, timeout_length}
use Rattle.wire.specs.Content.{timeout_of}
use Rattle.wire.proofs.Turns.{place, slot, slots_from, slots_turn, timeouts_from, timeouts_turn}
use Rattle.certificate.specs.Order.{Ascending}
use Rattle.certificate.proofs.Timeouts.{count_timeouts}
use Rattle.decisive.specs.Decisive.{without, safe_block, is_decisive, none, named, lowest_of}
use Rattle.decisive.specs.Reply.{first_timeouts, others, left_out}
use Rattle.decisive.proofs.Taking.{without_one, without_least}
use Rattle.decisive.proofs.Search.{by_name, lowest_here, lowest_on, lowest_end}

-- ---- cutting: in two, and of the bytes that are cut alone
cut_split : (i j : ℕ) (s : List ℕ) → cut (i + j) s ≡ cut i s ++ cut j (drop (timeout_length * i) s)
unfolding cut
cut_split zero j s = rw zero-add
cut_split (suc i) j s =
    let d : suc i + j ≡ suc (i + j) = omega arith in
    let e : timeout_length + timeout_length * i ≡ timeout_length * suc i = omega arith in
    ap (λ (k : ℕ). cut k s) d ∙ ap (λ (t : List (List ℕ)). take timeout_length s ∷ t)
    (cut_split i j (drop timeout_length s) ∙ ap (λ (t : List ℕ). cut i (drop timeout_length s) ++ cut j t) (drop-drop (timeout_length * i) timeout_length s ∙ ap (λ (k : ℕ). drop k s) e))

drop-take : (m n : ℕ) (l : List ℕ) → drop m (take (m + n) l) ≡ take n (drop m l)
drop-take zero n l = rw zero-add
drop-take (suc m) n [] = ap (drop (suc m)) (take-nil (suc m + n)) ∙ sym (take-nil n)
drop-take (suc m) n (x ∷ l) =
    let d : suc m + n ≡ suc (m + n) = omega arith in
    ap (λ (k : ℕ). drop (suc m) (take k (x ∷ l))) d ∙ drop-take m n l

cut_bytes : (k : ℕ) (s : List ℕ) → cut k s ≡ cut k (take (timeout_length * k) s)
unfolding cut
cut_bytes zero s = refl
cut_bytes (suc k) s =
    let e : timeout_length * suc k ≡ timeout_length + timeout_length * k = omega arith in
    ap₂ (λ (a : List ℕ) (m : List (List ℕ)). a ∷ m)
    (sym (take-take timeout_length (timeout_length * suc k) s (omega arith)))
    (cut_bytes k (drop timeout_length s) ∙ ap (cut k) (sym (ap (λ (m : ℕ). drop timeout_length (take m s)) e ∙ drop-take timeout_length (timeout_length * k) s)))

-- the same bytes are cut to the same timeouts
pub cut_same : (k : ℕ) (s t : List ℕ) (a b : ℕ) → part s a (timeout_length * k) ≡ part t b (timeout_length * k) → cut k (drop a s) ≡ cut k (drop b t)
unfolding part
cut_same k s t a b e = cut_bytes k (drop a s) ∙ ap (cut k) e ∙ sym (cut_bytes k (drop b t))

-- ---- the timeouts before timeout i, and those from it on
pub first_split : (r : List ℕ) (k i : ℕ) → i ≤ k → first_timeouts r k ≡ first_timeouts r i ++ timeouts_from r k i
first_split r k i h =
    let e : k ≡ i + (k - i) = omega arith in
    ap (λ (m : ℕ). first_timeouts r m) e
    ∙ ap (map timeout_of) (cut_split i (k - i) (drop timeouts_head r) ∙ ap (λ (t : List ℕ). cut i (drop timeouts_head r) ++ cut (k - i) t) (drop-drop (timeout_length * i) timeouts_head r))
    ∙ map_app timeout_of (cut i (drop timeouts_head r)) _

-- ---- a copy in which timeout i is left out: what stands before it, and behind that what comes after it
module _ (r z : List ℕ) (k i : ℕ) (h : i < k) (m : place k ≤ length r) (l : place k ≤ length z) where
  abbrev before : List ℕ
  before = part r timeouts_head (timeout_length * i)

  abbrev behind : List ℕ
  behind = part r (place (i + 1)) (timeout_length * (k - (i + 1)))

  abbrev half : List ℕ
  half = patch z timeouts_head before

  abbrev copy : List ℕ
  copy = patch half (place i) behind

  length_before : length before ≡ timeout_length * i
  length_before = length-part r timeouts_head (timeout_length * i) (omega (arith, m))

  length_behind : length behind ≡ timeout_length * (k - (i + 1))
  length_behind = length-part r (place (i + 1)) (timeout_length * (k - (i + 1))) (omega (arith, m))

  part_first : part copy timeouts_head (timeout_length * i) ≡ part r timeouts_head (timeout_length * i)
  part_first =
      part_before half (place i) behind timeouts_head (timeout_length * i) (omega arith)
      ∙ part_same z timeouts_head before (timeout_length * i) length_before (omega (arith, l))

  part_last : part copy (place i) (timeout_length * (k - (i + 1))) ≡ part r (place (i + 1)) (timeout_length * (k - (i + 1)))
  part_last =
      let e : length half ≡ length z = length-patch z timeouts_head before in
      part_same half (place i) behind (timeout_length * (k - (i + 1))) length_behind (omega (arith, l, e))

  pub copied : first_timeouts (left_out r k i z) (k - 1) ≡ others r k i
  unfolding left_out
  copied =
      let e : k - 1 - i ≡ k - (i + 1) = omega arith in
      first_split copy (k - 1) i (omega arith)
      ∙ ap₂ (λ (a : List (List ℕ)) (b : List (List ℕ)). map timeout_of a ++ map timeout_of b)
      (cut_same i copy r timeouts_head timeouts_head part_first)
      (ap (λ (j : ℕ). cut j (drop (place i) copy)) e ∙ cut_same (k - (i + 1)) copy r (place i) (place (i + 1)) part_last)

pub length-left_out : (r : List ℕ) (k i : ℕ) (z : List ℕ) → length (left_out r k i z) ≡ length z
unfolding left_out
length-left_out r k i z = length-patch _ (place i) _ ∙ length-patch z timeouts_head _

-- the copy as the code makes it, part by part
pub left_out_lem : (r z : List ℕ) (k i : ℕ) {one two : List ℕ} → i < k
    → one ≡ patch z timeouts_head (take (place i - timeouts_head) (drop timeouts_head r))
    → two ≡ patch one (place i) (take (place k - (place i + timeout_length)) (drop (place i + timeout_length) r)) → two ≡ left_out r k i z
unfolding left_out
left_out_lem r z k i h first last =
    let next : place i + timeout_length ≡ place (i + 1) = omega arith in
    let a = first ∙ ap (patch z timeouts_head) (part_span r timeouts_head (place i) (timeout_length * i) refl) in
    let b = ap (λ (j : ℕ). take (place k - j) (drop j r)) next ∙ part_span r (place (i + 1)) (place k) (timeout_length * (k - (i + 1))) (omega arith) in
    last ∙ ap₂ (λ (t u : List ℕ). patch t (place i) u) a b

-- ---- where the timeouts from timeout i on are left, the next one is timeout i
some_cut : (j : ℕ) (d : List ℕ) {x : List ℕ} {l : List (List ℕ)} → cut j d ≡ x ∷ l → 0 < j
unfolding cut
some_cut zero d e = cc
some_cut (suc j) d e = omega arith

pub slot_next : (r : List ℕ) (k i : ℕ) {x : List ℕ} {l m : List (List ℕ)} → l ≡ slots_from r k i → l ≡ x ∷ m → (i < k) × (x ≡ slot r i) × (m ≡ slots_from r k (i + 1))
slot_next r k i e f =
    let g : i < k = omega (arith, some_cut (k - i) _ (sym e ∙ f)) in
    let h = slots_turn r k i g in
    (g, cc, cc)

-- ---- the search at timeout i, by the safe block of its copy
module _ (s : Settings) (n : ℕ) (r : List ℕ) (k i : ℕ) (a : Ascending n 0 (first_timeouts r k)) where
  abbrev ts : List Timeout
  ts = first_timeouts r k

  module _ (h : i < k) where
    abbrev this : Timeout
    this = timeout_of (slot r i)

    split : ts ≡ first_timeouts r i ++ this ∷ timeouts_from r k (i + 1)
    split = first_split r k i (omega arith) ∙ ap (λ (t : List Timeout). first_timeouts r i ++ t) (timeouts_turn r k i h)

    without-this : without this.sender ts ≡ others r k i
    without-this = ap (without this.sender) split ∙ without_one n 0 (first_timeouts r i) this (timeouts_from r k (i + 1)) (rw split at a)

    decisive_here : timeout_quorum s < k → is_decisive s ts this.sender ≡ not (same_bytes (safe_block s (others r k i)) (safe_block s ts))
    decisive_here q =
        let c : length ts ≡ k = count_timeouts k (drop timeouts_head r) in
        let f = without_least this.sender n 0 ts a in
        by_name s ts this.sender (omega (arith, c, f))
        ∙ ap (λ (t : List Timeout). not (same_bytes (safe_block s t) (safe_block s ts))) without-this

    module _ (q : timeout_quorum s < k) {x y : List ℕ} (e : x ≡ safe_block s (others r k i)) (d : y ≡ safe_block s ts) {differs : Bool} (t : differs ≡ not (pointwise eqb x y)) where
      decisive_by : is_decisive s ts this.sender ≡ differs
      decisive_by = decisive_here q ∙ sym (t ∙ ap not (pointwise_same x y ∙ ap₂ same_bytes e d))

      pub found_here : differs ≡ true → lowest_of s ts (timeouts_from r k i) ≡ named (sender_of (slot r i))
      unfolding timeout_of
      found_here g = ap (lowest_of s ts) (timeouts_turn r k i h) ∙ lowest_here s ts this _ (decisive_by ∙ g)

      pub goes_on_lem : differs ≡ false → lowest_of s ts (timeouts_from r k i) ≡ lowest_of s ts (timeouts_from r k (i + 1))
      goes_on_lem g = ap (lowest_of s ts) (timeouts_turn r k i h) ∙ lowest_on s ts this _ (decisive_by ∙ g)

  pub not_found : slots_from r k i ≡ [] → lowest_of s ts (timeouts_from r k i) ≡ none
  not_found e = ap (λ (l : List (List ℕ)). lowest_of s ts (map timeout_of l)) e ∙ lowest_end s ts

-- Laws for the functions by value: bytes moved to the front, and bytes that are read behind others. Assumes nothing.
use Prim.Native.Nat.{ℕ, ◌+◌, ◌-◌, ◌≤◌, ◌<◌, min}
use native.Mathlib.Nat.{zero-add}
use native.Mathlib.Omega.{arith}
use mathlib.Core.Path.{◌≡◌, refl, sym, ap, ◌∙◌}
use mathlib.Core.Bool.{Bool, true, false, ◌||◌, true≢false}
use mathlib.Core.List.{List, [], ◌++◌, append-nil}
use borrow.Author.Tests.{ltb-true, ltb-false}
use lib.Dec.{eqb, ltb}
use lib.ListN.{length, take, drop, set, get_or, length-take, length-append}
use lib.Seq.{drop-drop, drop-set-lt, get_or-drop, take-append-add, take-append-le, take-add, take_all, drop_at}
use Rattle.codec.specs.Bytes.{part, patch}
use Rattle.codec.proofs.Laws.{patch_turn, get_or-part, length-part, part_same}
use Rattle.replay.specs.Replay.{known}
use Rattle.run.specs.declared.Turn.{Turn}
use Rattle.run.specs.Running.{Refilled}

-- one turn: the byte at place at + i goes to place i. What stands from place at + i on is still what stood there at first
byte_there : (s₀ s : List ℕ) (at n i : ℕ) → i < n → drop (at + i) s ≡ drop (at + i) s₀ → get_or s (at + i) 0 ≡ get_or (part s₀ at n) i 0
byte_there s₀ s at n i h e =
    let a : at + i + 0 ≡ at + i = omega arith in
    sym (get_or-drop (at + i) s 0 0 ∙ ap (λ (k : ℕ). get_or s k 0) a) ∙ (ap (λ (l : List ℕ). get_or l 0 0) e ∙ ((get_or-drop (at + i) s₀ 0 0 ∙ ap (λ (k : ℕ). get_or s₀ k 0) a) ∙ sym (get_or-part s₀ at n i 0 h)))

pub move_turn : (s₀ s : List ℕ) (at n i : ℕ) → i < n → at + n ≤ length s₀ → drop (at + i) s ≡ drop (at + i) s₀
    → patch (set s i (get_or s (at + i) 0)) (0 + (i + 1)) (drop (i + 1) (part s₀ at n)) ≡ patch s (0 + i) (drop i (part s₀ at n))
move_turn s₀ s at n i h l e =
    let v = part s₀ at n in
    ap (λ (x : ℕ). patch (set s i x) (0 + (i + 1)) (drop (i + 1) v)) (byte_there s₀ s at n i h e)
    ∙ (ap (λ (k : ℕ). patch (set s k (get_or v i 0)) (0 + (i + 1)) (drop (i + 1) v)) (sym (zero-add i)) ∙ patch_turn s 0 i v (omega (arith, length-part s₀ at n l)))

pub move_rest : (s₀ s : List ℕ) (at i x : ℕ) → drop (at + i) s ≡ drop (at + i) s₀ → drop (at + (i + 1)) (set s i x) ≡ drop (at + (i + 1)) s₀
move_rest s₀ s at i x e =
    let one : at + i + 1 ≡ at + (i + 1) = omega arith in
    let on : (l : List ℕ) → drop (at + (i + 1)) l ≡ drop 1 (drop (at + i) l) = λ l. sym (drop-drop 1 (at + i) l ∙ ap (λ (k : ℕ). drop k l) one) in
    drop-set-lt (at + (i + 1)) s i x (omega arith) ∙ (on s ∙ (ap (drop 1) e ∙ sym (on s₀)))

-- what is left of the bytes at hand, moved to the front
drop_of_take : (s : List ℕ) (at have : ℕ) → at ≤ have → at ≤ length s → part s at (have - at) ≡ drop at (take have s)
unfolding part
drop_of_take s at have h l =
    let e : at + (have - at) ≡ have = omega arith in
    sym (ap (λ (k : ℕ). drop at (take k s)) (sym e) ∙ (ap (drop at) (take-add at (have - at) s) ∙ drop_at (take at s) (take (have - at) (drop at s)) at (omega (arith, length-take at s))))

pub kept_hand : (s : List ℕ) (at have : ℕ) → at ≤ have → have ≤ length s → take (have - at) (patch s 0 (part s at (have - at))) ≡ drop at (take have s)
unfolding part
kept_hand s at have h l =
    part_same s 0 (part s at (have - at)) (have - at) (length-part s at (have - at) (omega arith)) (omega arith) ∙ drop_of_take s at have h (omega arith)

-- no more than there is
pub take_lesser : (s : List ℕ) (n : ℕ) → take (min n (length s)) s ≡ take n s
take_lesser s n = go (ltb n (length s)) refl
  where
    go : (t : Bool) → ltb n (length s) ≡ t → take (min n (length s)) s ≡ take n s
    go true e = let f = ltb-true n (length s) e in ap (λ (k : ℕ). take k s) (let g : min n (length s) ≡ n = omega arith in g)
    go false e =
        let f = ltb-false n (length s) e in
        ap (λ (k : ℕ). take k s) (let g : min n (length s) ≡ length s = omega arith in g) ∙ (take_all (length s) s (omega arith) ∙ sym (take_all n s f))

-- bytes that are read behind the first ones
read_behind : (s t : List ℕ) (have got : ℕ) → have ≤ length s → take (have + got) (take have s ++ t) ≡ take have s ++ take got t
read_behind s t have got h =
    let e : length (take have s) + got ≡ have + got = omega (arith, length-take have s) in
    ap (λ (k : ℕ). take k (take have s ++ t)) (sym e) ∙ take-append-add (take have s) t got

-- ---- bytes at hand, and those that are read
module _ (t : Turn) (buffer : List ℕ) (have : ℕ) (is : have ≡ min t.have (length buffer)) where
  same_hand : take have buffer ≡ take t.have buffer
  same_hand = ap (λ (k : ℕ). take k buffer) is ∙ take_lesser buffer t.have

  pub no_read : (ended : Bool) → ended ≡ t.ended → (t.ended || known (take t.have buffer)) ≡ true
      → Refilled t buffer (record { have = have; ended = ended; next = t.next }) buffer
  no_read ended e idle =
      record {
        read = [];
        hand = same_hand ∙ sym (append-nil (take t.have buffer));
        within = omega (arith, is);
        idle = λ _. (refl, (e, omega (arith, is)));
        reads = λ r. absurd (true≢false (sym idle ∙ r));
        next = refl;
      }

  pub one_read : (free post : List ℕ) (got : ℕ) → t.ended ≡ false → known (take have buffer) ≡ false → got ≤ length free
      → Refilled t buffer (record { have = have + got; ended = eqb got 0; next = t.next }) (take have buffer ++ (free ++ post))
  one_read free post got e k h =
      let l = length-take have buffer in
      let a = length-append (take have buffer) (free ++ post) in
      let b = length-append free post in
      record {
        read = take got free;
        hand = read_behind buffer (free ++ post) have got (omega (arith, is)) ∙ (ap (λ (x : List ℕ). take have buffer ++ x) (take-append-le got free post h) ∙ ap (λ (x : List ℕ). x ++ take got free) same_hand);
        within = omega (arith, is, l, a, b);
        idle = λ i. absurd (true≢false (sym i ∙ (rw (e, sym (ap known same_hand) ∙ k))));
        reads = λ _. ap (λ (n : ℕ). eqb n 0) (let g : got ≡ length (take got free) = omega (arith, length-take got free) in g);
        next = refl;
      }

-- The laws of the schedule and the rounds. Assumes nothing.
use mathlib.Core.Path.{◌≡◌, refl, sym, ap, ap₂, subst, ◌∙◌}
use mathlib.Core.List.{List, [], ◌∷◌, ◌++◌}
use Prim.Native.Nat.{ℕ, zero, suc, ◌+◌, ◌*◌, ◌-◌, ◌≤◌, ◌<◌}
use native.Mathlib.Numerals.{add-one}
use native.Mathlib.Omega.{arith}
use lib.ListN.{length, take, drop, set, length-append, drop_of_length-le, get_or-append}
use native.Mathlib.Nat.{add-zero, le_refl}
use lib.Seq.{get_or_at, drop-cons, take-suc-set, get_or-take, length-take-le}
use Rattle.std.specs.Int.{w32, from_be_bytes}
use Rattle.codec.specs.Bytes.{be_nat, be_from, part}
use Rattle.codec.proofs.Laws.{part-drop}
use Rattle.digest.specs.declared.Words.{Words}
use Rattle.digest.specs.Sha256.{◌!◌, words, next, extend, schedule, round, rounds, K}
use Rattle.digest.specs.Laws.{FirstWords, LaterWords, SixtyFour}

-- ---- words

-- four bytes from a place on, one by one
pub part_four : (s : List ℕ) (at : ℕ) → at + 4 ≤ length s → s ! at ∷ s ! (at + 1) ∷ s ! (at + 2) ∷ s ! (at + 3) ∷ [] ≡ part s at 4
unfolding part
part_four s at h =
    let e₁ : at + 1 ≡ suc at = omega arith in
    let e₂ : at + 2 ≡ suc (suc at) = omega arith in
    let e₃ : at + 3 ≡ suc (suc (suc at)) = omega arith in
    rw (e₁, e₂, e₃, drop-cons s at 0 (omega arith), drop-cons s (suc at) 0 (omega arith), drop-cons s (suc (suc at)) 0 (omega arith), drop-cons s (suc (suc (suc at))) 0 (omega arith))

-- their number, as the language's library reads it
pub read_four : (a b c d : ℕ) → from_be_bytes w32 (a ∷ b ∷ c ∷ d ∷ []) ≡ be_nat (a ∷ b ∷ c ∷ d ∷ [])
unfolding be_from
read_four a b c d = omega arith

words_more : (n : ℕ) (s : List ℕ) → words (suc n) s ≡ words n s ++ (be_nat (part s (4 * n) 4) ∷ [])
unfolding words part
words_more zero s = refl
words_more (suc n) s =
    let e : 4 * suc n ≡ 4 + 4 * n = omega arith in
    ap (λ (l : List ℕ). be_nat (take 4 s) ∷ l)
    (words_more n (drop 4 s) ∙ ap (λ (l : List ℕ). words n (drop 4 s) ++ (be_nat l ∷ [])) (part-drop s 4 (4 * n) 4 ∙ ap (λ (k : ℕ). part s k 4) (sym e)))

-- one more word of a block
pub words_turn : (w s : List ℕ) (i x : ℕ) → i < length w → x ≡ be_nat (part s (4 * i) 4) → take i w ≡ words i s → take (i + 1) (set w i x) ≡ words (i + 1) s
words_turn w s i x h e f =
    ap (λ (k : ℕ). take k (set w i x)) (add-one i) ∙ take-suc-set w i x h
    ∙ ap₂ (λ (l : List ℕ) (y : ℕ). l ++ (y ∷ [])) f e ∙ sym (words_more i s) ∙ ap (λ (k : ℕ). words k s) (sym (add-one i))

-- ---- the schedule

-- a word follows from the words before it
next-take : (w : List ℕ) (t : ℕ) → 16 ≤ t → next t (take t w) ≡ next t w
unfolding next
next-take w t h = rw (get_or-take t w (t - 2) 0 (omega arith), get_or-take t w (t - 7) 0 (omega arith), get_or-take t w (t - 15) 0 (omega arith), get_or-take t w (t - 16) 0 (omega arith))

extend_suc : (n : ℕ) (W : List ℕ) → extend (suc n) W ≡ extend n (W ++ (next (length W) W ∷ []))
unfolding extend
extend_suc n W = refl

-- one more word of the schedule
pub extend_turn : (w : List ℕ) (t x : ℕ) → 16 ≤ t → t < 64 → length w ≡ 64 → x ≡ next t w → extend (64 - (t + 1)) (take (t + 1) (set w t x)) ≡ extend (64 - t) (take t w)
extend_turn w t x h l e n =
    let f : 64 - t ≡ suc (64 - (t + 1)) = omega arith in
    let g : length (take t w) ≡ t = length-take-le t w (omega arith) in
    ap (λ (k : ℕ). extend (64 - (t + 1)) (take k (set w t x))) (add-one t)
    ∙ ap (λ (s : List ℕ). extend (64 - (t + 1)) s)
    (take-suc-set w t x (omega arith) ∙ ap (λ (y : ℕ). take t w ++ (y ∷ [])) (n ∙ sym (next-take w t h) ∙ ap (λ (k : ℕ). next k (take t w)) (sym g)))
    ∙ sym (extend_suc (64 - (t + 1)) (take t w)) ∙ ap (λ (k : ℕ). extend k (take t w)) (sym f)

length-extend : (n : ℕ) (W : List ℕ) → length (extend n W) ≡ n + length W
unfolding extend
length-extend zero W = omega arith
length-extend (suc n) W = length-extend n (W ++ (next (length W) W ∷ [])) ∙ omega (arith, length-append W (next (length W) W ∷ []))

pub length-words : (n : ℕ) (s : List ℕ) → length (words n s) ≡ n
unfolding words
length-words zero s = refl
length-words (suc n) s = ap suc (length-words n (drop 4 s))

pub length-schedule : (s : List ℕ) → length (schedule (words 16 s)) ≡ 64
unfolding schedule
length-schedule s = length-extend 48 (words 16 s) ∙ ap (λ (k : ℕ). 48 + k) (length-words 16 s)

-- ---- each of its words by itself

words_at : (n : ℕ) (m : List ℕ) (i : ℕ) → i < n → words n m ! i ≡ be_nat (part m (4 * i) 4)
unfolding words part
words_at zero m i h = absurd (omega arith)
words_at (suc n) m zero h = refl
words_at (suc n) m (suc i) h =
    let e : 4 + 4 * i ≡ 4 * suc i = omega arith in
    words_at n (drop 4 m) i (omega arith) ∙ ap be_nat (part-drop m 4 (4 * i) 4 ∙ ap (λ (j : ℕ). part m j 4) e)

pub extend_keeps : (n : ℕ) (w : List ℕ) (i : ℕ) → i < length w → extend n w ! i ≡ w ! i
unfolding extend
extend_keeps zero w i h = refl
extend_keeps (suc n) w i h =
    extend_keeps n (w ++ (next (length w) w ∷ [])) i (omega (arith, length-append w (next (length w) w ∷ [])))
    ∙ get_or-append w (next (length w) w ∷ []) 0 i h

pub first_words : FirstWords
unfolding schedule
first_words m t h = extend_keeps 48 (words 16 m) t (omega (arith, length-words 16 m)) ∙ words_at 16 m t h

-- what a word follows from is the same in a longer list
next-extend : (n : ℕ) (w : List ℕ) (t : ℕ) → 16 ≤ t → t ≤ length w → next t (extend n w) ≡ next t w
unfolding next
next-extend n w t h l = rw (extend_keeps n w (t - 2) (omega arith), extend_keeps n w (t - 7) (omega arith), extend_keeps n w (t - 15) (omega arith), extend_keeps n w (t - 16) (omega arith))

extend_at : (n : ℕ) (w : List ℕ) (j : ℕ) → 16 ≤ length w → j < n → extend n w ! (length w + j) ≡ next (length w + j) (extend n w)
unfolding extend
extend_at zero w j h l = absurd (omega arith)
extend_at (suc n) w zero h l =
    let x = next (length w) w in
    let more : length w < length (w ++ (x ∷ [])) = omega (arith, length-append w (x ∷ [])) in
    rw (add-zero (length w)) (extend_keeps n (w ++ (x ∷ [])) (length w) more ∙ get_or_at w x [] 0 (length w) refl ∙ sym (next-extend (suc n) w (length w) h (le_refl (length w))))
extend_at (suc n) w (suc j) h l =
    let v = w ++ (next (length w) w ∷ []) in
    let e : length v + j ≡ length w + suc j = omega (arith, length-append w (next (length w) w ∷ [])) in
    subst (λ (i : ℕ). extend n v ! i ≡ next i (extend n v)) e (extend_at n v j (omega (arith, length-append w (next (length w) w ∷ []))) (omega arith))

pub later_words : LaterWords
unfolding schedule next
later_words m t h l =
    let w = words 16 m in
    let e : length w + (t - 16) ≡ t = omega (arith, length-words 16 m) in
    subst (λ (i : ℕ). extend 48 w ! i ≡ next i (extend 48 w)) e (extend_at 48 w (t - 16) (omega (arith, length-words 16 m)) (omega arith))

pub length_k : length K ≡ 64
unfolding K
length_k = refl

pub sixty_four : SixtyFour
sixty_four m = (length_k, length-schedule m)

-- ---- the rounds

pub rounds_turn : (ks ws : List ℕ) (t : ℕ) (v : Words) → t < length ks → t < length ws → rounds (drop (t + 1) ks) (drop (t + 1) ws) (round v (ks ! t) (ws ! t)) ≡ rounds (drop t ks) (drop t ws) v
unfolding rounds
rounds_turn ks ws t v h l = rw (add-one t, drop-cons ks t 0 h, drop-cons ws t 0 l)

pub rounds_end : (ks ws : List ℕ) (t : ℕ) (v : Words) → length ks ≤ t → rounds (drop t ks) (drop t ws) v ≡ v
unfolding rounds
rounds_end ks ws t v h = rw (drop_of_length-le ks h)

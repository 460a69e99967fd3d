-- Going down a list of rules, by number. Assumes nothing.
use mathlib.Core.Path.{◌≡◌, refl, sym, ◌∙◌}
use mathlib.Core.Bool.{Bool, true, false, true≢false, cond, not, ◌&&◌, ◌||◌}
use mathlib.Core.List.{List, [], ◌∷◌, ◌++◌}
use Prim.Native.Nat.{ℕ, zero, suc, ◌<◌}
use native.Mathlib.Omega.{arith}
use borrow.Author.Tests.{eq-eqb, ne_eqb, ltb-true}
use lib.Dec.{leb, ltb}
use Rattle.std.proofs.Common.{is_le, nat_cmp}
use Rattle.std.proofs.lemmas.Grind.{common_steps}
use Rattle.std.specs.Prelude.{Result, Ok, Err}
use Rattle.std.specs.Result.{is_err}
use Rattle.settings.specs.declared.refusal.Refusal.{Refusal}
use Rattle.settings.specs.declared.refusal.Refusal.TheVariants.{Settings, Regions, Length, Kind, Content, Party, ViewBelow, ViewAbove, Certificate, Repeated, Conflicting, ParentMissing, ParentWrong, StoreFull, Turn, ContentsTooLong, NameWrong}
use Rattle.settings.specs.Refusal.{number, refused}
use Rattle.settings.specs.Answer.{refuses, Rule, judge}
use Rattle.codec.proofs.Order.{and_true}
use Rattle.refusals.specs.Number.{number_of, answer_of, first_of, or_else, numbered}

-- a test that fails, and one that holds
pub skip : (x : Rule) (xs : List Rule) {k : ℕ} → x.test ≡ false → k ≡ first_of xs → k ≡ first_of (x ∷ xs)
unfolding first_of
skip x xs e h = rw e h

pub hit : (x : Rule) (xs : List Rule) → x.test ≡ true → x.number ≡ first_of (x ∷ xs)
unfolding first_of
hit x xs e = rw e

pub none : 0 ≡ first_of []
unfolding first_of
none = refl

-- what is not refused passes every test
pub passes : (x : Rule) (xs : List Rule) → ltb 0 x.number ≡ true → first_of (x ∷ xs) ≡ 0 → (x.test ≡ false) × (first_of xs ≡ 0)
unfolding first_of
passes x xs p e = go x.test refl e
  where
    go : (t : Bool) → x.test ≡ t → cond t x.number (first_of xs) ≡ 0 → (x.test ≡ false) × (first_of xs ≡ 0)
    go true q h = let l = ltb-true 0 x.number p in absurd (omega arith)
    go false q h = (q, h)

-- ---- tests
pub or_left : (p q : Bool) → p ≡ true → (p || q) ≡ true
or_left p q e = rw e

pub or_right : (p q : Bool) → p ≡ false → q ≡ true → (p || q) ≡ true
or_right p q e f = rw (e, f)

pub or_none : (p q : Bool) → p ≡ false → q ≡ false → (p || q) ≡ false
or_none p q e f = rw (e, f)

pub and_both : (p q : Bool) → p ≡ true → q ≡ true → (p && q) ≡ true
and_both p q e f = rw (e, f)

pub and_not : (p q : Bool) → p ≡ false → (p && q) ≡ false
and_not p q e = rw e

pub and_nor : (p q : Bool) → p ≡ true → q ≡ false → (p && q) ≡ false
and_nor p q e f = rw (e, f)

pub is_not : (p : Bool) → p ≡ false → not p ≡ true
is_not p e = rw e

pub isnt_not : (p : Bool) → p ≡ true → not p ≡ false
isnt_not p e = rw e

-- ---- a number and an answer
pub number_first : {A : Type 0} (rules : List Rule) (a : A) → number_of (judge rules a) ≡ first_of rules
unfolding number_of judge first_of
number_first [] a = refl
number_first (x ∷ xs) a = go x.test (number_first xs a)
  where
    go : (t : Bool) → number_of (judge xs a) ≡ first_of xs → number_of (cond t (refuses x.number) (judge xs a)) ≡ cond t x.number (first_of xs)
    go true h = refl
    go false h = h

-- a number that is not 0 is a refusal
refusal : {A : Type 0} (a : A) (k : ℕ) → 0 < k → refuses k ≡ answer_of k a
unfolding answer_of
refusal a zero h = absurd (omega arith)
refusal a (suc k) h = refl

pub answer_first : {A : Type 0} (rules : List Rule) (a : A) → numbered rules ≡ true → judge rules a ≡ answer_of (first_of rules) a
unfolding numbered judge first_of answer_of
answer_first [] a e = refl
answer_first (x ∷ xs) a e = go x.test (answer_first xs a (and_true (ltb 0 x.number) _ e).1)
  where
    go : (t : Bool) → judge xs a ≡ answer_of (first_of xs) a → cond t (refuses x.number) (judge xs a) ≡ answer_of (cond t x.number (first_of xs)) a
    go true h = refusal a x.number (ltb-true 0 x.number (and_true (ltb 0 x.number) _ e).0)
    go false h = h

-- ---- one list after another
pub first_then : (a b : List Rule) → numbered a ≡ true → first_of (a ++ b) ≡ or_else (first_of a) (first_of b)
unfolding numbered first_of or_else
first_then [] b e = refl
first_then (x ∷ xs) b e = go x.test (first_then xs b (and_true (ltb 0 x.number) _ e).1)
  where
    go : (t : Bool) → first_of (xs ++ b) ≡ or_else (first_of xs) (first_of b) → cond t x.number (first_of (xs ++ b)) ≡ or_else (cond t x.number (first_of xs)) (first_of b)
    go true h = let l = ltb-true 0 x.number (and_true (ltb 0 x.number) _ e).0 in rw (ne_eqb x.number 0 (λ q. omega arith))
    go false h = h

pub numbered_then : (a b : List Rule) → numbered a ≡ true → numbered b ≡ true → numbered (a ++ b) ≡ true
unfolding numbered
numbered_then [] b e f = f
numbered_then (x ∷ xs) b e f = and_both (ltb 0 x.number) _ (and_true (ltb 0 x.number) _ e).0 (numbered_then xs b (and_true (ltb 0 x.number) _ e).1 f)

pub else_some : (k l : ℕ) → (k ≡ 0 → ⊥) → or_else k l ≡ k
unfolding or_else
else_some k l h = rw (ne_eqb k 0 h)

pub else_none : (k l : ℕ) → k ≡ 0 → or_else k l ≡ l
unfolding or_else
else_none k l h = rw (eq-eqb k 0 h)

pub else_both : (k l : ℕ) → or_else k l ≡ 0 → (k ≡ 0) × (l ≡ 0)
else_both zero l e = (refl, sym (else_none 0 l refl) ∙ e)
else_both (suc k) l e = let h : suc k ≡ 0 = sym (else_some (suc k) l (λ q. omega arith)) ∙ e in absurd (omega arith)

-- what `<=` of two views says, as 01's lists do
pub upto : {r t : Bool} (a b : ℕ) → r ≡ is_le (nat_cmp a b) → r ≡ t → leb a b ≡ t
upto a b e f = same a b ∙ sym e ∙ f
  where
    same : (a b : ℕ) → leb a b ≡ is_le (nat_cmp a b)
    same a b = grind (arith, common_steps)

-- ---- results
-- no refusal has the number of acceptance
pub some_number : (r : Refusal) → number r ≡ 0 → ⊥
unfolding number
some_number Settings e = omega (arith, e)
some_number Regions e = omega (arith, e)
some_number Length e = omega (arith, e)
some_number Kind e = omega (arith, e)
some_number Content e = omega (arith, e)
some_number Party e = omega (arith, e)
some_number ViewBelow e = omega (arith, e)
some_number ViewAbove e = omega (arith, e)
some_number Certificate e = omega (arith, e)
some_number Repeated e = omega (arith, e)
some_number Conflicting e = omega (arith, e)
some_number ParentMissing e = omega (arith, e)
some_number ParentWrong e = omega (arith, e)
some_number StoreFull e = omega (arith, e)
some_number Turn e = omega (arith, e)
some_number ContentsTooLong e = omega (arith, e)
some_number NameWrong e = omega (arith, e)

pub refused_none : {A : Type 0} {p : Result A Refusal} {x : A} → p ≡ Ok x → refused p ≡ 0
unfolding refused
refused_none e = rw e

pub refused_some : {A : Type 0} {p : Result A Refusal} {r : Refusal} → p ≡ Err r → refused p ≡ 0 → ⊥
unfolding refused
refused_some {r = r} e = rw e (some_number r)

pub is_refused : {A : Type 0} {t : Bool} (p : Result A Refusal) → t ≡ is_err p → t ≡ true → refused p ≡ 0 → ⊥
unfolding refused
is_refused (Ok x) e f = absurd (true≢false (sym f ∙ e))
is_refused (Err r) e f = some_number r

pub isnt_refused : {A : Type 0} {t : Bool} (p : Result A Refusal) → t ≡ is_err p → t ≡ false → refused p ≡ 0
unfolding refused
isnt_refused (Ok x) e f = refl
isnt_refused (Err r) e f = absurd (true≢false (sym e ∙ f))

-- what `?` passes on has the number of what it was
pub passed_on : {A B : Type 0} {p : Result A Refusal} {q : Result B Refusal} {r s : Refusal} → p ≡ Err r → q ≡ Err s → s ≡ r → refused q ≡ refused p
unfolding refused
passed_on e f g = rw (e, f, g)

-- a `?` between two lists: the refusal of the first, or what the second says
pub stops : {A B : Type 0} {p : Result A Refusal} {q : Result B Refusal} {r s : Refusal} (a b : List Rule) → numbered a ≡ true → refused p ≡ first_of a → p ≡ Err r → q ≡ Err s → s ≡ r
    → refused q ≡ first_of (a ++ b)
stops a b h i e f g = passed_on e f g ∙ i ∙ sym (first_then a b h ∙ else_some (first_of a) (first_of b) (λ z. refused_some e (i ∙ z)))

pub goes : {A : Type 0} {p : Result A Refusal} {x : A} {k : ℕ} (a b : List Rule) → numbered a ≡ true → refused p ≡ first_of a → p ≡ Ok x → k ≡ first_of b → k ≡ first_of (a ++ b)
goes a b h i e f = f ∙ sym (first_then a b h ∙ else_none (first_of a) (first_of b) (sym i ∙ refused_none e))

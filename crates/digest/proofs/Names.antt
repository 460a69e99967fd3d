-- The laws of names. Assumes nothing.
use mathlib.Core.Path.{◌≡◌, sym, ap, ◌∙◌}
use mathlib.Core.Bool.{Bool, true, false, cond}
use mathlib.Core.List.{List, ◌++◌}
use Prim.Native.Nat.{ℕ, ◌^◌, ◌<◌}
use Rattle.settings.specs.Answer.{accepts, refuses, judge}
use borrow.Author.Tests.{lt-ltb, le-ltb}
use lib.Dec.{lit<, lit≤}
use lib.ListN.{length, take, drop, replicate}
use lib.Seq.{take_at, drop_at}
use Rattle.codec.specs.Bytes.{le_bytes, le_nat}
use Rattle.codec.specs.Names.{zero_name}
use Rattle.codec.proofs.Le.{length-le_bytes, le_nat-le_bytes}
use Rattle.digest.specs.Name.{preimage, name_of, longest_contents, too_long, name_call}
use Rattle.digest.specs.Examples.{LongestNamed, LongerRefused}
use Rattle.digest.specs.Laws.{OneBlock, GivesName, RefusesBy16}

module _ (parent : List ℕ) (height : ℕ) (contents : List ℕ) where
  pub name_refused : too_long contents ≡ true → name_call parent height contents ≡ refuses 16
  unfolding name_call judge
  name_refused e = ap (λ (b : Bool). cond b (refuses 16) (accepts (name_of parent height contents))) e

  pub name_given : too_long contents ≡ false → name_call parent height contents ≡ accepts (name_of parent height contents)
  unfolding name_call judge
  name_given e = ap (λ (b : Bool). cond b (refuses 16) (accepts (name_of parent height contents))) e

pub gives_name : GivesName
gives_name p h s l = name_given p h s (le-ltb longest_contents (length s) l)

pub refuses_by_16 : RefusesBy16
refuses_by_16 p h s l = name_refused p h s (lt-ltb longest_contents (length s) l)

pub longest_named : LongestNamed
longest_named = gives_name zero_name 1 (replicate 4096 0) (lit≤ tt)

pub longer_refused : LongerRefused
longer_refused = refuses_by_16 zero_name 1 (replicate 4097 0) (lit< tt)

-- a number in front, in k bytes, and what follows it
number_in_front : (k h i : ℕ) (s t : List ℕ) → le_bytes k h ++ s ≡ le_bytes k i ++ t → h < 256 ^ k → i < 256 ^ k → (h ≡ i) × (s ≡ t)
number_in_front k h i s t e a b =
    let bytes = sym (take_at (le_bytes k h) s k (length-le_bytes k h)) ∙ ap (take k) e ∙ take_at (le_bytes k i) t k (length-le_bytes k i) in
    (sym (le_nat-le_bytes k h a) ∙ ap le_nat bytes ∙ le_nat-le_bytes k i b, sym (drop_at (le_bytes k h) s k (length-le_bytes k h)) ∙ ap (drop k) e ∙ drop_at (le_bytes k i) t k (length-le_bytes k i))

pub one_block : OneBlock
unfolding preimage
one_block p q h i s t a b c d e =
    let first : p ≡ q = sym (take_at p _ 32 a) ∙ ap (take 32) e ∙ take_at q _ 32 b in
    (first, number_in_front _ h i s t (sym (drop_at p _ 32 a) ∙ ap (drop 32) e ∙ drop_at q _ 32 b) c d)

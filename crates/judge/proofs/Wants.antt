-- What a call wants, one place after another. Assumes nothing.
use mathlib.Core.Path.{◌≡◌, refl, sym, ◌∙◌}
use mathlib.Core.Bool.{true, false}
use mathlib.Core.List.{List, [], ◌++◌}
use Prim.Native.Nat.{ℕ}
use borrow.Author.Tests.{ne_eqb}
use Rattle.settings.specs.Answer.{Rule, ◌⇒◌}
use Rattle.wire.specs.Fields.{kind_of}
use Rattle.wire.specs.Shape.{shape_rules}
use Rattle.wire.specs.Content.{by_block, by_timeouts, Content, vote, commit, certificate, timeout, proposal, block, release, certificate_of, content}
use Rattle.blocks.specs.declared.Block.{Block}
use Rattle.memory.specs.Layout.{entry_of}
use Rattle.counters.specs.declared.Counters.{Counters}
use Rattle.protocol.specs.Work.{Work, n}
use Rattle.protocol.specs.Refusals.{region_rules, refusals}
use Rattle.protocol.proofs.Branch.{by_kind}
use Rattle.refusals.specs.Number.{first_of, numbered}
use Rattle.refusals.specs.Early.{lent, early_rules, proposal_first, proposal_rules, voted_rules, early_propose}
use Rattle.refusals.proofs.Numbers.{skip, hit, first_then, else_some, else_none}
use Rattle.std.specs.Prelude.{Result, Ok, Err}
use Rattle.settings.specs.declared.refusal.Refusal.{Refusal}
use Rattle.settings.specs.Refusal.{refused}
use Rattle.judge.specs.declared.Want.{Want}
use Rattle.judge.specs.Want.{Wanted, nothing, accepted, wanted, names, safe_block, asked, want_of, record_want, propose_want}
use Rattle.judge.specs.Contents.{propose_want_with}
use Rattle.digest.specs.Name.{too_long}
use Rattle.protocol.specs.Contents.{given, too_long_rule}
use native.Mathlib.Omega.{arith}

-- ---- the early lists do not look at the store
pub early_store : (c : Counters) (m : List ℕ) (s : List Block) (r : List ℕ) (k : Content) → early_rules (lent c m []) r k ≡ early_rules (lent c m s) r k
unfolding early_rules refusals proposal_first proposal_rules voted_rules
early_store c m s r (vote j v x) = refl
early_store c m s r (commit j v x) = refl
early_store c m s r (certificate j (by_block v x g)) = refl
early_store c m s r (certificate j (by_timeouts v ts)) = refl
early_store c m s r (timeout t) = refl
early_store c m s r (proposal j v x y h k) = refl
early_store c m s r (block j x y h) = refl
early_store c m s r (release j v x h) = refl

-- ---- no rule of 2 to 5 has the number of acceptance
pub regions_numbered : (W : Work) (room : ℕ) → numbered (region_rules W room) ≡ true
unfolding region_rules numbered
regions_numbered W room = refl

pub shape_numbered : (n : ℕ) (r : List ℕ) → numbered (shape_rules n r) ≡ true
unfolding numbered
shape_numbered n r = refl

-- ---- a record that asks nothing
pub asked_none : (m r : List ℕ) → (kind_of r ≡ 7 → ⊥) → (kind_of r ≡ 8 → ⊥) → nothing 0 ≡ asked m (content r)
unfolding asked
asked_none m r k7 k8 =
    by_kind (λ q. nothing 0 ≡ asked m q) r (λ j v x. refl) (λ j v x. refl) (λ t. refl) (λ j k. refl) (λ e j v x y h k. absurd (k7 e)) (λ e j x y h. absurd (k8 e)) (λ e j v x h. refl)

-- ---- what `?` passes on, and what is wanted behind it
pub wanted_err : {A : Type 0} {p : Result A Refusal} {q : Result Want Refusal} {r t : Refusal} → p ≡ Err r → q ≡ Err t → t ≡ r → wanted q ≡ nothing (refused p)
unfolding wanted refused
wanted_err e f g = rw (e, f, g)

pub wanted_ok : (w : Want) → wanted (Ok w) ≡ accepted w
unfolding wanted
wanted_ok w = refl

-- ---- a refusal, and none
want_some : (k : ℕ) (w : Wanted) → (k ≡ 0 → ⊥) → nothing k ≡ want_of k w
unfolding want_of
want_some k w h = rw (ne_eqb k 0 h)

want_none : (k : ℕ) (w : Wanted) → k ≡ 0 → w ≡ want_of k w
unfolding want_of
want_none k w h = rw h

-- the first number of two lists, by that of the first
after : (a b : List Rule) → numbered a ≡ true → first_of a ≡ 0 → first_of (a ++ b) ≡ first_of b
after a b n e = first_then a b n ∙ else_none (first_of a) (first_of b) e

before : (a b : List Rule) {k : ℕ} → numbered a ≡ true → k ≡ first_of a → (k ≡ 0 → ⊥) → k ≡ first_of (a ++ b)
before a b n e h = e ∙ sym (first_then a b n ∙ else_some (first_of a) (first_of b) (λ q. h (e ∙ q)))

module _ (W : Work) (room : ℕ) (r : List ℕ) where
  record_is : {k : ℕ} → k ≡ first_of (region_rules W room ++ (shape_rules (n W) r ++ early_rules W r (content r))) → (k ≡ 0 → ⊥) → nothing k ≡ record_want W room r
  unfolding record_want
  record_is {k} e h = rw (← e) (want_some k _ h)

  pub record_region : {k : ℕ} → k ≡ first_of (region_rules W room) → (k ≡ 0 → ⊥) → nothing k ≡ record_want W room r
  record_region e h = record_is (before _ _ (regions_numbered W room) e h) h

  pub record_shape : {k : ℕ} → first_of (region_rules W room) ≡ 0 → k ≡ first_of (shape_rules (n W) r) → (k ≡ 0 → ⊥) → nothing k ≡ record_want W room r
  record_shape p e h = record_is (before _ _ (shape_numbered (n W) r) e h ∙ sym (after _ _ (regions_numbered W room) p)) h

  pub record_early : {k : ℕ} → first_of (region_rules W room) ≡ 0 → first_of (shape_rules (n W) r) ≡ 0 → k ≡ first_of (early_rules W r (content r)) → (k ≡ 0 → ⊥)
      → nothing k ≡ record_want W room r
  record_early p q e h = record_is (e ∙ sym (after _ _ (regions_numbered W room) p ∙ after _ _ (shape_numbered (n W) r) q)) h

  pub record_asked : {w : Wanted} → first_of (region_rules W room) ≡ 0 → first_of (shape_rules (n W) r) ≡ 0 → first_of (early_rules W r (content r)) ≡ 0
      → w ≡ asked W.memory (content r) → w ≡ record_want W room r
  unfolding record_want
  record_asked p q e h = h ∙ want_none _ _ (after _ _ (regions_numbered W room) p ∙ after _ _ (shape_numbered (n W) r) q ∙ e)

module _ (W : Work) (room : ℕ) (x : List ℕ) where
  propose_is : {k : ℕ} → k ≡ first_of (region_rules W room ++ early_propose W x) → (k ≡ 0 → ⊥) → nothing k ≡ propose_want W room x
  unfolding propose_want
  propose_is {k} e h = rw (← e) (want_some k _ h)

  pub propose_region : {k : ℕ} → k ≡ first_of (region_rules W room) → (k ≡ 0 → ⊥) → nothing k ≡ propose_want W room x
  propose_region e h = propose_is (before _ _ (regions_numbered W room) e h) h

  pub propose_early_lem : {k : ℕ} → first_of (region_rules W room) ≡ 0 → k ≡ first_of (early_propose W x) → (k ≡ 0 → ⊥) → nothing k ≡ propose_want W room x
  propose_early_lem p e h = propose_is (e ∙ sym (after _ _ (regions_numbered W room) p)) h

  pub propose_asked : {w : Wanted} → first_of (region_rules W room) ≡ 0 → first_of (early_propose W x) ≡ 0
      → w ≡ names W.memory x (safe_block W.memory (certificate_of (entry_of W.memory))) → w ≡ propose_want W room x
  unfolding propose_want
  propose_asked p e h = h ∙ want_none _ _ (after _ _ (regions_numbered W room) p ∙ e)

-- ---- propose with contents: 16 stands between
module _ (W : Work) (room : ℕ) (x s : List ℕ) where
  with_is : {k : ℕ} → k ≡ first_of (region_rules W room ++ (too_long_rule (given s) ++ early_propose W x)) → (k ≡ 0 → ⊥) → nothing k ≡ propose_want_with W room x s
  unfolding propose_want_with
  with_is {k} e h = rw (← e) (want_some k _ h)

  pub with_region : {k : ℕ} → k ≡ first_of (region_rules W room) → (k ≡ 0 → ⊥) → nothing k ≡ propose_want_with W room x s
  with_region e h = with_is (before _ _ (regions_numbered W room) e h) h

  pub with_length : first_of (region_rules W room) ≡ 0 → too_long s ≡ true → nothing 16 ≡ propose_want_with W room x s
  with_length p t = with_is (hit (too_long s ⇒ 16) (early_propose W x) t ∙ sym (after _ _ (regions_numbered W room) p)) (λ z. omega arith)

  pub with_early : {k : ℕ} → first_of (region_rules W room) ≡ 0 → too_long s ≡ false → k ≡ first_of (early_propose W x) → (k ≡ 0 → ⊥) → nothing k ≡ propose_want_with W room x s
  with_early p t e h = with_is (skip (too_long s ⇒ 16) (early_propose W x) t e ∙ sym (after _ _ (regions_numbered W room) p)) h

  pub with_asked : {w : Wanted} → first_of (region_rules W room) ≡ 0 → too_long s ≡ false → first_of (early_propose W x) ≡ 0
      → w ≡ names W.memory x (safe_block W.memory (certificate_of (entry_of W.memory))) → w ≡ propose_want_with W room x s
  unfolding propose_want_with
  with_asked p t e h = h ∙ want_none _ _ (after _ _ (regions_numbered W room) p ∙ sym (skip (too_long s ⇒ 16) (early_propose W x) t (sym e)))

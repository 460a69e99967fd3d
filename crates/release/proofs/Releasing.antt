-- One release is `release` of protocol, and the releases one after another are `again`: the laws of `release_all`. Assumes nothing.
use Prim.Native.Nat.{ℕ, zero, suc, ◌+◌, ◌-◌, ◌*◌, ◌≤◌, ◌<◌}
use native.Mathlib.Omega.{arith}
use mathlib.Core.Path.{◌≡◌, refl, sym, ap, ◌∙◌}
use mathlib.Core.Bool.{Bool, true, false, cond}
use mathlib.Core.List.{List, [], ◌∷◌, ◌++◌}
use lib.ListN.{length, take, drop, set, length-append, length-drop, take-append-drop}
use lib.Seq.{sets, sets-eq, length-take-le, take-append_seam, drop-append-add, drop-drop}
use Rattle.std.specs.Prelude.{Some, None}
use Rattle.codec.specs.Bytes.{patch}
use Rattle.wire.specs.Fields.{release_length}
use Rattle.blocks.specs.declared.Block.{Block}
use Rattle.blocks.specs.Store.{descends, ancestry, releases, kept, dropped}
use Rattle.blocks.proofs.Kept.{dropped_held}
use Rattle.blocks.proofs.Linked.{In}
use Rattle.blocks.proofs.Fewer.{held_entry, released_fewer}
use Rattle.memory.specs.Layout.{own_of, block_count_of, with_block_count}
use Rattle.memory.specs.Window.{lowest}
use Rattle.memory.proofs.Header.{length_with_count}
use Rattle.counters.specs.Counters.{releasing}
use Rattle.protocol.specs.Work.{Work, own, view_now, tip, blocks, held_block, release}
use Rattle.protocol.specs.Refusals.{regular}
use Rattle.protocol.specs.Rules.{Pair, lowest_pair, ballot_views, rule_d, again}
use Rattle.protocol.proofs.call.Output.{lowest_is}
use Rattle.act.specs.declared.Draft.{Draft}
use Rattle.act.specs.Draft.{work_of, Left, left, left_by, Ready}
use Rattle.release.specs.Search.{target, target_of, lowest_target}
use Rattle.release.specs.Released.{held_blocks, Releases, Released}
use Rattle.release.specs.declared.Target.{Target}
use Rattle.release.proofs.Regular.{bounded, regular_same, count_after, release_regular}

-- ---- RULE D IN TERMS OF THE TARGET
module _ (W : Work) where
  abbrev pair : Pair
  pair = lowest_pair (lowest (view_now W)) (ballot_views W) W

  module _ (t : Target) (e : lowest_target W ≡ Some t) where
    pair_is : (pair.name.some ≡ true) × (t ≡ target pair.at (held_block W pair.name.name).block)
    unfolding lowest_target target_of
    pair_is = go pair.name.some refl e
      where
        go : (s : Bool) → pair.name.some ≡ s → cond s (Some (target pair.at (held_block W pair.name.name).block)) None ≡ Some t
            → (pair.name.some ≡ true) × (t ≡ target pair.at (held_block W pair.name.name).block)
        go true f e = (f, cc)
        go false f e = absurd cc

    runs : rule_d W ≡ release t.view.0 t.block W
    unfolding rule_d
    runs = rw (pair_is.0, pair_is.1) refl

    -- what is released is held and descends from the tip
    target_down : (descends (tip W) (blocks W) t.block ≡ true) × In t.block (blocks W)
    target_down =
        let r = lowest_is (lowest (view_now W)) (ballot_views W) W pair_is.0 in
        rw pair_is.1 (r.leads, held_entry (tip W) (blocks W) pair.name.name r.is r.leads)

  rests : lowest_target W ≡ None → rule_d W ≡ W
  unfolding rule_d lowest_target target_of
  rests e = go pair.name.some e
    where
      go : (s : Bool) → cond s (Some (target pair.at (held_block W pair.name.name).block)) None ≡ None → cond s (release pair.at (held_block W pair.name.name).block W) W ≡ W
      go true e = absurd cc
      go false e = refl

-- "until none applies": once there is nothing to release, there is nothing
again_rests : (k : ℕ) (W : Work) → lowest_target W ≡ None → again k W ≡ W
unfolding again
again_rests zero W h = refl
again_rests (suc k) W h = ap (again k) (rests W h) ∙ again_rests k W h

again_none : (k : ℕ) (W : Work) → k ≤ 0 → again k W ≡ W
unfolding again
again_none zero W h = refl
again_none (suc k) W h = absurd (omega (arith, h))

again_more : (i k : ℕ) (W : Work) → i < k → again (k - i) W ≡ again (k - (i + 1)) (rule_d W)
unfolding again
again_more i k W h = let e : k - i ≡ suc (k - (i + 1)) = omega (arith, h) in rw e refl

-- ---- THE OUTPUT REGION
patch-sets : (o : List ℕ) (at : ℕ) (v : List ℕ) → patch o at v ≡ sets o at v
unfolding patch
patch-sets o at [] = refl
patch-sets o at (x ∷ v) = patch-sets (set o at x) (suc at) v

length_written : (o v : List ℕ) (at : ℕ) → at ≤ length o → length (take at o ++ v) ≡ at + length v
length_written o v at h = length-append (take at o) v ∙ ap (λ (k : ℕ). k + length v) (length-take-le at o h)

-- what is put behind the written bytes is what is written more, and the bytes after it stay
patched : (o v : List ℕ) (at : ℕ) → at + length v ≤ length o → patch o at v ≡ (take at o ++ v) ++ drop (length (take at o ++ v)) o
patched o v at h = patch-sets o at v ∙ sets-eq v o at h ∙ ap (λ (k : ℕ). (take at o ++ v) ++ drop k o) (sym (length_written o v at (omega arith)))

-- nothing more is written
pub left_same : (d : Draft) (m o : List ℕ) (s : List Block) → d.at ≤ length o → left d m o s ≡ left_by (work_of d m o s) o
left_same d m o s h =
    let n : length (take d.at o) ≡ d.at = length-take-le d.at o h in
    rw n (let e : o ≡ take d.at o ++ drop d.at o = sym (take-append-drop d.at o) in ap (λ (z : List ℕ). left d m z s) e)

-- a step from what another has left
work_same : (e : Draft) (m o o' : List ℕ) (s : List Block) (W : Work) → left e m o' s ≡ left_by W o → work_of e m o' s ≡ W
work_same e m o o' s W h =
    let out : take e.at o' ≡ W.out =
    ap (λ (l : Left). take l.at l.output) h ∙ take-append_seam W.out (drop (length W.out) o) in
    ap (λ (l : Left). record { counters = l.counters; memory = l.memory; store = l.store; out = take e.at o' }) h
    ∙ ap (λ (z : List ℕ). record { counters = W.counters; memory = W.memory; store = W.store; out = z }) out

drop_over : (n : ℕ) (a o : List ℕ) → length a ≤ n → drop n (a ++ drop (length a) o) ≡ drop n o
drop_over n a o h =
    let k = n - length a in
    let e : n ≡ length a + k = omega arith in
    ap (λ (z : ℕ). drop z (a ++ drop (length a) o)) e ∙ drop-append-add a (drop (length a) o) k ∙ drop-drop k (length a) o ∙ ap (λ (z : ℕ). drop z o) (sym e)

left_over : (W X : Work) (o : List ℕ) → length W.out ≤ length X.out → left_by X (W.out ++ drop (length W.out) o) ≡ left_by X o
left_over W X o h = rw (drop_over (length X.out) W.out o h) refl

-- ---- the releases only add to it
release_grows : (v : ℕ) (b : Block) (W : Work) → length W.out ≤ length (release v b W).out
unfolding release
release_grows v b W = omega (arith, length-append W.out (releases (own W) v (ancestry (tip W) (blocks W) b)))

rule_grows : (W : Work) → length W.out ≤ length (rule_d W).out
unfolding rule_d
rule_grows W = go (pair W).name.some
  where
    go : (s : Bool) → length W.out ≤ length (cond s (release (pair W).at (held_block W (pair W).name.name).block W) W).out
    go true = release_grows (pair W).at (held_block W (pair W).name.name).block W
    go false = omega arith

again_grows : (k : ℕ) (W : Work) → length W.out ≤ length (again k W).out
unfolding again
again_grows zero W = omega arith
again_grows (suc k) W = omega (arith, rule_grows W, again_grows k (rule_d W))

-- ---- ONE RELEASE IN PLACE
module _ (d : Draft) (t : Target) (m o : List ℕ) (s : List Block) where
  abbrev W₀ : Work
  W₀ = work_of d m o s

  abbrev W₁ : Work
  W₁ = release t.view.0 t.block W₀

  abbrev row : List Block
  row = ancestry d.counters.tip (held_blocks m s) t.block

  -- by what its calls leave: the line is written behind the draft, the rest is dropped, and their number is put
  pub released : Releases d t m o s → (at : ℕ) (o₁ m₁ : List ℕ) (s₁ : List Block) → (at ≡ d.at + release_length * length row)
      × ((length (releases (own_of m) t.view.0 row) ≡ release_length * length row) × (o₁ ≡ patch o d.at (releases (own_of m) t.view.0 row)))
      → s₁ ≡ dropped t.block (block_count_of m) s → m₁ ≡ with_block_count m (length (kept t.block (held_blocks m s)))
      → Released d t m o s (record { counters = releasing d.counters t.block; at = at }) m₁ o₁ s₁
  unfolding release
  released R at o₁ m₁ s₁ written rest count =
      let w = releases (own_of m) t.view.0 row in
      let fits : d.at + length w ≤ length o = omega (arith, R.room, written.1.0) in
      let n : at ≡ length (take d.at o ++ w) = omega (arith, written.0, written.1.0, length_written o w d.at (omega (arith, fits))) in
      record {
        leaves =
            rw (count, rest, written.1.1 ∙ patched o w d.at fits)
            (ap (λ (z : ℕ). let l : Left = record { counters = releasing d.counters t.block; at = z; memory = with_block_count m (length (kept t.block (held_blocks m s))); output = (take d.at o ++ w) ++ drop (length (take d.at o ++ w)) o; store = dropped t.block (block_count_of m) s } in l) n);
        place = written.0;
      }

  -- ---- where the target is what rule D releases, and the draft is ready for it
  module _ (R : Ready d m o (release_length * length (held_blocks m s))) (e : lowest_target W₀ ≡ Some t) where
    is_W₀ : regular W₀ ≡ true
    is_W₀ = regular_same (work_of d m o []) W₀ refl refl R.regular

    down : (descends d.counters.tip (held_blocks m s) t.block ≡ true) × In t.block (held_blocks m s)
    down = target_down W₀ t e

    fewer : length row + length (kept t.block (held_blocks m s)) ≤ length (held_blocks m s)
    fewer = released_fewer d.counters.tip (held_blocks m s) t.block down.0 down.1

    -- it can be released
    pub may_release : Releases d t m o s
    may_release = record { long = R.long; few = (bounded W₀ is_W₀).room; down = down.0; room = omega (arith, R.room, fewer) }

    module _ (d₁ : Draft) (m₁ o₁ : List ℕ) (s₁ : List Block) (done : Released d t m o s d₁ m₁ o₁ s₁) where
      work_is : work_of d₁ m₁ o₁ s₁ ≡ W₁
      work_is = work_same d₁ m₁ o o₁ s₁ W₁ done.leaves

      same_length : length o₁ ≡ length o
      same_length =
          let at_is : d₁.at ≡ length W₁.out = ap (λ (z : Left). z.at) done.leaves in
          let out_is : length o₁ ≡ length W₁.out + (length o - length W₁.out) =
          ap (λ (z : Left). length z.output) done.leaves ∙ length-append W₁.out (drop (length W₁.out) o) ∙ ap (λ (k : ℕ). length W₁.out + k) (length-drop (length W₁.out) o) in
          omega (arith, at_is, out_is, done.place, may_release.room)

      held_is : held_blocks m₁ s₁ ≡ kept t.block (held_blocks m s)
      unfolding release
      held_is =
          let m_is : m₁ ≡ with_block_count m (length (kept t.block (held_blocks m s))) = ap (λ (z : Left). z.memory) done.leaves in
          let s_is : s₁ ≡ dropped t.block (block_count_of m) s = ap (λ (z : Left). z.store) done.leaves in
          rw (m_is, s_is, (count_after W₀ t.block is_W₀ R.long).1) (dropped_held t.block (block_count_of m) s)

      pub within : d₁.at ≤ length o₁
      within = omega (arith, done.place, may_release.room, same_length)

      -- what is left is ready for the next
      pub ready_next : Ready d₁ m₁ o₁ (release_length * length (held_blocks m₁ s₁))
      unfolding release
      ready_next =
          let m_is : m₁ ≡ with_block_count m (length (kept t.block (held_blocks m s))) = ap (λ (z : Left). z.memory) done.leaves in
          record {
            long = omega (arith, R.long, ap length m_is, length_with_count m (length (kept t.block (held_blocks m s))));
            regular = regular_same (work_of d₁ m₁ o₁ s₁) (work_of d₁ m₁ o₁ []) refl refl (rw work_is (release_regular W₀ t.view.0 t.block R.long is_W₀));
            room = omega (arith, R.room, fewer, done.place, ap length held_is, same_length);
          }

      -- the turns that are left leave what they would have left before
      pub turn_more : (i k : ℕ) → i < k → left_by (again (k - (i + 1)) (work_of d₁ m₁ o₁ s₁)) o₁ ≡ left_by (again (k - i) W₀) o
      turn_more i k h =
          let X = again (k - i) W₀ in
          let same : again (k - (i + 1)) (work_of d₁ m₁ o₁ s₁) ≡ X = ap (again (k - (i + 1))) (work_is ∙ sym (runs W₀ t e)) ∙ sym (again_more i k W₀ h) in
          let grows : length W₁.out ≤ length X.out =
          rw (again_more i k W₀ h, runs W₀ t e) (again_grows (k - (i + 1)) W₁) in
          ap (λ (Y : Work). left_by Y o₁) same ∙ ap (left_by X) (ap (λ (z : Left). z.output) done.leaves) ∙ left_over W₁ X o grows

-- nothing is left to release, or no turn is left
pub turn_none : (d : Draft) (m o : List ℕ) (s : List Block) (k : ℕ) → d.at ≤ length o → lowest_target (work_of d m o s) ≡ None → left d m o s ≡ left_by (again k (work_of d m o s)) o
turn_none d m o s k h e = left_same d m o s h ∙ ap (λ (X : Work). left_by X o) (sym (again_rests k (work_of d m o s) e))

pub turns_over : (d : Draft) (m o : List ℕ) (s : List Block) (k : ℕ) → d.at ≤ length o → k ≤ 0 → left d m o s ≡ left_by (again k (work_of d m o s)) o
turns_over d m o s k h e = left_same d m o s h ∙ ap (λ (X : Work). left_by X o) (sym (again_none k (work_of d m o s) e))

-- What refusal 2 lets through, of counters and memory alone, and that a release keeps it so. Assumes nothing.
use Prim.Native.Nat.{ℕ, ◌≤◌}
use native.Mathlib.Omega.{arith}
use mathlib.Core.Path.{◌≡◌}
use mathlib.Core.Bool.{true, ◌&&◌}
use borrow.Author.Tests.{leb-true, le-leb}
use lib.Dec.{ltb, leb}
use lib.ListN.{length}
use Rattle.settings.specs.Quorum.{largest, last_view}
use Rattle.settings.specs.Opening.{most_leaders}
use Rattle.codec.proofs.Order.{and_true}
use Rattle.blocks.specs.declared.Block.{Block}
use Rattle.blocks.specs.Store.{kept}
use Rattle.blocks.proofs.Dropping.{held_within}
use Rattle.blocks.proofs.Fewer.{kept_within}
use Rattle.memory.specs.Layout.{memory_length, block_count_of, leader_count_of, with_block_count}
use Rattle.memory.proofs.Header.{count_put, count_settings, count_own, count_leaders, count_entry}
use Rattle.counters.specs.Counters.{releasing}
use Rattle.protocol.specs.Work.{Work, n, own, view_now, blocks, release}
use Rattle.protocol.specs.Refusals.{store_length, regular, entry_regular}

pub record Bounded (W : Work) : Type 0 where
  pub few : n W ≤ largest
  pub member : ltb (own W) (n W) ≡ true
  pub view_first : 1 ≤ view_now W
  pub view_last : view_now W ≤ last_view
  pub room : block_count_of W.memory ≤ store_length
  pub entry : entry_regular W ≡ true
  pub leaders : (leb 1 (leader_count_of W.memory) && leb (leader_count_of W.memory) most_leaders) ≡ true

pub bounded : (W : Work) → regular W ≡ true → Bounded W
unfolding regular
bounded W e =
    let a = and_true _ _ e in
    let c = and_true _ _ a.1 in
    let d = and_true _ _ c.1 in
    let f = and_true _ _ d.1 in
    let g = and_true _ _ f.1 in
    let h = and_true _ _ g.1 in
    record {
      few = leb-true _ _ a.0;
      member = c.0;
      view_first = leb-true _ _ d.0;
      view_last = leb-true _ _ f.0;
      room = leb-true _ _ g.0;
      entry = h.0;
      leaders = h.1;
    }

-- of the counters it reads the view, and nothing of the store and of what was written
pub regular_same : (W W' : Work) → W.counters.view ≡ W'.counters.view → W.memory ≡ W'.memory → regular W ≡ true → regular W' ≡ true
unfolding regular
regular_same W W' c m e = rw (← c, ← m) e

-- the number of the blocks that a release leaves fits, and is put
pub count_after : (W : Work) (b : Block) → regular W ≡ true → memory_length ≤ length W.memory
    → (length (kept b (blocks W)) ≤ store_length) × (block_count_of (with_block_count W.memory (length (kept b (blocks W)))) ≡ length (kept b (blocks W)))
count_after W b e l =
    let few : length (kept b (blocks W)) ≤ store_length = omega (arith, (bounded W e).room, kept_within b (blocks W), (held_within (block_count_of W.memory) W.store).0) in
    (few, count_put W.memory (length (kept b (blocks W))) (omega (arith, few)) (omega (arith, l)))

pub release_regular : (W : Work) (v : ℕ) (b : Block) → memory_length ≤ length W.memory → regular W ≡ true → regular (release v b W) ≡ true
unfolding regular release releasing
release_regular W v b l e =
    let m = W.memory in
    let k = length (kept b (blocks W)) in
    let h = count_after W b e l in
    let B = bounded W e in
    rw (count_settings m k, count_own m k, count_entry m k, h.1, le-leb _ _ B.few, B.member, le-leb _ _ B.view_first, le-leb _ _ B.view_last, le-leb _ _ h.0, B.entry, (count_leaders m k).count) B.leaders

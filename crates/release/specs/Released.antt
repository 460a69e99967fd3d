-- What one release asks for, and what it leaves. Assumes nothing.
use Rattle.std.specs.Prelude.{ℕ, ◌+◌, ◌*◌, ◌≤◌, ◌≡◌, true, List, length, take}
use Rattle.wire.specs.Fields.{release_length}
use Rattle.blocks.specs.declared.Block.{Block}
use Rattle.blocks.specs.Store.{descends, ancestry}
use Rattle.memory.specs.Layout.{memory_length, block_count_of}
use Rattle.protocol.specs.Refusals.{store_length}
use Rattle.protocol.specs.Work.{release}
use Rattle.act.specs.declared.Draft.{Draft}
use Rattle.act.specs.Draft.{work_of, left, left_by}
use Rattle.release.specs.declared.Target.{Target}

-- the blocks that are held beside the tip
abbrev pub held_blocks : List ℕ → List Block → List Block
held_blocks m s = take (block_count_of m) s

-- BEFORE A RELEASE: the block descends from the tip, and a release of each block of the walk has room
pub record Releases (d : Draft) (t : Target) (m o : List ℕ) (s : List Block) : Type 0 where
  pub long : memory_length ≤ length m
  pub few : block_count_of m ≤ store_length
  pub down : descends d.counters.tip (held_blocks m s) t.block ≡ true
  pub room : d.at + release_length * length (ancestry d.counters.tip (held_blocks m s) t.block) ≤ length o

-- AFTER IT: "writes the releases upward .., and drops every block that doesn't descend from it"
pub record Released (d : Draft) (t : Target) (m o : List ℕ) (s : List Block) (d' : Draft) (m' o' : List ℕ) (s' : List Block) : Type 0 where
  pub leaves : left d' m' o' s' ≡ left_by (release t.view.0 t.block (work_of d m o s)) o
  pub place : d'.at ≡ d.at + release_length * length (ancestry d.counters.tip (held_blocks m s) t.block)

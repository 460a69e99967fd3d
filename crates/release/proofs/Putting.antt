-- So many blocks are kept at most as were held: their number fits. Assumes nothing.
use Prim.Native.Nat.{ℕ, ◌^◌, ◌<◌}
use native.Mathlib.Omega.{arith}
use mathlib.Core.Path.{◌≡◌}
use mathlib.Core.List.{List}
use lib.ListN.{length, take}
use Rattle.blocks.specs.declared.Block.{Block}
use Rattle.blocks.specs.Store.{kept}
use Rattle.blocks.proofs.Dropping.{held_within}
use Rattle.blocks.proofs.Fewer.{kept_within}
use Rattle.memory.specs.Layout.{block_count_of}
use Rattle.act.specs.declared.Draft.{Draft}
use Rattle.release.specs.Released.{Releases}
use Rattle.release.specs.declared.Target.{Target}

pub count_fits : (d : Draft) (t : Target) (m o : List ℕ) (s : List Block) → Releases d t m o s → (count : ℕ) → count ≡ block_count_of m → (rest : ℕ) → rest ≡ length (kept t.block (take count s)) → rest < 2 ^ 16
count_fits d t m o s R count c rest e = omega (arith, e, c, R.few, kept_within t.block (take count s), (held_within count s).0)

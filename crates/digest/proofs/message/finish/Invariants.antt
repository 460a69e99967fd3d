use mathlib.Core.Path.{◌≡◌}
use mathlib.Core.List.{◌++◌}
use Rattle.std.specs.Slice.Iter.{chunks_exact_rest, chunks_exact_size}
use Rattle.digest.specs.Sha256.{absorb, padding}
use Rattle.digest.proofs.Padding.{behind_blocks}
use Rattle.digest.proofs.message.finish.Given as goal

abbrev pub invariant-loop-block : goal.invariant-loop-block
invariant-loop-block l =
    (chunks_exact_size l.block-iterator ≡ 64)
    × ((behind_blocks (chunks_exact_rest l.block-iterator) ≡ l.rest) × (absorb l.v (chunks_exact_rest l.block-iterator ++ padding l.n) ≡ absorb l.initial.v (l.s ++ padding l.n)))

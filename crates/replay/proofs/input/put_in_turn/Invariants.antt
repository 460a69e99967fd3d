use mathlib.Core.Path.{◌≡◌}
use lib.ListN.{length, drop}
use Rattle.settings.specs.Quorum.{largest}
use Rattle.settings.specs.Opening.{in_turn}
use Rattle.codec.specs.Bytes.{patch}
use Rattle.replay.proofs.input.put_in_turn.Given as goal

abbrev pub invariant-loop-i : goal.invariant-loop-i
invariant-loop-i l = (length l.list ≡ length l.initial.list) × (patch l.list l.i (drop l.i (in_turn largest)) ≡ patch l.initial.list 0 (in_turn largest))

use borrow.Author.Tests.{lt-ltb}
use Prim.Native.Nat.{◌<◌}
use lib.ListN.{length, drop, length-drop}
use Rattle.wire.specs.Shape.{frame_bad, progress_length}
use native.Mathlib.Omega.{arith}
use Rattle.shape.proofs.progress_length_bad.Goals as goal

pub returns-then-rec-lt-PROPOSAL_HEAD : goal.returns-then-rec-lt-PROPOSAL_HEAD
unfolding progress_length frame_bad
returns-then-rec-lt-PROPOSAL_HEAD c = let r = c.args.rec.now in
    let h : length (drop 88 r) < 8 = simp length-drop (omega arith) in
    rw (lt-ltb (length (drop 88 r)) 8 h)

use lib.ListN.{length, drop, length-drop}
use Prim.Native.Nat.{◌≤◌}
use native.Mathlib.Omega.{arith}
use Rattle.shape.proofs.proposal_value_bad.Goals as goal

pub progress_value_bad-requires : goal.progress_value_bad-requires
progress_value_bad-requires c = let h : 8 ≤ length (drop 88 c.args.rec.now) = simp length-drop (omega (arith, c.requires.0)) in
    rw c.progress.ensures (h, c.requires.1)

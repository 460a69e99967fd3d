-- That the block quorum is 01's number, and the inequalities between the quorums on which safety rests, for all f, c, k with no bound. Assumes nothing.
use Prim.Native.Nat.{◌+◌, ◌*◌, ◌≤◌, ◌<◌}
use mathlib.Core.Path.{◌≡◌}
use native.Mathlib.Omega.{arith}
use Rattle.settings.specs.declared.Settings.{Settings}
use Rattle.settings.specs.Quorum.{replicas, slack, intersection_quorum, weak_quorum, timeout_quorum, slow_quorum, fast_quorum, block_quorum}

module _ (s : Settings) where
  -- 02, 2.4: "show that it is 01's number for every setting"
  pub block_as_before : block_quorum s ≡ intersection_quorum s
  block_as_before = omega arith

  -- two block quorums share more than f replicas, and any two quorums of that size more than none
  pub block_block : replicas s + s.f + 1 ≤ 2 * block_quorum s
  block_block = omega arith

  pub block_majority : replicas s < 2 * block_quorum s
  block_majority = omega arith

  -- a fast release and a block or weak certificate share more than f replicas
  pub block_fast : replicas s + s.f + 1 ≤ block_quorum s + fast_quorum s
  block_fast = omega arith

  pub weak_fast : replicas s + s.f + 1 ≤ weak_quorum s + fast_quorum s
  weak_fast = omega arith

  -- after a fast release a timeout certificate holds at least a weak quorum of honest voters
  pub fast_timeout : replicas s + 2 * s.f + slack s + 1 ≤ fast_quorum s + timeout_quorum s
  fast_timeout = omega arith

  -- after a slow release a timeout certificate holds an honest committer
  pub slow_timeout : replicas s + s.f + 1 ≤ slow_quorum s + timeout_quorum s
  slow_timeout = omega arith

  -- a certificate has an honest signer
  pub weak_honest : s.f < weak_quorum s
  weak_honest = omega arith

  pub block_honest : s.f < block_quorum s
  block_honest = omega arith

  -- a slow release has an honest committer
  pub slow_honest : s.f < slow_quorum s
  slow_honest = omega arith

  pub block_le_fast : block_quorum s ≤ fast_quorum s
  block_le_fast = omega arith

  -- every quorum can be met
  pub fast_le_replicas : fast_quorum s ≤ replicas s
  fast_le_replicas = omega arith

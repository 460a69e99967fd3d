-- A turn of the rules, and so their run, leaves regions that pass refusal 2, with settings and own number as they were. Assumes nothing.
use Prim.Native.Nat.{ℕ}
use mathlib.Core.List.{List}
use native.Mathlib.Omega.{arith}
use Rattle.wire.specs.Fit.{IsName}
use Rattle.memory.specs.Layout.{vote_row}
use Rattle.memory.proofs.Apart.{votes, row_fits}
use Rattle.protocol.specs.Work.{Work, n, own, view_now, held_block}
use Rattle.protocol.specs.Rules.{settle}
use Rattle.protocol.specs.Applies.{AppliesC, signers_for, Turn, by_a, by_b, by_c, by_d, Turns, rest, turn}
use Rattle.protocol.proofs.call.Regular.{Regular, Still, still_refl, still_trans}
use Rattle.protocol.proofs.call.Actions.{timeout_regular, release_regular}
use Rattle.protocol.proofs.call.Certificates.{formed_form, block_form, tally_u64}
use Rattle.protocol.proofs.call.Rules.{progress_regular, held_block_typed}
use Rattle.protocol.proofs.loop.Advance.{timeout_window, ballot_window}
use Rattle.protocol.proofs.loop.Backed.{backed_entry, entry_name}
use Rattle.protocol.proofs.loop.Loop.{settle_is_the_loop}

-- a name with enough kept votes is one, on any content of the memory
pub voted_name : (W : Work) → Regular W → (v : ℕ) (x : List ℕ) → AppliesC v x W → IsName x
voted_name W r v x a =
    entry_name W.memory (vote_row v) (n W) x r.few r.typed.memory (omega (arith, row_fits votes v, r.memory_long))
    (backed_entry W.memory (vote_row v) x (n W) (omega (arith, a.enough)))

pub turn_regular : (W W' : Work) → Regular W → Turn W W' → Regular W' × Still W W'
turn_regular W W' r (by_a v a) = timeout_regular W v (omega (arith, (timeout_window (view_now W) v a.here.window).below)) r
turn_regular W W' r (by_b v n a) =
    progress_regular W _
    (formed_form W.memory v _ (own W) r.typed.memory r.memory_long r.few r.member (timeout_window (view_now W) v a.here.window).below) r
turn_regular W W' r (by_c v x n m a) =
    progress_regular W _
    (block_form (own W) v x (signers_for v W x) (omega (arith, r.member, r.few)) (ballot_window (view_now W) v a.here.window).below (voted_name W r v x a.here)
    (tally_u64 W.memory (vote_row v) x _ r.few) _) r
turn_regular W W' r (by_d v x n m o a) = release_regular W v (held_block W x).block (held_block_typed W x r) r

turns_regular : (W W' : Work) → Regular W → Turns W W' → Regular W' × Still W W'
turns_regular W W' r rest = (r, still_refl W)
turns_regular W W' r (turn {W₁ = W₁} t more) =
    let a = turn_regular W W₁ r t in
    let b = turns_regular W₁ W' a.0 more in
    (b.0, still_trans W W₁ W' a.1 b.1)

pub settle_regular : (W : Work) → Regular W → Regular (settle W) × Still W (settle W)
settle_regular W r = turns_regular W (settle W) r (settle_is_the_loop W r)

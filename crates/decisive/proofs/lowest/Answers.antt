use mathlib.Core.Path.{◌≡◌, sym}
use Prim.Native.Nat.{◌≤◌}
use lib.ListN.{length, drop}
use Rattle.settings.specs.Quorum.{timeout_quorum}
use Rattle.wire.specs.Fields.{timeouts_head}
use Rattle.certificate.proofs.Timeouts.{count_timeouts}
use Rattle.decisive.specs.Reply.{first_timeouts}
use Rattle.decisive.proofs.Search.{none_of_few}
use native.Mathlib.Omega.{arith}
use Rattle.decisive.proofs.lowest.Goals as goal

pub returns-then-count-timeout_quorum : goal.returns-then-count-timeout_quorum
returns-then-count-timeout_quorum c = let a = c.args in
    let t = first_timeouts a.rec.now a.count in
    let d : length t ≡ a.count = count_timeouts a.count (drop timeouts_head a.rec.now) in
    let q : a.count ≤ timeout_quorum a.s = omega (arith, c.if-count-timeout_quorum.true, c.timeout_quorum.ensures) in
    sym (none_of_few a.s t (omega (arith, d, q)) t (λ i x. x))

pub first_to_change-requires : goal.first_to_change-requires
first_to_change-requires c = let p = c.requires in
    (p.0, (p.1.0, (omega (arith, c.if-count-timeout_quorum.false, c.timeout_quorum.ensures), (p.1.1.0, (p.1.1.1, c.safe_block-safe.ensures)))))

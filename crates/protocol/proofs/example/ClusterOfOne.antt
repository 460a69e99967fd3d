-- THE CLUSTER OF ONE: after an opening the first propose decides its block in one call (`propose_decides`), and the first timer enters view 2
-- (`timer_enters`); a run of that propose alone meets the premises of demand 3 and releases the block (`run_releases`), with contents in 02's form too (`checked_releases`). Assumes nothing.
use Prim.Native.Nat.{ℕ}
use mathlib.Core.Path.{refl, sym, subst}
use mathlib.Core.List.{List}
use Rattle.codec.specs.Names.{zero_name}
use Rattle.digest.specs.Name.{preimage, name_of}
use Rattle.digest.proofs.Padding.{digest_is_name}
use Rattle.wire.specs.Fit.{IsName}
use Rattle.memory.specs.Leaders.{by_list}
use Rattle.protocol.specs.Contents.{none, given}
use Rattle.protocol.specs.Calls.{propose_call_with}
use Rattle.protocol.specs.ClusterOfOne.{Decides, opened_alone, ProposeDecides, TimerEnters, RunReleases, CheckedReleases}
use Rattle.protocol.proofs.call.Contents.{propose_as_before}
use Rattle.protocol.proofs.example.ClusterOfOne.Start.{memory_of, opening_is, start}
use Rattle.protocol.proofs.example.ClusterOfOne.Propose.{decides_alone, decides_checked}
use Rattle.protocol.proofs.example.ClusterOfOne.Timer.{enters_alone}
use Rattle.protocol.proofs.example.ClusterOfOne.Run.{run_alone, one_digest_alone}
pub mod Start
pub mod Propose
pub mod Timer
pub mod Run

pub propose_decides : ProposeDecides
propose_decides lent leaders output x alone room name proper =
    rw (opening_is lent leaders alone) (decides_alone x name proper (memory_of lent leaders alone) lent.store (start lent leaders alone) output room)

pub timer_enters : TimerEnters
timer_enters lent leaders output alone room = rw (opening_is lent leaders alone) (enters_alone (memory_of lent leaders alone) lent.store (start lent leaders alone) output room)

pub run_releases : RunReleases
run_releases lent leaders output x alone typed room name proper =
    run_alone lent leaders output x none alone typed name (subst (Decides x) (sym (propose_as_before by_list (opened_alone lent leaders) output x)) (propose_decides lent leaders output x alone room name proper))

-- the name of a block is one, whatever its contents
name_is : (s : List ℕ) → IsName (name_of zero_name 1 s)
unfolding name_of
name_is s = let d = digest_is_name (preimage zero_name 1 s) in record { size = d.0; bytes = d.1 }

pub checked_releases : CheckedReleases
checked_releases lent leaders output s alone typed room short proper =
    let x = name_of zero_name 1 s in
    let decides : Decides x (propose_call_with by_list (opened_alone lent leaders) output x (given s)) =
    rw (opening_is lent leaders alone) (decides_checked x (name_is s) proper (memory_of lent leaders alone) lent.store (start lent leaders alone) output room s short refl) in
    (run_alone lent leaders output x (given s) alone typed (name_is s) decides, one_digest_alone lent leaders output x (given s) alone typed (name_is s) decides s refl)

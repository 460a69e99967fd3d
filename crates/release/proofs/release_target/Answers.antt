-- So many blocks are kept at most as were held.
use Rattle.release.proofs.Putting.{count_fits}
use Rattle.release.proofs.Releasing.{released}
use Rattle.release.proofs.release_target.Goals as goal

pub overflow_cast-rest : goal.overflow_cast-rest
overflow_cast-rest c = record { fits = count_fits c.args.d c.args.t c.args.mem.now c.args.out.now c.args.store.now c.requires _ c.block_count-count.ensures _ c.drop_others-rest.ensures.0 }

pub returns : goal.returns
returns c =
    rw c.releasing-counters.ensures
    (released c.args.d c.args.t c.args.mem.now c.args.out.now c.args.store.now c.requires _ _ _ _
    (rw (c.block_count-count.ensures, c.own-me.ensures) at c.release-at.ensures)
    (rw c.block_count-count.ensures at c.drop_others-rest.ensures.1)
    (rw (c.drop_others-rest.ensures.0, c.block_count-count.ensures) at c.put_block_count.ensures))

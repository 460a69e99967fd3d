-- What `perform` leaves is what rule D asks for, and together they are the call.
use mathlib.Core.Path.{refl}
use borrow.Author.Rules.{rules}
use Rattle.replica.proofs.Calling.{concludes, record_made}
use Rattle.replica.proofs.record_taken.Goals as goal

pub conclude-requires : goal.conclude-requires
conclude-requires c = concludes c.args.store.now c.record-done.ensures

pub returns : goal.returns
returns c = record_made c.args.counters.now c.args.mem.now c.args.out.now c.args.store.now (search rules) c.record-done.result _ _ _ _ _ _ c.conclude.ensures _ refl c.args.rec.now c.args.held c.requires c.record-done.ensures

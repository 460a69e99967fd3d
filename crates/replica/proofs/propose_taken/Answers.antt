-- What `perform` leaves is what rule D asks for, and together they are the call.
use mathlib.Core.Path.{refl}
use borrow.Author.Rules.{rules}
use Rattle.replica.proofs.Calling.{concludes, propose_made}
use Rattle.replica.proofs.propose_taken.Goals as goal

pub conclude-requires : goal.conclude-requires
conclude-requires c = concludes c.args.store.now c.propose-done.ensures

pub returns : goal.returns
returns c = propose_made c.args.counters.now c.args.mem.now c.args.out.now c.args.store.now (search rules) c.propose-done.result _ _ _ _ _ _ c.conclude.ensures _ refl c.args.name.bytes c.args.below.0 c.requires c.propose-done.ensures

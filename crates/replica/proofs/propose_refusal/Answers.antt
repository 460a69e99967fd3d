-- What a propose looks up is what it asks.
use mathlib.Core.Path.{refl, sym, ◌∙◌}
use Rattle.judge.proofs.Wants.{wanted_ok}
use Rattle.replica.proofs.Calling.{propose_refusal_is, propose_unwanted_is}
use Rattle.replica.proofs.propose_refusal.Goals as goal

pub returns-in-Ok : goal.returns-in-Ok
returns-in-Ok c =
    propose_refusal_is c.args.counters c.args.mem.now c.args.store.now c.args.room c.args.name.bytes c.args.contents.now _ _ _ (sym (wanted_ok _) ∙ (rw c.in-Ok.is at (c.propose_want.ensures c.args.store.now refl))) c.wanted_blocks-found.ensures.found c.wanted_blocks-found.ensures.under (rw (wanted_ok c.in-Ok.want) at c.propose_due.ensures)

pub returns-in-Err : goal.returns-in-Err
returns-in-Err c =
    propose_unwanted_is c.args.counters c.args.mem.now c.args.store.now c.args.room c.args.name.bytes c.args.contents.now _ (c.propose_want.ensures c.args.store.now refl) c.in-Err.is c.length_refusal.ensures

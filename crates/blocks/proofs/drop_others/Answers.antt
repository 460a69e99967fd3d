-- All entries, of which none was judged yet.
use native.Mathlib.Omega.{arith}
use Rattle.blocks.proofs.Judging.{none_noted}
use Rattle.blocks.proofs.Dropping.{stored_all}
use Rattle.blocks.proofs.drop_others.Goals as goal

pub keep_from-requires : goal.keep_from-requires
keep_from-requires c = (omega arith, (omega arith, none_noted _ _))

pub returns : goal.returns
returns c = stored_all c.args.tip c.args.count c.args.store.now _ _ c.keep_from.ensures

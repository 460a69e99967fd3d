use Rattle.act.proofs.Steps.{ready_facts}
use Rattle.rules.proofs.Views.{c_none, c_lower, c_forms}
use native.Mathlib.Omega.{arith}
use Rattle.rules.proofs.certify.Goals as goal

pub smallest_voted-requires : goal.smallest_voted-requires
smallest_voted-requires c = (c.requires.0.long, (ready_facts _ _ _ c.requires.0).few)

pub returns-in_default : goal.returns-in_default
returns-in_default c = c_none c.args.d _ _ c.args.view.0 (omega (arith, c.requires.0.room)) c.smallest_voted.ensures c.in_default.is

pub returns-then-not-outranks : goal.returns-then-not-outranks
returns-then-not-outranks c = c_lower c.args.d _ _ c.args.view.0 (omega (arith, c.requires.0.room)) c.smallest_voted.ensures c.in-Some.is c.locks.ensures c.outranks.ensures c.if-not-outranks.true

pub returns : goal.returns
returns c = c_forms c.args.d _ _ c.args.view.0 (omega (arith, c.requires.0.room)) c.smallest_voted.ensures c.in-Some.is c.locks.ensures c.outranks.ensures c.if-not-outranks.false c.form_block.ensures

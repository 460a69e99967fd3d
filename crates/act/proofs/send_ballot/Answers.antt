use Rattle.act.proofs.Steps.{ready_facts}
use Rattle.act.proofs.Sends.{ballot_does}
use Rattle.wire.specs.Kinds.{number}
use borrow.Author.Rules.{rules}
use native.Mathlib.Omega.{arith}
use Rattle.act.proofs.send_ballot.Goals as goal

pub keep-requires : goal.keep-requires
keep-requires c = let f = ready_facts _ _ _ c.requires.0 in (omega (arith, c.requires.1), (search rules, (omega (arith, c.own-me.ensures, f.few, f.member), omega (arith, c.requires.1, c.requires.0.long))))

pub returns : goal.returns
returns c = let a = c.args in ballot_does a.d _ _ a.vote.view.0 a.vote.name (search rules) c.requires.0.room (number a.kind) a.row c.own-me.ensures (rw c.into.ensures at c.put_vote.ensures) c.keep.ensures

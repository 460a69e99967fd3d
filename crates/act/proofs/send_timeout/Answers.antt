use borrow.Author.Rules.{rules}
use mathlib.Core.Path.{refl}
use Rattle.act.proofs.Steps.{ready_facts, ready_regular}
use Rattle.act.proofs.Sends.{lent_most, timeout_does}
use native.Mathlib.Omega.{arith}
use Rattle.act.proofs.send_timeout.Goals as goal

pub keep-requires : goal.keep-requires
keep-requires c = let f = ready_facts _ _ _ c.requires in let l = lent_most c.put_timeout.new.out c.args.d.at 112 in (omega (arith, c.timeout_row.ensures), (omega (arith, l), (omega (arith, c.own-me.ensures, f.few, f.member), omega (arith, l, c.timeout_row.ensures, c.requires.long))))

pub returns : goal.returns
returns c = let a = c.args in
    let R = ready_regular a.d _ _ c.requires (search rules) (search rules) in
    timeout_does a.d _ _ a.view.0 (search rules) R c.requires.room c.own-me.ensures c.own_timeout.ensures c.put_timeout.ensures c.timeout_row.ensures refl c.keep.ensures c.timing.ensures

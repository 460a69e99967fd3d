use Rattle.memory.proofs.Places.{next_place}
use Prim.Native.Nat.{◌<◌}
use native.Mathlib.Nat.{sub-zero}
use Rattle.memory.proofs.Places.{entry_inside}
use Rattle.memory.proofs.Rows.{gather_on, gather_done, gather_small}
use borrow.Author.Rules.{rules}
use native.Mathlib.Omega.{arith}
use Rattle.memory.proofs.kept.gather.Goals as goal

pub loop-i-init : goal.loop-i-init
loop-i-init c = record { within = search rules; place = rw sub-zero; written = rw sub-zero }

pub gather_one-to-requires : goal.gather_one-to-requires
gather_one-to-requires c = let l = c.loop-i in let a = c.args in let p = c.requires in
    let h : l.i < a.n = omega arith in
    (p.0, (p.1.0, (omega arith, (p.1.1.1.0, omega (arith, entry_inside a.width l.i a.n h)))))

pub loop-i-preserved : goal.loop-i-preserved
loop-i-preserved c = let l = c.loop-i in let a = c.args in let p = c.requires in
    let h : l.i < a.n = omega arith in
    let g : l.i < 32 = omega arith in
    let on = gather_on a.mem.now a.row a.width l.i a.n a.at l.to l.out a.out.now h l.invariant.place l.invariant.written c.gather_one-to.ensures.0 c.gather_one-to.ensures.1 in
    record { within = omega (arith, next_place a.width l.i, c.gather_one-to.ensures.0, gather_small a.mem.now a.row a.width l.i 32 g p.1.1.1.0); place = on.0; written = on.1 }

pub returns : goal.returns
returns c = gather_done _ _ _ c.loop-i.i c.args.n c.args.at c.loop-i.to _ _ (omega arith) c.loop-i.invariant.place c.loop-i.invariant.written

use Rattle.event.proofs.Opening.{head_put}
use native.Mathlib.Omega.{arith}
use Rattle.event.proofs.host.put_head.Goals as goal

pub put_u16-requires : goal.put_u16-requires
put_u16-requires c = omega (arith, c.requires)

pub put_u16-requires-2 : goal.put_u16-requires-2
put_u16-requires-2 c = omega (arith, c.requires, c.put_u16.auto.mem)

pub put_u16-requires-3 : goal.put_u16-requires-3
put_u16-requires-3 c = omega (arith, c.requires, c.put_u16.auto.mem, c.put_u16-2.auto.mem)

pub put_u16-requires-4 : goal.put_u16-requires-4
put_u16-requires-4 c = omega (arith, c.requires, c.put_u16.auto.mem, c.put_u16-2.auto.mem, c.put_u16-3.auto.mem)

pub shape_of-mem : goal.shape_of-mem
shape_of-mem c = omega (arith, c.put_u16.auto.mem, c.put_u16-2.auto.mem, c.put_u16-3.auto.mem, c.put_u16-4.auto.mem)

pub returns : goal.returns
returns c = head_put c.args.mem.now c.args.s c.args.own c.put_u16.ensures c.put_u16-2.ensures c.put_u16-3.ensures c.put_u16-4.ensures

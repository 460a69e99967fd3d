use mathlib.Core.Path.{ap, ◌∙◌}
use Rattle.event.proofs.Opening.{opened_put, length_genesis}
use lib.ListN.{length}
use native.Mathlib.Omega.{arith}
use Rattle.event.proofs.host.open_memory.Goals as goal

pub genesis_record-entry-requires : goal.genesis_record-entry-requires
genesis_record-entry-requires c = tt

pub put_head-requires : goal.put_head-requires
put_head-requires c = c.requires.0

pub put_leaders-requires : goal.put_leaders-requires
put_leaders-requires c = (omega (arith, c.requires.0, c.put_head.auto.mem), c.requires.1)

pub put_block_count-requires : goal.put_block_count-requires
put_block_count-requires c = omega (arith, c.requires.0, c.put_head.auto.mem, c.put_leaders.auto.mem)

pub put_entry-requires : goal.put_entry-requires
put_entry-requires c = let l = ap length c.genesis_record-entry.ensures ∙ length_genesis _ in
    (omega (arith, l, c.requires.0, c.put_head.auto.mem, c.put_leaders.auto.mem, c.put_block_count.auto.mem), omega (arith, l))

pub drop_ballots-requires : goal.drop_ballots-requires
drop_ballots-requires c = (omega (arith, c.requires.0, c.put_head.auto.mem, c.put_leaders.auto.mem, c.put_block_count.auto.mem, c.put_entry.auto.mem), omega arith)

pub drop_timeouts-requires : goal.drop_timeouts-requires
drop_timeouts-requires c = (omega (arith, c.requires.0, c.put_head.auto.mem, c.put_leaders.auto.mem, c.put_block_count.auto.mem, c.put_entry.auto.mem, c.drop_ballots.auto.mem), omega arith)

pub shape_of-mem : goal.shape_of-mem
shape_of-mem c = omega (arith, c.put_head.auto.mem, c.put_leaders.auto.mem, c.put_block_count.auto.mem, c.put_entry.auto.mem, c.drop_ballots.auto.mem, c.drop_timeouts.auto.mem)

pub returns : goal.returns
returns c = let a = c.args in
    opened_put a.mem.now a.s a.own a.leaders.now c.genesis_record-entry.ensures c.put_head.ensures c.put_leaders.ensures
    c.put_block_count.ensures c.put_entry.ensures c.drop_ballots.ensures c.drop_timeouts.ensures

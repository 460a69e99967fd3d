use Rattle.memory.specs.Layout.{leader_count_of}
use Rattle.memory.proofs.leaders.leader_count.Goals as goal

pub returns : goal.returns
unfolding leader_count_of
returns c = c.u16_at.ensures

use Rattle.codec.proofs.Laws.{part_lent}
use Rattle.memory.specs.Layout.{entry_place, entry_of}
use Rattle.refusals.proofs.regions.entry_regular.Goals as goal

pub returns-then-len-le-LONGEST_CERTIFICATE : goal.returns-then-len-le-LONGEST_CERTIFICATE
unfolding entry_of
returns-then-len-le-LONGEST_CERTIFICATE c = rw (← c.entry_length-len.ensures, ← part_lent c.args.mem.now entry_place c.entry_length-len.result) c.certificate_sized.ensures

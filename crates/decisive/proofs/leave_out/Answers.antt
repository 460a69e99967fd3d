use Rattle.decisive.proofs.Copies.{left_out_lem}
use Rattle.decisive.proofs.leave_out.Goals as goal

pub returns : goal.returns
returns c = left_out_lem _ _ _ _ c.requires.1.0 c.put.ensures c.put-2.ensures

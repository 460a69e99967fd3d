use Rattle.act.proofs.Sends.{commit_does}
use Rattle.act.proofs.send_commit.Goals as goal

pub returns : goal.returns
returns c = let a = c.args in commit_does a.view.0 a.name c.commit_row.ensures c.send_ballot.ensures

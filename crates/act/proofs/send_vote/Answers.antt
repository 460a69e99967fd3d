use Rattle.act.proofs.Sends.{vote_does}
use Rattle.act.proofs.send_vote.Goals as goal

pub returns : goal.returns
returns c = let a = c.args in vote_does a.view.0 a.name c.vote_row.ensures c.send_ballot-sent.ensures c.voting.ensures

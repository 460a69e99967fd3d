use Rattle.event.proofs.Opening.{genesis_put}
use Rattle.event.proofs.host.genesis_record.Goals as goal

pub returns : goal.returns
returns c = genesis_put c.args.own c.put_block_certificate.ensures

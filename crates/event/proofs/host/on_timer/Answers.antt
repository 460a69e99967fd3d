use Rattle.protocol.specs.Events.{on_timer}
use Rattle.event.specs.Event.{Always}
use Rattle.event.proofs.Giving.{gives_none}
use Rattle.event.proofs.host.on_timer.Goals as goal

pub send_timeout-requires : goal.send_timeout-requires
send_timeout-requires c = c.requires

pub no_block-requires : goal.no_block-requires
no_block-requires c = tt

pub returns : goal.returns
returns c = gives_none (on_timer c.args.view.0) Always c.no_block.ensures c.send_timeout.ensures

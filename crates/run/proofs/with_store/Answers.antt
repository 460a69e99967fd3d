use Rattle.run.proofs.Turning.{with_empty_store}
use Rattle.run.proofs.with_store.Goals as goal

pub returns : goal.returns
returns g c = with_empty_store c.with_counters.ensures

-- What the safety argument sees of our certificates and timeouts. Assumes nothing.
use Rattle.std.specs.Prelude.{List, ℕ}
use Rattle.certificate.specs.declared.Certificate.{Certificate}
use Rattle.certificate.specs.Order.{carried_in}
use Rattle.safety.specs.Rank.{Cert}
use Rattle.safety.specs.Cluster.{Timeout}

-- without signers
abbrev pub cert : Certificate → Cert (List ℕ)
cert k = record { view = k.view.0; block = k.block; name = k.name }

-- without sender
abbrev pub content : Rattle.wire.specs.declared.Timeout.Timeout → Timeout (List ℕ)
content t = record { view = t.view.0; high_view = t.high.view.0; high_name = t.high.name; carried = cert (carried_in t) }

-- The timeout certificate that is formed of what is kept (01: The box, rule B). Assumes nothing.
use Rattle.std.specs.Prelude.{ℕ, List}
use Rattle.wire.specs.Fields.{timeout_length}
use Rattle.wire.specs.Encode.{timeouts_bytes}
use Rattle.memory.specs.Layout.{timeout_row}
use Rattle.memory.specs.Kept.{gathered}

-- "form the certificate of all that are kept for it", of the first n replicas
unfoldable pub formed : List ℕ → ℕ → ℕ → ℕ → List ℕ
formed m view n sender = timeouts_bytes sender view (gathered m (timeout_row view) timeout_length 0 n)

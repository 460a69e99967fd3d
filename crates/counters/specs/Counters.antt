-- The counters, and what each action makes of them (01: The box). Assumes nothing.
use Rattle.std.specs.Prelude.{Bool, true, false}
use Rattle.codec.specs.Names.{zero_name}
use Rattle.settings.specs.declared.View.{View}
use Rattle.wire.specs.declared.Vote.{Vote}
use Rattle.certificate.specs.declared.Certificate.{Certificate}
use Rattle.certificate.specs.declared.Locks.{Locks}
use Rattle.certificate.specs.Rank.{adopted}
use Rattle.blocks.specs.declared.Block.{Block}
use Rattle.blocks.specs.Store.{genesis}
use Rattle.counters.specs.declared.Signed.{Signed}
use Rattle.counters.specs.declared.Counters.{Counters}

abbrev pub unsigned : Signed
unsigned = record { view = record { 0 = 0 }; name = zero_name; signers = 0 }

-- "view (1), timed (0), high vote (none), lock (genesis certificate), best weak (none), tip (genesis)"
unfoldable pub opened : Counters
opened =
    record {
      view = record { 0 = 1 };
      timed = record { 0 = 0 };
      high = record { view = record { 0 = 0 }; name = zero_name };
      lock = unsigned;
      weak = unsigned;
      tip = genesis;
    }

-- the lock is a block certificate, the best weak one is weak
unfoldable pub certificate_of : Bool → Signed → Certificate
certificate_of block s = record { block = block; view = s.view; name = s.name; signers = s.signers }

unfoldable pub signed_of : Certificate → Signed
signed_of k = record { view = k.view; name = k.name; signers = k.signers }

module _ (c : Counters) where
  unfoldable pub locks_of : Locks
  locks_of = record { lock = certificate_of true c.lock; weak = certificate_of false c.weak }

  unfoldable pub with_locks : Locks → Counters
  with_locks s =
      record { view = c.view; timed = c.timed; high = c.high; lock = signed_of s.lock; weak = signed_of s.weak; tip = c.tip }

  -- "Adopting a certificate"
  unfoldable pub adopting : Certificate → Counters
  adopting k = with_locks (adopted k locks_of)

  -- "enter w+1"
  unfoldable pub entering : View → Counters
  entering v = record { view = v; timed = c.timed; high = c.high; lock = c.lock; weak = c.weak; tip = c.tip }

  -- "timed = view"
  unfoldable pub timing : View → Counters
  timing v = record { view = c.view; timed = v; high = c.high; lock = c.lock; weak = c.weak; tip = c.tip }

  -- "vote for it and make it high vote"
  unfoldable pub voting : Vote → Counters
  voting h = record { view = c.view; timed = c.timed; high = h; lock = c.lock; weak = c.weak; tip = c.tip }

  -- "moves the tip"
  unfoldable pub releasing : Block → Counters
  releasing b = record { view = c.view; timed = c.timed; high = c.high; lock = c.lock; weak = c.weak; tip = b }

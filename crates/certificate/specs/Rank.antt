-- The order of certificates, and adopting (01: Rank and safe block; The box). Assumes nothing.
use Rattle.std.specs.Prelude.{ℕ, Bool, true, false, cond, List, eqb, ltb}
use Rattle.codec.specs.Names.{less_bytes, zero_name}
use Rattle.wire.specs.declared.Carried.{Carried}
use Rattle.certificate.specs.declared.Certificate.{Certificate}
use Rattle.certificate.specs.declared.Locks.{Locks}

abbrev pub block_certificate : ℕ → List ℕ → ℕ → Certificate
block_certificate v x g = record { block = true; view = record { 0 = v }; name = x; signers = g }

abbrev pub weak_certificate : ℕ → List ℕ → ℕ → Certificate
weak_certificate v x g = record { block = false; view = record { 0 = v }; name = x; signers = g }

-- "The genesis certificate is kind 3, view 0, zero name, no signers"
abbrev pub genesis_certificate : Certificate
genesis_certificate = block_certificate 0 zero_name 0

-- "then the smaller name": the one place that decides between certificates of one view and kind
abbrev pub tie_break : Certificate → Certificate → Bool
tie_break a b = less_bytes a.name b.name

-- "Of two certificates the higher view ranks above; at one view a block certificate ranks above a weak one; then the smaller name."
unfoldable pub outranks : Certificate → Certificate → Bool
outranks a b =
    cond (eqb a.view.0 b.view.0)
    (cond a.block (cond b.block (tie_break a b) true) (cond b.block false (tie_break a b)))
    (ltb b.view.0 a.view.0)

-- "Adopting a certificate: a block certificate above the lock becomes the lock; a weak one above the best weak replaces it."
unfoldable pub adopted : Certificate → Locks → Locks
adopted k s =
    cond k.block
    (cond (outranks k s.lock) (record { lock = k; weak = s.weak }) s)
    (cond (outranks k s.weak) (record { lock = s.lock; weak = k }) s)

-- "the higher of lock and best weak"
unfoldable pub highest : Locks → Certificate
highest s = cond (outranks s.weak s.lock) s.weak s.lock

-- "certificate kind u16 (3, or 4 for weak)"
unfoldable pub carried_certificate : Carried → Certificate
carried_certificate c = record { block = eqb c.kind 3; view = c.view; name = c.name; signers = c.signers }

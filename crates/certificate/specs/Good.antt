-- When a certificate, a timeout and a progress certificate are good (01: Records; Refusals, 9). Assumes nothing.
use Rattle.std.specs.Prelude.{ℕ, Bool, true, cond, ◌&&◌, List, [], ◌∷◌, eqb, ltb, leb, length}
use Rattle.std.specs.Int.Count.{ones_in}
use Rattle.settings.specs.declared.Settings.{Settings}
use Rattle.settings.specs.Quorum.{block_quorum, weak_quorum, timeout_quorum}
use Rattle.codec.specs.Names.{same_bytes, zero_name}
use Rattle.wire.specs.declared.Timeout.{Timeout}
use Rattle.wire.specs.Content.{by_block, by_timeouts}
use Rattle.certificate.specs.declared.Certificate.{Certificate}
use Rattle.certificate.specs.Rank.{block_certificate, carried_certificate}

-- "A signer set is u64, bit i for box i": how many bits are set
unfoldable pub signer_count : ℕ → ℕ
signer_count signers = ones_in 64 signers

-- the signers that a certificate needs, by its kind
unfoldable pub signers_needed : Settings → Bool → ℕ
signers_needed s block = cond block (block_quorum s) (weak_quorum s)

-- "reaches its threshold or is the genesis one"; "no other certificate of view 0 is good"
unfoldable pub is_good : Settings → Certificate → Bool
is_good s k =
    cond (eqb k.view.0 0)
    (k.block && (eqb k.signers 0 && same_bytes k.name zero_name))
    (leb (signers_needed s k.block) (signer_count k.signers))

-- "In a good timeout the certificate reaches its threshold or is the genesis one, and its view and the high vote's are at most the timeout's."
unfoldable pub timeout_good : Settings → Timeout → Bool
timeout_good s t =
    is_good s (carried_certificate t.carried)
    && (leb t.carried.view.0 t.view.0 && leb t.high.view.0 t.view.0)

-- every element passes the test
unfoldable pub all : {A : Type 0} → (A → Bool) → List A → Bool
all test [] = true
all test (x ∷ l) = test x && all test l

-- "too few signers (genesis certificate excepted) or timeouts, a timeout that isn't good, any other certificate of view 0 (kind 6 too)"
unfoldable pub progress_good : Settings → Rattle.wire.specs.Content.Certificate → Bool
progress_good s (by_block v x g) = is_good s (block_certificate v x g)
progress_good s (by_timeouts v ts) = ltb 0 v && (leb (timeout_quorum s) (length ts) && all (timeout_good s) ts)

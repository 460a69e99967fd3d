-- The memory that an opening leaves, as the code writes it. Assumes nothing.
use Prim.Native.Nat.{ℕ}
use mathlib.Core.Path.{◌≡◌, ◌∙◌}
use mathlib.Core.List.{List, append_assoc}
use lib.ListN.{length, replicate, length-append}
use Rattle.settings.specs.declared.Settings.{Settings}
use Rattle.codec.specs.Bytes.{patch, le_bytes}
use Rattle.codec.specs.Names.{zero_name}
use Rattle.codec.proofs.Laws.{patch_whole}
use Rattle.codec.proofs.Le.{length-le_bytes}
use Rattle.wire.specs.Encode.{block_certificate_bytes}
use Rattle.wire.proofs.Lengths.{length_header}
use Rattle.wire.proofs.Writes.{first, next, whole}
use Rattle.memory.specs.Layout.{with_block_count, with_leaders, with_entry}
use Rattle.memory.specs.Window.{without_ballots, without_timeouts}
use Rattle.protocol.specs.Calls.{opened_memory}
use Rattle.event.specs.Event.{head_bytes}

pub head_put : (m : List ℕ) (s : Settings) (own : ℕ) {m₁ m₂ m₃ m₄ : List ℕ} → m₁ ≡ patch m 0 (le_bytes 2 s.f) → m₂ ≡ patch m₁ 2 (le_bytes 2 s.c) → m₃ ≡ patch m₂ 4 (le_bytes 2 s.k)
    → m₄ ≡ patch m₃ 6 (le_bytes 2 own) → m₄ ≡ patch m 0 (head_bytes s own)
unfolding head_bytes
head_put m s own a b c d =
    whole (head_bytes s own)
    (next (le_bytes 2 own) 2
    (next (le_bytes 2 s.k) 2
    (next (le_bytes 2 s.c) 2
    (first m 0 (le_bytes 2 s.f) a (length-le_bytes 2 s.f))
    b (length-le_bytes 2 s.c))
    c (length-le_bytes 2 s.k))
    d (length-le_bytes 2 own))
    (simp append_assoc)

pub length_genesis : (own : ℕ) → length (block_certificate_bytes own 0 zero_name 0) ≡ 56
unfolding block_certificate_bytes
length_genesis own = simp (length-append, length_header, length-le_bytes)

pub genesis_put : (own : ℕ) {r : List ℕ} → r ≡ patch (replicate 56 0) 0 (block_certificate_bytes own 0 zero_name 0) → r ≡ block_certificate_bytes own 0 zero_name 0
genesis_put own e = e ∙ patch_whole (replicate 56 0) (block_certificate_bytes own 0 zero_name 0) (length_genesis own)

pub opened_put : (m : List ℕ) (s : Settings) (own : ℕ) (leaders : List ℕ) {r m₀ m₁ m₂ m₃ m₄ m₅ : List ℕ} → r ≡ block_certificate_bytes own 0 zero_name 0 → m₀ ≡ patch m 0 (head_bytes s own)
    → m₁ ≡ with_leaders m₀ leaders → m₂ ≡ with_block_count m₁ 0 → m₃ ≡ with_entry m₂ r → m₄ ≡ without_ballots m₃ 0 8 → m₅ ≡ without_timeouts m₄ 0 4 → m₅ ≡ opened_memory m s own leaders
unfolding opened_memory head_bytes
opened_put m s own leaders e h a b c d f = f ∙ rw (d, c, b, a, h, e)

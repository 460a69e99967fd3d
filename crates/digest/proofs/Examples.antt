-- The prover computes the published examples, and the name of a block. Assumes nothing.
use mathlib.Core.Path.{refl}
use Rattle.settings.specs.Answer.{judge}
use Rattle.codec.specs.Bytes.{be_from, le_bytes}
use Rattle.digest.specs.Sha256.{◌⊞◌, ROTR, Ch, Maj, Σ₀, Σ₁, σ₀, σ₁, K, be_bytes, zeros, padding, words, H⁰, next, extend, schedule, T₁, T₂, round, rounds, plus, compress, blocks, absorb, spell, digest, sha256}
use Rattle.digest.specs.Examples.{ExamplesHold, FirstName}
use Rattle.digest.specs.Name.{preimage, name_of, name_call}

pub examples_hold : ExamplesHold
unfolding ◌⊞◌ ROTR Ch Maj Σ₀ Σ₁ σ₀ σ₁ K be_bytes zeros padding words H⁰ next extend schedule T₁ T₂ round rounds plus compress blocks absorb spell digest sha256 be_from
examples_hold = (refl, (refl, refl))

pub first_name_lem : FirstName
unfolding ◌⊞◌ ROTR Ch Maj Σ₀ Σ₁ σ₀ σ₁ K be_bytes zeros padding words H⁰ next extend schedule T₁ T₂ round rounds plus compress blocks absorb spell digest sha256 be_from le_bytes preimage name_of judge name_call
first_name_lem = refl

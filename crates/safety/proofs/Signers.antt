-- What 01's tests leave of certificates and timeouts, in the words of the safety argument: who signed, and that they are good. Assumes nothing.
use mathlib.Core.Bool.{Bool, true, false, cond, ◌&&◌}
use mathlib.Core.List.{List, [], ◌∷◌}
use mathlib.Core.Logic.{inl, inr}
use mathlib.Core.Path.{◌≡◌, refl}
use Prim.Native.Nat.{ℕ, zero, suc, ◌/◌, ◌%◌, ◌^◌, ◌≤◌, ◌<◌}
use native.Mathlib.Omega.{arith}
use borrow.Author.Tests.{eqb-true, eqb-false, leb-true}
use lib.Count.{ones_in}
use lib.Dec.{T, eqb, leb}
use lib.Pow.{pow_mono}
use Rattle.codec.specs.Names.{same_bytes, zero_name}
use Rattle.codec.proofs.Order.{and_true}
use Rattle.wire.specs.declared.Timeout.{Timeout}
use Rattle.certificate.specs.declared.Certificate.{Certificate}
use Rattle.certificate.specs.Rank.{carried_certificate}
use Rattle.certificate.specs.Good.{signer_count, signers_needed, is_good, timeout_good}
use Rattle.certificate.specs.Safe.{signs}
use Rattle.certificate.specs.Order.{carried_in, Ascending}
use Rattle.certificate.proofs.Signers.{signs_suc}
use Rattle.certificate.proofs.Sets.{signs_beyond}
use Rattle.safety.specs.Count.{tally, count, Ascend}
use Rattle.safety.specs.Cluster.{Cluster, size, Truly, Good}
use Rattle.safety.specs.Select.{Fine}
use Rattle.safety.specs.Certificates.{cert, content}
use Rattle.safety.proofs.Count.{count_mono, count_lowest, count_beyond}
use Rattle.safety.proofs.Certificates.{held}

-- the lowest bit
low_bit : (g : ℕ) → g % 2 ≤ tally (signs g 0)
unfolding signs
low_bit g = go (eqb (g / 1 % 2) 1) refl
  where
    go : (b : Bool) → eqb (g / 1 % 2) 1 ≡ b → g % 2 ≤ tally b
    go true e = omega arith
    go false e = let n = eqb-false (g / 1 % 2) 1 e in omega arith

-- the bits set among the lowest k are the replicas below k in the set
ones_count : (k g : ℕ) → ones_in k g ≤ count (signs g) k
unfolding ones_in
ones_count zero g = omega arith
ones_count (suc k) g = omega (
  arith,
  low_bit g,
  ones_count k (g / 2),
  count_lowest (signs g) k,
  count_mono (signs (g / 2)) (λ i. signs g (suc i)) k (λ i l t. rw (signs_suc g i) t),
)

-- so the signers of a set of n bits are counted below n
pub signers_count : (n g : ℕ) → g < 2 ^ n → signer_count g ≤ count (signs g) n
unfolding signer_count
signers_count n g h = omega (
  arith,
  ones_count 64 g,
  count_beyond (signs g) n 64 (λ i l t. let e = signs_beyond g i (omega (arith, pow_mono l)) in rw e at t),
)

module _ (R : Cluster (List ℕ)) where
  -- the honest signers of a certificate made its vote
  abbrev pub SignedTruly : Certificate → Type 0
  SignedTruly k = Truly R (signs k.signers) (λ i. R.Voted i k.view.0 k.name)

  -- a certificate that passes 9, without signers beyond the replicas, is good
  pub good : (k : Certificate) → is_good R.set k ≡ true → k.signers < 2 ^ size R → SignedTruly k → Good R (cert k)
  unfolding is_good
  good k e h made = go (eqb k.view.0 0) refl e
    where
      go : (b : Bool) → eqb k.view.0 0 ≡ b
          → cond b (k.block && (eqb k.signers 0 && same_bytes k.name zero_name)) (leb (signers_needed R.set k.block) (signer_count k.signers)) ≡ true
          → Good R (cert k)
      go true z e = inl (eqb-true k.view.0 0 z)
      go false z e = inr (record { signers = signs k.signers; enough = omega (arith, leb-true (signers_needed R.set k.block) (signer_count k.signers) e, signers_count (size R) k.signers h); truly = made })

  -- so is a timeout that passes it
  pub fine : (w : ℕ) (t : Timeout) → timeout_good R.set t ≡ true → t.view.0 ≡ w → t.carried.signers < 2 ^ size R → SignedTruly (carried_in t)
      → (t.sender < size R → T (R.honest t.sender) → R.TimedOut t.sender (content t)) → Fine held R w t
  unfolding timeout_good carried_certificate
  fine w t e v h s m =
      let p = and_true _ _ e in
      let q = and_true _ _ p.1 in
      record {
        of_view = v;
        high_le = omega (arith, leb-true t.high.view.0 t.view.0 q.1);
        carried_good = good (carried_in t) p.0 h s;
        carried_le = omega (arith, leb-true t.carried.view.0 t.view.0 q.0);
        truly = m;
      }

-- senders that ascend
pub ascend : (n low : ℕ) (l : List Timeout) → Ascending n low l → Ascend (λ (t : Timeout). t.sender) n low l
unfolding Ascending
ascend n low [] p = tt
ascend n low (t ∷ l) p = (p.0, p.1, ascend n (suc t.sender) l p.2)

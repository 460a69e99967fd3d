-- Adopting never lowers what a replica keeps, and keeps what it should (01: The box). Assumes nothing.
use mathlib.Core.Path.{◌≡◌, refl, sym}
use mathlib.Core.Bool.{Bool, true, false, cond, beq}
use Rattle.certificate.specs.declared.Certificate.{Certificate}
use Rattle.certificate.specs.declared.Locks.{Locks}
use Rattle.certificate.specs.Rank.{outranks, adopted, highest}
use Rattle.certificate.specs.Safe.{better}
use Rattle.certificate.specs.Order.{Decided, kept}
use Rattle.certificate.proofs.Admissible.{better_has, better_kept, better_new}

-- a certificate replaces the one of its own kind, if it is better
pub adopted-kept : (b : Bool) (k : Certificate) (s : Locks) → kept b (adopted k s) ≡ cond (beq k.block b) (better k (kept b s)) (kept b s)
unfolding adopted better
adopted-kept b k s = go b k.block (outranks k s.lock) refl (outranks k s.weak) refl
  where
    go : (b p t : Bool) → outranks k s.lock ≡ t → (u : Bool) → outranks k s.weak ≡ u
        → kept b (cond p (cond t (record { lock = k; weak = s.weak }) s) (cond u (record { lock = s.lock; weak = k }) s))
        ≡ cond (beq p b) (cond (outranks k (kept b s)) k (kept b s)) (kept b s)
    go true true true e u f = rw e
    go true true false e u f = rw e
    go true false t e true f = refl
    go true false t e false f = refl
    go false true true e u f = refl
    go false true false e u f = refl
    go false false t e true f = rw f
    go false false t e false f = rw f

beq_eq : (p q : Bool) → beq p q ≡ true → p ≡ q
beq_eq true true e = refl
beq_eq true false e = sym e
beq_eq false true e = e
beq_eq false false e = refl

beq_refl : (p : Bool) → beq p p ≡ true
beq_refl true = refl
beq_refl false = refl

-- what holds of both kept, and of a certificate if it is of that kind, holds of both adopted ones
pub adopted_has : (P : Certificate → Type 0) (b : Bool) (k : Certificate) (s : Locks) → P (kept b s) → (k.block ≡ b → P k) → P (kept b (adopted k s))
adopted_has P b k s p q = rw (adopted-kept b k s) (go (beq k.block b) refl)
  where
    go : (t : Bool) → beq k.block b ≡ t → P (cond t (better k (kept b s)) (kept b s))
    go true e = better_has k (kept b s) P (q (beq_eq k.block b e)) p
    go false e = p

pub highest_has : (P : Certificate → Type 0) (s : Locks) → ((b : Bool) → P (kept b s)) → P (highest s)
unfolding highest better
highest_has P s p = better_has s.weak s.lock P (p false) (p true)

-- the lock stays a block certificate, the best weak one a weak certificate
pub kinds_kept : (k : Certificate) (s : Locks) → ((b : Bool) → (kept b s).block ≡ b) → (b : Bool) → (kept b (adopted k s)).block ≡ b
kinds_kept k s h b = adopted_has (λ x. x.block ≡ b) b k s (h b) (λ e. e)

module _ {R : Certificate → Certificate → Type 0} (d : Decided R) where
  -- neither is lowered
  pub adopted_over : (b : Bool) (k : Certificate) (s : Locks) → R (kept b s) (kept b (adopted k s))
  adopted_over b k s = rw (adopted-kept b k s) (go (beq k.block b))
    where
      go : (t : Bool) → R (kept b s) (cond t (better k (kept b s)) (kept b s))
      go true = better_kept k (kept b s) d
      go false = d.same (kept b s)

  -- the one of its kind is at least the certificate adopted
  pub adopted_new : (k : Certificate) (s : Locks) → R k (kept k.block (adopted k s))
  adopted_new k s = rw (adopted-kept k.block k s, beq_refl k.block) (better_new k (kept k.block s) d)

  -- the highest is at least both, at least what is adopted, and never lowered
  pub highest_over : (b : Bool) (s : Locks) → R (kept b s) (highest s)
  unfolding highest better
  highest_over true s = better_kept s.weak s.lock d
  highest_over false s = better_new s.weak s.lock d

  pub highest_new : (k : Certificate) (s : Locks) → R k (highest (adopted k s))
  highest_new k s = d.trans (adopted_new k s) (highest_over k.block (adopted k s))

  pub highest-adopted : (k : Certificate) (s : Locks) → R (highest s) (highest (adopted k s))
  highest-adopted k s = highest_has (λ x. R x (highest (adopted k s))) s (λ b. d.trans (adopted_over b k s) (highest_over b (adopted k s)))

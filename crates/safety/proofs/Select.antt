-- A candidate of good timeouts above which none ranks makes a timeout certificate with that safe certificate. Assumes nothing.
use mathlib.Core.Bool.{Bool, true, false, cond, ◌||◌, false≢true}
use mathlib.Core.List.{List, [], ◌∷◌}
use mathlib.Core.Logic.{inr, ⊎_elim}
use mathlib.Core.Path.{◌≡◌, refl, subst, ◌∙◌}
use Prim.Native.Nat.{ℕ, ◌≤◌, ◌<◌}
use native.Mathlib.Omega.{arith}
use lib.Dec.{T, eqb, eqb→eq}
use lib.ListN.{length}
use mir.Facts.{or_yes}
use Rattle.settings.specs.Quorum.{weak_quorum}
use Rattle.wire.specs.Fit.{All}
use Rattle.wire.proofs.Slots.{all_impl}
use Rattle.certificate.specs.Good.{signers_needed}
use Rattle.certificate.specs.Order.{only}
use Rattle.safety.specs.Count.{holds}
use Rattle.safety.specs.Rank.{Cert, ◌⊑◌, weak_of}
use Rattle.safety.specs.Cluster.{Cluster, size, Signed, Good, TimeoutCert, HighVoted}
use Rattle.safety.specs.Select.{Held, Backed, Candidate, carried, built, Chosen, Fine, GoodTimeouts}
use Rattle.safety.proofs.Lists.{in_all, only_all, only_some, only_ascend}
use Rattle.safety.proofs.Count.{le_or_lt, count_mono, holds_le, holds_ge}

-- ---- the timeout of a sender
module _ {E : Type 0} (from : E → ℕ) where
  abbrev look : E → List E → ℕ → E
  look d [] i = d
  look d (e ∷ l) i = cond (eqb (from e) i) e (look d l i)

  -- what holds of each timeout holds at each sender
  at_sender : (Q : ℕ → E → Type 0) (d : E) (l : List E) → All (λ e. Q (from e) e) l → (i : ℕ) → T (holds from l i) → Q i (look d l i)
  unfolding All
  at_sender Q d [] p i t = absurd t
  at_sender Q d (e ∷ l) p i t = go (eqb (from e) i) (λ h. subst (λ (j : ℕ). Q j e) (eqb→eq (from e) i h) p.0) (at_sender Q d l p.1 i) t
    where
      go : (b : Bool) → (T b → Q i e) → (T (holds from l i) → Q i (look d l i)) → T (b || holds from l i) → Q i (cond b e (look d l i))
      go true p q t = p tt
      go false p q t = q t

  sender_has : (Q : ℕ → Type 0) (l : List E) → All (λ e. Q (from e)) l → (i : ℕ) → T (holds from l i) → Q i
  unfolding All
  sender_has Q [] p i t = absurd t
  sender_has Q (e ∷ l) p i t = ⊎_elim (λ h. subst Q (eqb→eq (from e) i h) p.0) (sender_has Q l p.1 i) (or_yes (eqb (from e) i) (holds from l i) t)

  -- a sender whose timeout passes a test is a sender of those that pass
  passes : (test : E → Bool) (d : E) (l : List E) (i : ℕ) → T (holds from l i) → test (look d l i) ≡ true → T (holds from (only test l) i)
  unfolding only
  passes test d [] i t h = t
  passes test d (e ∷ l) i t h = go (eqb (from e) i) (test e) refl refl t h (λ t' h'. passes test d l i t' h')
    where
      go : (b c : Bool) → b ≡ eqb (from e) i → c ≡ test e → T (b || holds from l i) → test (cond b e (look d l i)) ≡ true
          → (T (holds from l i) → test (look d l i) ≡ true → T (holds from (only test l) i)) → T (holds from (cond c (e ∷ only test l) (only test l)) i)
      go true true eb ec t h rest = rw (← eb) tt
      go true false eb ec t h rest = absurd (false≢true (ec ∙ h))
      go false true eb ec t h rest = rw (← eb) (rest t h)
      go false false eb ec t h rest = rest t h

module _ {E Name : Type 0} (H : Held E Name) (R : Cluster Name) (high : HighVoted R) (w : ℕ) (l : List E) (g : GoodTimeouts H R w l) where
  abbrev backers : ℕ → Name → List E
  backers u x = only (H.gives u x) l

  -- an honest sender that gives a high vote made that vote
  voted : (u : ℕ) (x : Name) → 0 < u → (e : E) → Fine H R w e → H.gives u x e ≡ true → H.from e < size R → T (R.honest (H.from e)) → R.Voted (H.from e) u x
  voted u x h e p t b honest =
      let q = H.gives_is u x e t in
      rw (q.0, q.1) at (high (H.from e) b honest (H.says e) (p.truly b honest) (omega (arith, q.0)))

  -- so a high vote that enough give makes a good weak certificate
  built_signed : (u : ℕ) (x : Name) → Backed H R.set l u x → Signed R (weak_of u x)
  unfolding signers_needed
  built_signed u x b = record {
    signers = holds H.from (backers u x);
    enough = omega (arith, b.enough, holds_ge H.from (backers u x) (size R) 0 (only_ascend (H.gives u x) H.from (size R) 0 l g.ascend));
    truly = λ i below honest s. sender_has H.from (λ j. j < size R → T (R.honest j) → R.Voted j u x) (backers u x)
        (only_all (H.gives u x) _ l (all_impl _ _ l (λ e p. voted u x b.voted e p) g.fine)) i s below honest;
  }

  -- a candidate is good, and of a view up to w
  fit : (c : Cert Name) → Candidate H R.set l c → Good R c × (c.view ≤ w)
  fit c (carried e p) = let f = in_all (Fine H R w) e l g.fine p in (f.carried_good, f.carried_le)
  fit c (built u x b) = (
    inr (built_signed u x b),
    only_some (H.gives u x) (u ≤ w) l (all_impl _ _ l (λ e p t. omega (arith, p.high_le, (H.gives_is u x e t).0)) g.fine) (omega (arith, b.enough)),
  )

  -- a safe certificate, with the timeouts looked up by sender
  safe_cert : (d : E) (c : Cert Name) → Chosen H R.set l c → TimeoutCert R w c
  safe_cert d c k = record {
    sender = holds H.from l;
    says = λ i. H.says (look H.from d l i);
    enough = omega (arith, g.enough, holds_ge H.from l (size R) 0 g.ascend);
    truly = λ i b h s. at_sender H.from (λ j e. j < size R → T (R.honest j) → R.TimedOut j (H.says e)) d l (all_impl _ _ l (λ e p. p.truly) g.fine) i s b h;
    of_view = λ i b s. at_sender H.from (λ j e. (H.says e).view ≡ w) d l (all_impl _ _ l (λ e p. p.of_view) g.fine) i s;
    high_le = λ i b s. at_sender H.from (λ j e. (H.says e).high_view ≤ w) d l (all_impl _ _ l (λ e p. p.high_le) g.fine) i s;
    safe_good = (fit c k.candidate).0;
    safe_le = (fit c k.candidate).1;
    over_carried = λ i b s. at_sender H.from (λ j e. (H.says e).carried ⊑ c) d l k.over_carried i s;
    over_built = λ B u x h n.
        let gave : (i : ℕ) → i < size R → T (B i) → T (holds H.from (backers u x) i) =
        λ i b t. let a = h i b t in passes H.from (H.gives u x) d l i a.0 (H.is_given u x (look H.from d l i) a.1 a.2) in
        let enough : weak_quorum R.set ≤ length (backers u x) =
        omega (arith, n, count_mono B (holds H.from (backers u x)) (size R) gave, holds_le H.from (backers u x) (size R)) in
        ⊎_elim (λ z. omega arith) (λ z. omega (arith, (k.over_built u x (record { voted = z; enough = enough })).view_le)) (le_or_lt u 0);
  }

-- THE SAFE CERTIFICATE of good timeouts
pub timeout_cert : {E Name : Type 0} (H : Held E Name) (R : Cluster Name) → HighVoted R → (w : ℕ) (l : List E) → GoodTimeouts H R w l
    → (c : Cert Name) → Chosen H R.set l c → TimeoutCert R w c
timeout_cert H R high w [] g c k = absurd (omega (arith, g.enough))
timeout_cert H R high w (e ∷ l) g c k = safe_cert H R high w (e ∷ l) g e c k

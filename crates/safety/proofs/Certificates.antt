-- Our certificates serve the safety argument: their order decides what it asks, and the safe certificate of a list of timeouts is one. Assumes nothing.
use mathlib.Core.Bool.{true}
use mathlib.Core.List.{List, [], ◌∷◌}
use mathlib.Core.Path.{◌≡◌}
use Prim.Native.Nat.{ℕ}
use native.Mathlib.Omega.{arith}
use borrow.Author.Tests.{eq-eqb}
use Rattle.settings.specs.declared.Settings.{Settings}
use Rattle.settings.specs.Quorum.{replicas}
use Rattle.codec.proofs.Order.{eq_same}
use Rattle.wire.specs.declared.Timeout.{Timeout}
use Rattle.wire.proofs.Slots.{all_impl}
use Rattle.certificate.specs.declared.Certificate.{Certificate}
use Rattle.certificate.specs.Order.{Decided}
use Rattle.certificate.specs.Safe.{gives, safe_of_timeouts}
use Rattle.certificate.proofs.Backing.{gives_is, backing-count}
use Rattle.certificate.proofs.Chosen.{chosen_has, carried_over, high_over}
use Rattle.safety.specs.Rank.{◌⊑◌}
use Rattle.safety.specs.Cluster.{Cluster, TimeoutCert, HighVoted}
use Rattle.safety.specs.Select.{Held, Candidate, carried, built, Chosen, GoodTimeouts}
use Rattle.safety.specs.Certificates.{cert, content}
use Rattle.safety.proofs.Lists.{all_in}
use Rattle.safety.proofs.Rank.{⊑_refl, ⊑_trans}
use Rattle.safety.proofs.Select.{timeout_cert}

-- the order decides ◌⊑◌, one way or the other
same_order : {a b : Certificate} → Rattle.certificate.specs.Order.◌⊑◌ a b → cert a ⊑ cert b
same_order p = record { view_le = p.view_le; block_kept = p.block_kept }

pub admissible : Decided (λ a b. cert a ⊑ cert b)
admissible = record {
  same = λ a. ⊑_refl (cert a);
  trans = λ p q. ⊑_trans p q;
  above = λ a b e. same_order (Rattle.certificate.proofs.Admissible.above a b e);
  below = λ a b e. same_order (Rattle.certificate.proofs.Admissible.below a b e);
}

pub is_given : (v : ℕ) (x : List ℕ) (t : Timeout) → t.high.view.0 ≡ v → t.high.name ≡ x → gives v x t ≡ true
unfolding gives
is_given v x t e h = rw (eq-eqb t.high.view.0 v e, eq_same t.high.name x h)

-- timeouts as wire holds them
abbrev pub held : Held Timeout (List ℕ)
held = record {
  from = λ t. t.sender;
  says = content;
  gives = gives;
  gives_is = λ u x t e. gives_is 0 u x t e;
  is_given = is_given;
}

pub chosen : (s : Settings) (t : Timeout) (l : List Timeout) → Chosen held s (t ∷ l) (cert (safe_of_timeouts s (t ∷ l)))
chosen s t l = record {
  candidate = chosen_has (λ k. Candidate held s (t ∷ l) (cert k)) s t l
      (all_impl _ _ (t ∷ l) (λ u p. carried u p) (all_in (t ∷ l)))
      (all_impl _ _ (t ∷ l) (λ u p b. built u.high.view.0 u.high.name (record { voted = b.voted; enough = rw backing-count at b.enough })) (all_in (t ∷ l)));
  over_carried = carried_over admissible s (t ∷ l);
  over_built = λ u x b. high_over admissible s (t ∷ l) u x b.voted (rw (backing-count (replicas s) u x (t ∷ l)) b.enough);
}

-- THE SAFE CERTIFICATE of 01 is a safe one
pub safe_timeouts : (R : Cluster (List ℕ)) → HighVoted R → (w : ℕ) (l : List Timeout) → GoodTimeouts held R w l → TimeoutCert R w (cert (safe_of_timeouts R.set l))
safe_timeouts R high w [] g = absurd (omega (arith, g.enough))
safe_timeouts R high w (t ∷ l) g = timeout_cert held R high w (t ∷ l) g (cert (safe_of_timeouts R.set (t ∷ l))) (chosen R.set t l)

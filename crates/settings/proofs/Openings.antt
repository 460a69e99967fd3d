-- When an opening is accepted and when it is refused, in facts instead of tests. Assumes nothing.
use mathlib.Core.Path.{◌≡◌, refl}
use mathlib.Core.Bool.{Bool, true, false, not}
use mathlib.Core.List.{[], ◌∷◌}
use Prim.Native.Nat.{ℕ, ◌+◌, ◌*◌, ◌≤◌, ◌<◌}
use borrow.Author.Tests.{le-ltb, eq-eqb, lt-leb, eqb-true, ltb-false, leb-false}
use lib.Dec.{eqb, ltb, leb}
use Rattle.settings.specs.declared.Settings.{Settings}
use Rattle.settings.specs.Answer.{accepts, refuses, judge, ◌⇒◌}
use Rattle.settings.specs.Quorum.{largest}
use Rattle.settings.specs.Opening.{opening, opening_rules}

module _ (f c k n own : ℕ) where
  -- the rules of an opening, as facts
  pub record Fit : Type 0 where
    pub count : n ≡ 3 * f + 2 * c + k + 1
    pub few : n ≤ largest
    pub member : own < n

  pub fit_accepts : Fit → opening f c k n own ≡ accepts (record { f = f; c = c; k = k })
  unfolding opening opening_rules judge
  fit_accepts h =
      rw (eq-eqb n (3 * f + 2 * c + k + 1) h.count, le-ltb largest n h.few, lt-leb n own h.member)

  pub unfit_refuses : (Fit → ⊥) → opening f c k n own ≡ refuses 1
  unfolding opening opening_rules judge
  unfit_refuses h = go (eqb n (3 * f + 2 * c + k + 1)) refl (ltb largest n) refl (leb n own) refl
    where
      go : (p : Bool) → eqb n (3 * f + 2 * c + k + 1) ≡ p → (q : Bool) → ltb largest n ≡ q → (t : Bool) → leb n own ≡ t
          → judge {A = Settings} (not p ⇒ 1 ∷ q ⇒ 1 ∷ t ⇒ 1 ∷ []) (record { f = f; c = c; k = k }) ≡ refuses 1
      go false a q b t e = refl
      go true a true b t e = refl
      go true a false b true e = refl
      go true a false b false e =
          absurd (h (record { count = eqb-true n (3 * f + 2 * c + k + 1) a; few = ltb-false largest n b; member = leb-false n own e }))

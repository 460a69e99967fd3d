-- The place "shape" by its number. Assumes nothing.
use mathlib.Core.Path.{◌≡◌, refl, ap, ◌∙◌}
use mathlib.Core.List.{List}
use Prim.Native.Nat.{ℕ}
use Rattle.std.specs.Prelude.{Result, Ok, Err}
use Rattle.settings.specs.declared.refusal.Refusal.{Refusal}
use Rattle.settings.specs.Refusal.{refused, answer}
use Rattle.wire.specs.Shape.{shape_rules, shape_of}
use Rattle.refusals.specs.Number.{number_of, first_of}
use Rattle.refusals.proofs.Numbers.{number_first}

refused_number : (r : Result (Unit {0}) Refusal) → refused r ≡ number_of (answer r)
unfolding refused answer number_of
refused_number (Ok a) = refl
refused_number (Err e) = refl

pub shape_refused : (v : Result (Unit {0}) Refusal) (n : ℕ) (r : List ℕ) → answer v ≡ shape_of n r → refused v ≡ first_of (shape_rules n r)
unfolding shape_of
shape_refused v n r e = refused_number v ∙ ap number_of e ∙ number_first (shape_rules n r) tt

-- What `?` passes on is a refusal. Assumes nothing.
use Prim.Native.Nat.{ℕ}
use mathlib.Core.Path.{◌≡◌}
use Rattle.std.specs.Prelude.{Option, Result, Err}
use Rattle.settings.specs.declared.refusal.Refusal.{Refusal}
use Rattle.settings.specs.Answer.{refuses}
use Rattle.settings.specs.Refusal.{refused}
use Rattle.decisive.specs.Reply.{judged}

pub judged_err : {A : Type 0} {p : Result A Refusal} {q : Result (Option ℕ) Refusal} {r t : Refusal} → p ≡ Err r → q ≡ Err t → t ≡ r → judged q ≡ refuses (refused p)
unfolding judged refused
judged_err e f g = rw (e, f, g)

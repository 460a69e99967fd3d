-- `From<Refusal> for u64`: the number that the enum gives each variant is the defined one. Assumes nothing.
use mathlib.Core.Path.{◌≡◌, refl}
use Prim.Native.Nat.{◌+◌}
use denote.Enum.Declared.{tag_of}
use Rattle.settings.specs.contracts.refusal.Refusal.{the_type}
use Rattle.settings.specs.declared.refusal.Refusal.{Refusal}
use Rattle.settings.specs.declared.refusal.Refusal.TheVariants.{Settings, Regions, Length, Kind, Content, Party, ViewBelow, ViewAbove, Certificate, Repeated, Conflicting, ParentMissing, ParentWrong, StoreFull, Turn, ContentsTooLong, NameWrong}
use Rattle.settings.specs.Refusal.{number}
use Rattle.settings.proofs.refusal.U64FromRefusal.from.Goals as goal

tagged : (r : Refusal) → tag_of the_type r + 1 ≡ number r
unfolding number
tagged Settings = refl
tagged Regions = refl
tagged Length = refl
tagged Kind = refl
tagged Content = refl
tagged Party = refl
tagged ViewBelow = refl
tagged ViewAbove = refl
tagged Certificate = refl
tagged Repeated = refl
tagged Conflicting = refl
tagged ParentMissing = refl
tagged ParentWrong = refl
tagged StoreFull = refl
tagged Turn = refl
tagged ContentsTooLong = refl
tagged NameWrong = refl

pub returns : goal.returns
returns c = tagged c.args.refusal

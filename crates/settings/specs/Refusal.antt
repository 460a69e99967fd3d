-- What the enum of the refusals means: 01's number of each, and what a result answers (01: Refusals; 02: 2.5 for 16 and 17). Assumes nothing.
use Rattle.std.specs.Prelude.{ℕ, Result, Ok, Err}
use Rattle.settings.specs.declared.refusal.Refusal.{Refusal}
use Rattle.settings.specs.declared.refusal.Refusal.TheVariants.{Settings, Regions, Length, Kind, Content, Party, ViewBelow, ViewAbove, Certificate, Repeated, Conflicting, ParentMissing, ParentWrong, StoreFull, Turn, ContentsTooLong, NameWrong}
use Rattle.settings.specs.Answer.{Answer, accepts, refuses}

unfoldable pub number : Refusal → ℕ
number Settings = 1
number Regions = 2
number Length = 3
number Kind = 4
number Content = 5
number Party = 6
number ViewBelow = 7
number ViewAbove = 8
number Certificate = 9
number Repeated = 10
number Conflicting = 11
number ParentMissing = 12
number ParentWrong = 13
number StoreFull = 14
number Turn = 15
number ContentsTooLong = 16
number NameWrong = 17

-- the number of a result: 01's answer 0 where it is no refusal
unfoldable pub refused : {A : Type 0} → Result A Refusal → ℕ
refused (Ok a) = 0
refused (Err r) = number r

-- a result as an answer
unfoldable pub answer : {A : Type 0} → Result A Refusal → Answer A
answer (Ok a) = accepts a
answer (Err r) = refuses (number r)

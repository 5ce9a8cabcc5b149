-- What a result is told as: its value, or its refusal's number. Definitions and claims only.
use Rattle.std.specs.Prelude.{ℕ, Result, Ok, Err}
use Rattle.answer.specs.Answer.{Answer, answered, refused, number_of, LosesNothing}
use Rattle.answer.specs.declared.Refusal.{Refusal}
use Rattle.answer.specs.declared.Refusal.TheVariants.{Flat, Outside, Corner, Tolerance, Coordinate, TooFar, Limit, Length, Range, Twice, Mark, Version, FileLength, Twisted, OffGrid}

-- the numbers of document 01, "Refusals"
abbrev pub number : Refusal → ℕ
number Flat = 1
number Outside = 2
number Corner = 3
number Tolerance = 4
number Coordinate = 5
number TooFar = 6
number Limit = 7
number Length = 8
number Range = 9
number Twice = 10
number Mark = 11
number Version = 12
number FileLength = 13
number Twisted = 14
number OffGrid = 15

abbrev pub told : {A : Type 0} → Result A Refusal → Answer A
told (Ok v) = answered v
told (Err r) = refused (number r)

-- So a contract that says what is told leaves one possible answer.
abbrev pub ToldLosesNothing : Type 1
ToldLosesNothing = (A : Type 0) → LosesNothing (told {A = A})

-- Nor does the number alone of a result without a value: no refusal's number is 0, and each refusal has its own.
abbrev pub NumberLosesNothing : Type 0
NumberLosesNothing = LosesNothing (λ (r : Result (Unit {0}) Refusal). number_of (told r))

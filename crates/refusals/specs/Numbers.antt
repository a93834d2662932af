-- The number of each refusal ("Refusals from the input", "Refusals from the state" of document 01; requests [3] and [7] of document
-- 02). Assumes nothing.
use Rattle.std.specs.Prelude.{ℕ, Result, Ok, Err}
use Rattle.refusals.specs.declared.Refusal.{Refusal}
use Rattle.refusals.specs.declared.Refusal.TheVariants.{BadCharacter, BadLength, DateOutsideCalendar, DatesOutOfOrder, AgeOutsideRange, UnknownKind, TermOutsideList, KindNotForAge, NoFactorForAge, PensionOutsideRange, BadRegister, RegisterFull, NumbersUsedUp, NotFound, CommutationOutsideRange, NotJoinable, TargetTooShort}

-- "When an answer is an enum, a definition specifies this paper's number"
abbrev pub number : Refusal → ℕ
number BadCharacter = 1
number BadLength = 2
number DateOutsideCalendar = 3
number DatesOutOfOrder = 4
number AgeOutsideRange = 5
number UnknownKind = 6
number TermOutsideList = 7
number KindNotForAge = 8
number NoFactorForAge = 9
number PensionOutsideRange = 10
number BadRegister = 11
number RegisterFull = 12
number NumbersUsedUp = 13
number NotFound = 14
number CommutationOutsideRange = 15
number NotJoinable = 16
number TargetTooShort = 17

-- "Zero stands for no refusal"
abbrev pub refusal_number : {A : Type 0} → Result A Refusal → ℕ
refusal_number (Ok a) = 0
refusal_number (Err r) = number r

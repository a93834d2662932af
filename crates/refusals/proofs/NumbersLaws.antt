-- Every refusal has a number from 1 on, and no two have the same: an answer's number tells whether it was refused, and why. By the
-- list of refusals, one by one.
use Rattle.std.proofs.Common.{ℕ, ◌≡◌, ◌-◌, ◌<◌, rules, refl, sym, arith, List, [], ◌∷◌, get_or, Result, Ok, Err, nat_eq}
use Rattle.std.specs.Result.{is_ok}
use borrow.Author.Tests.{ne_eqb}
use Rattle.refusals.specs.declared.Refusal.{Refusal}
use Rattle.refusals.specs.declared.Refusal.TheVariants.{BadCharacter, BadLength, DateOutsideCalendar, DatesOutOfOrder, AgeOutsideRange, UnknownKind, TermOutsideList, KindNotForAge, NoFactorForAge, PensionOutsideRange, BadRegister, RegisterFull, NumbersUsedUp, NotFound, CommutationOutsideRange, NotJoinable, TargetTooShort}
use Rattle.refusals.specs.Numbers.{number, refusal_number}

pub number_positive : (r : Refusal) → 0 < number r
number_positive BadCharacter = search rules
number_positive BadLength = search rules
number_positive DateOutsideCalendar = search rules
number_positive DatesOutOfOrder = search rules
number_positive AgeOutsideRange = search rules
number_positive UnknownKind = search rules
number_positive TermOutsideList = search rules
number_positive KindNotForAge = search rules
number_positive NoFactorForAge = search rules
number_positive PensionOutsideRange = search rules
number_positive BadRegister = search rules
number_positive RegisterFull = search rules
number_positive NumbersUsedUp = search rules
number_positive NotFound = search rules
number_positive CommutationOutsideRange = search rules
number_positive NotJoinable = search rules
number_positive TargetTooShort = search rules

pub number_some : (r : Refusal) → number r ≡ 0 → ⊥
number_some r e = let some : 0 < number r = number_positive r in omega arith

-- the refusals in the order of their numbers
listed : List Refusal
listed = BadCharacter ∷ BadLength ∷ DateOutsideCalendar ∷ DatesOutOfOrder ∷ AgeOutsideRange ∷ UnknownKind ∷ TermOutsideList ∷ KindNotForAge ∷ NoFactorForAge ∷ PensionOutsideRange ∷ BadRegister ∷ RegisterFull ∷ NumbersUsedUp ∷ NotFound ∷ CommutationOutsideRange ∷ NotJoinable ∷ TargetTooShort ∷ []

numbered : ℕ → Refusal
numbered n = get_or listed (n - 1) BadCharacter

number_of_numbered : (r : Refusal) → numbered (number r) ≡ r
unfolding numbered listed
number_of_numbered BadCharacter = refl
number_of_numbered BadLength = refl
number_of_numbered DateOutsideCalendar = refl
number_of_numbered DatesOutOfOrder = refl
number_of_numbered AgeOutsideRange = refl
number_of_numbered UnknownKind = refl
number_of_numbered TermOutsideList = refl
number_of_numbered KindNotForAge = refl
number_of_numbered NoFactorForAge = refl
number_of_numbered PensionOutsideRange = refl
number_of_numbered BadRegister = refl
number_of_numbered RegisterFull = refl
number_of_numbered NumbersUsedUp = refl
number_of_numbered NotFound = refl
number_of_numbered CommutationOutsideRange = refl
number_of_numbered NotJoinable = refl
number_of_numbered TargetTooShort = refl

pub number_apart : (r s : Refusal) → number r ≡ number s → r ≡ s
number_apart r s e =
    let back : numbered (number r) ≡ numbered (number s) = rw e in
    rw (← number_of_numbered r, back, number_of_numbered s)

-- an answer is given where the number is 0
pub given : {A : Type 0} (r : Result A Refusal) → is_ok r ≡ nat_eq (refusal_number r) 0
given (Ok a) = refl
given (Err r) = sym (ne_eqb (number r) 0 (number_some r))

-- Refusals 1 to 10 ("Refusals from the input" of document 01): ten conditions in its order, of which the lowest that
-- holds is the refusal. Conditions on a pension hold of a case where they hold of some pension. Assumes nothing.
use Rattle.std.specs.Prelude.{ℕ, ◌+◌, Bool, cond, not, ◌&&◌, ◌||◌, List, [], ◌∷◌, ◌++◌, leb, ltb, eqb, length}
use Rattle.calendar.specs.Calendar.{in_calendar, earlier, months}
use Rattle.calendar.specs.Sums.{sum_of}
use Rattle.calendar.specs.Tests.{any, within, lowest}
use Rattle.factors.specs.declared.effective.FactorTerms.{FactorTerms}
use Rattle.split.specs.declared.case.Head.{Head}
use Rattle.split.specs.declared.case.Pension.{Pension}
use Rattle.split.specs.Frame.{bad_character}
use Rattle.split.specs.Case.{head_of, pensions_of, case_length, allowance_used_length}

-- "Age is months from birth to commencement"
unfoldable pub age_of : Head → ℕ
age_of h = months h.birth h.commencement

-- 2. "Length is not 70, 114, 158 or 202, or n disagrees with it": not that of the 1 to 4 pensions that n counts; "78, 122, 166
-- and 210 join those" (request [2]), with the field behind as many pensions
unfoldable pub bad_length : ℕ → ℕ → Bool
bad_length characters n =
    not (within 1 4 n && (eqb characters (case_length n) || eqb characters (case_length n + allowance_used_length)))

-- conditions 1 and 2 of a line, in their order
abbrev pub line_conditions : List ℕ → List Bool
line_conditions s = bad_character s ∷ bad_length (length s) (head_of s).count ∷ []

-- the refusal of a line of which no case can be read
unfoldable pub line_refusal : List ℕ → ℕ
line_refusal s = lowest 1 (line_conditions s)

-- 3. "A date is not in the calendar": of the head, and of a pension
unfoldable pub undated_head : Head → Bool
undated_head h = not (in_calendar h.birth) || not (in_calendar h.commencement)

unfoldable pub undated : Pension → Bool
undated p = not (in_calendar p.service.start) || not (in_calendar p.service.end)

-- 4. "Not birth < start ≤ end ≤ commencement"
unfoldable pub disordered : Head → Pension → Bool
disordered h p =
    not (earlier h.birth p.service.start) ||
    (earlier p.service.end p.service.start || earlier h.commencement p.service.end)

-- 5. "Age outside 216 to 1,199 months"
unfoldable pub bad_age : ℕ → Bool
bad_age age = not (within 216 1199 age)

-- 6. "Unknown kind"
unfoldable pub unknown_kind : Pension → Bool
unknown_kind p = not (within 1 3 p.kind)

-- 7. "A factor, PI or flag outside its list above"
-- "F1 is 0 (look it up) or 500 to 4,000"
unfoldable pub listed_f1 : FactorTerms → Bool
listed_f1 t = eqb t.f1 0 || within 500 4000 t.f1

-- "F2, F3, PI are 0"
unfoldable pub no_increase : FactorTerms → Bool
no_increase t = eqb t.f2 0 && (eqb t.f3 0 && eqb t.increase 0)

-- "F2 500 to 4,000; F3 1 to 1,000; PI 1 to 10,000"
unfoldable pub listed_increase : FactorTerms → Bool
listed_increase t = within 500 4000 t.f2 && (within 1 1000 t.f3 && within 1 10000 t.increase)

-- kind 1, kind 2, kind 3, with the lift flag 0 or 1, and 0 for kind 3
unfoldable pub unlisted : Pension → Bool
unlisted p =
    cond (eqb p.kind 1) (not (leb p.lift 1 && (listed_f1 p.terms && no_increase p.terms)))
    (cond (eqb p.kind 2) (not (leb p.lift 1 && (listed_f1 p.terms && listed_increase p.terms)))
    (not (eqb p.lift 0 && (eqb p.terms.f1 0 && no_increase p.terms))))

-- 8. "Kind 2 at 660 months or more, or kind 3 below 660"
unfoldable pub wrong_age : ℕ → Pension → Bool
wrong_age age p = eqb p.kind 2 && leb 660 age || eqb p.kind 3 && ltb age 660

-- 9. "Kind 1 or 2 with F1 0, and age outside 636 to 875"
unfoldable pub no_factor : ℕ → Pension → Bool
no_factor age p = (eqb p.kind 1 || eqb p.kind 2) && (eqb p.terms.f1 0 && not (within 636 875 age))

-- 10. "A stated pension is 0, or the stated pensions total above 50,000,000"
unfoldable pub unstated : Pension → Bool
unstated p = eqb p.stated.0 0

abbrev pub total_stated : List Pension → ℕ
total_stated ps = sum_of (λ p. p.stated.0) ps

-- conditions 3 to 10 of a case, in their order, told whether the total is too high
unfoldable pub conditions_with : Bool → Head → List Pension → List Bool
conditions_with high h ps =
    (undated_head h || any undated ps) ∷
    any (disordered h) ps ∷
    bad_age (age_of h) ∷
    any unknown_kind ps ∷
    any unlisted ps ∷
    any (wrong_age (age_of h)) ps ∷
    any (no_factor (age_of h)) ps ∷
    (any unstated ps || high) ∷ []

abbrev pub conditions : Head → List Pension → List Bool
conditions h ps = conditions_with (ltb 50000000 (total_stated ps)) h ps

-- the refusal of a line
unfoldable pub refusal_of : List ℕ → ℕ
refusal_of s = lowest 1 (line_conditions s ++ conditions (head_of s) (pensions_of s))

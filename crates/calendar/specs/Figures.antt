-- Figures of the Gregorian calendar: the length of each month, and 29 February where the rule for leap years turns. The pension office
-- has that of 1900 too, as refusal 3 of a line. And figures of complete months (request [6] of document 02), beside 31 January to 28
-- February 2023, which is among the office's. Assumes nothing.
use Rattle.std.specs.Prelude.{List, [], ◌∷◌}
use Rattle.calendar.specs.Calendar.{date, month_length, date_fault, months, sixtieth_birthday}
use Rattle.calendar.specs.Figure.{Figure, figure}

unfoldable pub figures : List Figure
figures =
    figure (month_length 2023 1) 31 ∷
    figure (month_length 2023 2) 28 ∷
    figure (month_length 2023 3) 31 ∷
    figure (month_length 2023 4) 30 ∷
    figure (month_length 2023 5) 31 ∷
    figure (month_length 2023 6) 30 ∷
    figure (month_length 2023 7) 31 ∷
    figure (month_length 2023 8) 31 ∷
    figure (month_length 2023 9) 30 ∷
    figure (month_length 2023 10) 31 ∷
    figure (month_length 2023 11) 30 ∷
    figure (month_length 2023 12) 31 ∷
    figure (date_fault 1900 2 29) 4 ∷
    figure (date_fault 2000 2 29) 0 ∷
    figure (date_fault 2023 2 29) 4 ∷
    figure (date_fault 2024 2 29) 0 ∷
    figure (date_fault 2100 2 29) 4 ∷
    -- February ends on its 28th in a common year, on its 29th in a leap year
    figure (months (date 2023 1 31) (date 2023 2 27)) 0 ∷
    figure (months (date 2028 1 31) (date 2028 2 28)) 0 ∷
    figure (months (date 2028 1 31) (date 2028 2 29)) 1 ∷
    figure (months (date 2028 2 29) (date 2029 2 28)) 12 ∷
    -- that the earlier date is a last day does not count
    figure (months (date 2023 2 28) (date 2023 3 27)) 0 ∷
    figure (months (date 2023 2 28) (date 2023 3 28)) 1 ∷
    -- a 60th birthday on 29 February 2100, which that year does not have
    figure (months (date 2100 1 31) (sixtieth_birthday (date 2040 2 29))) 1 ∷
    figure (months (date 2100 2 1) (sixtieth_birthday (date 2040 2 29))) 0 ∷
    -- and those past the calendar: 2200 is a common year, 2204 a leap year
    figure (months (date 2199 12 31) (sixtieth_birthday (date 2140 2 28))) 2 ∷
    figure (months (date 2199 12 31) (sixtieth_birthday (date 2144 2 28))) 49 ∷ []

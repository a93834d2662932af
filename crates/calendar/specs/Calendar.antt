-- Dates of document 01: in the calendar ("Case line"), their order ("Refusals from the input", 4) and months from one to another
-- ("Months and factors", with the complete months of request [6] of document 02); and, by request [4], which test of the calendar a
-- date breaks first. Every definition is total: it has a value at any triple of numbers, whether or not that is a date. Assumes
-- nothing.
use Rattle.std.specs.Prelude.{ℕ, ◌+◌, ◌-◌, ◌*◌, ◌%◌, ◌≤◌, ◌<◌, ◌≡◌, ◌↔◌, ◌⊎◌, Bool, cond, not, ◌&&◌, ◌||◌, List, [], ◌∷◌, Option, None, Some, leb, ltb, eqb}
use Rattle.calendar.specs.declared.Date.{Date}
use Rattle.calendar.specs.declared.DateFault.{DateFault}
use Rattle.calendar.specs.declared.DateFault.TheVariants.{Day, Month, Year, MonthLength}
use Rattle.calendar.specs.Tests.{within, lowest}

-- the date of these three numbers
abbrev pub date : ℕ → ℕ → ℕ → Date
date y m d = record { year = y; month = m; day = d }

-- The four tests of a date, in the order that tells its fault (request [4]): "the day against 1 to 31, then month, year and the
-- month's own length"
unfoldable pub day_in : ℕ → Bool
day_in d = within 1 31 d

unfoldable pub month_in : ℕ → Bool
month_in m = within 1 12 m

unfoldable pub year_in : ℕ → Bool
year_in y = within 1900 2199 y

-- the Gregorian rule: every fourth year, less the hundreds that are no multiple of 400
unfoldable pub leap : ℕ → Bool
leap y = eqb (y % 4) 0 && (not (eqb (y % 100) 0) || eqb (y % 400) 0)

-- April, June, September and November
unfoldable pub thirty : ℕ → Bool
thirty m = eqb m 4 || eqb m 6 || (eqb m 9 || eqb m 11)

-- how many days the month m of the year y has; none where there is no such month
unfoldable pub month_length : ℕ → ℕ → ℕ
month_length y m = cond (month_in m) (cond (eqb m 2) (cond (leap y) 29 28) (cond (thirty m) 30 31)) 0

unfoldable pub length_in : ℕ → ℕ → ℕ → Bool
length_in y m d = leb d (month_length y m)

-- which of the four are broken, in that order
unfoldable pub broken_tests : ℕ → ℕ → ℕ → List Bool
broken_tests y m d = not (day_in d) ∷ not (month_in m) ∷ not (year_in y) ∷ not (length_in y m d) ∷ []

-- "by 1 to 4 which of these a date breaks first, or 0 for none", for any year, month and day
unfoldable pub date_fault : ℕ → ℕ → ℕ → ℕ
date_fault y m d = lowest 1 (broken_tests y m d)

-- the number of a fault: 1 the day, 2 the month, 3 the year, 4 the month's own length, and 0 for none
abbrev pub fault_number : Option DateFault → ℕ
fault_number None = 0
fault_number (Some Day) = 1
fault_number (Some Month) = 2
fault_number (Some Year) = 3
fault_number (Some MonthLength) = 4

-- "Gregorian, 1900 to 2199": no test is broken. That these are the dates whose fault is 0 is a law (`fault_none`).
unfoldable pub in_calendar : Date → Bool
in_calendar d =
    year_in d.year && (month_in d.month && (day_in d.day && length_in d.year d.month d.day))

-- What is claimed of every answer f (theorem `fault_claim`), with the bounds of day, month and year written out: f is 0 exactly for
-- the dates of the calendar, and any other f tells the first bound that is broken, those before it being kept.
abbrev pub Inside : ℕ → ℕ → ℕ → Type 0
Inside low high x = (low ≤ x) × (x ≤ high)

abbrev pub Outside : ℕ → ℕ → ℕ → Type 0
Outside low high x = Inside low high x → ⊥

-- "Same dates pass as before"
abbrev pub OfCalendar : ℕ → ℕ → ℕ → Type 0
OfCalendar y m d = Inside 1900 2199 y × Inside 1 12 m × Inside 1 31 d × (d ≤ month_length y m)

abbrev pub FirstBroken : ℕ → ℕ → ℕ → ℕ → Type 0
FirstBroken y m d f =
    ((f ≡ 1) × Outside 1 31 d)
    ⊎ ((f ≡ 2) × Inside 1 31 d × Outside 1 12 m)
    ⊎ ((f ≡ 3) × Inside 1 31 d × Inside 1 12 m × Outside 1900 2199 y)
    ⊎ ((f ≡ 4) × Inside 1 31 d × Inside 1 12 m × Inside 1900 2199 y × (month_length y m < d))

pub record FaultClaim (y m d f : ℕ) : Type 0 where
  pub none : (f ≡ 0) ↔ OfCalendar y m d
  pub some : (f ≡ 0) ⊎ FirstBroken y m d f

-- A day that its month has in every year, as 1901, of a year of the calendar: any date of the calendar but a 29 February. For the
-- code; nothing here has to be believed.
unfoldable pub common_date : Date → Bool
common_date d = year_in d.year && within 1 (month_length 1901 d.month) d.day

-- before by a first number, or, where that is equal, by the rest
abbrev pub before_by : ℕ → ℕ → Bool → Bool
before_by x y rest = ltb x y || eqb x y && rest

-- a < b: by year, then month, then day
unfoldable pub earlier : Date → Date → Bool
earlier a b =
    before_by a.year b.year (before_by a.month b.month (ltb a.day b.day))

-- 12 times the year plus the month, by which months are counted
unfoldable pub month_index : Date → ℕ
month_index d = 12 * d.year + d.month

-- "the last day of its month": the day is at or past the month's length, so that a 60th birthday on 29 February of a common year
-- counts too
unfoldable pub last_day : Date → Bool
last_day d = leb (month_length d.year d.month) d.day

-- the last month from a to b is not complete: b's day is below a's, and b is not the last day of its month (request [6])
unfoldable pub incomplete : Date → Date → Bool
incomplete a b = ltb b.day a.day && not (last_day b)

-- "Months from a to b": 12 times the difference of years plus the difference of months, less one if the last is not
-- complete; 0 where that would be below 0, which dates of the calendar give only where b is before a
unfoldable pub months : Date → Date → ℕ
months a b = month_index b - month_index a - cond (incomplete a b) 1 0

-- What is claimed of every count n of months from a to b (theorem `months_claim`), with "complete" written out: before the last day of
-- b's month it is document 01's own count, from that day on the whole difference; so it is never below document 01's and at most
-- one above.

-- "12 times the difference of years plus the difference of months"
abbrev pub month_difference : Date → Date → ℕ
month_difference a b = (12 * b.year + b.month) - (12 * a.year + a.month)

-- document 01's own count: "less one if b's day is below a's"
abbrev pub months_by_day : Date → Date → ℕ
months_by_day a b = month_difference a b - cond (ltb b.day a.day) 1 0

pub record MonthsClaim (a b : Date) (n : ℕ) : Type 0 where
  pub before_last_day : b.day < month_length b.year b.month → n ≡ months_by_day a b
  pub on_last_day : month_length b.year b.month ≤ b.day → n ≡ month_difference a b
  pub never_below : months_by_day a b ≤ n
  pub one_above : n ≤ months_by_day a b + 1

-- the 60th birthday: birth day and month, birth year + 60, in the calendar or not
unfoldable pub sixtieth_birthday : Date → Date
sixtieth_birthday d = date (d.year + 60) d.month d.day

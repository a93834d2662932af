-- The claim about every date fault: 0 exactly for the dates of the calendar, and else the first of the four bounds that is broken.
-- And the claim about every count of months: document 01's own before the last day of the later month, the whole difference from
-- that day on, and so to every 60th birthday on 29 February. Assumes nothing.
use Prim.Native.Nat.{ℕ, ◌+◌, ◌≤◌, ◌<◌}
use mathlib.Core.Path.{◌≡◌, refl, sym, ◌∙◌}
use mathlib.Core.Bool.{Bool, true, false}
use mathlib.Core.Logic.{◌⊎◌, inl, inr, ⊎_elim}
use native.Mathlib.Nat.{sub-zero}
use native.Mathlib.Decide.{dec_lt}
use native.Mathlib.Omega.{arith}
use lib.Dec.{ltb}
use borrow.Author.Tests.{leb-false, eq-eqb, le-leb, lt-leb}
use Rattle.calendar.specs.declared.Date.{Date}
use Rattle.calendar.specs.Calendar.{date, month_length, day_in, month_in, year_in, length_in, broken_tests, date_fault, OfCalendar, FirstBroken, FaultClaim, month_index, last_day, incomplete, months, month_difference, months_by_day, MonthsClaim, sixtieth_birthday}
use Rattle.calendar.proofs.CalendarLaws.{at_most_one, february_length, day_test, month_test, year_test, calendar_range, fault_none}

first_broken : (y m d : ℕ) → (date_fault y m d ≡ 0) ⊎ FirstBroken y m d (date_fault y m d)
unfolding length_in broken_tests date_fault
first_broken y m d = go (day_in d) (month_in m) (year_in y) (length_in y m d) refl refl refl refl
  where
    go : (a b c l : Bool) → day_in d ≡ a → month_in m ≡ b → year_in y ≡ c → length_in y m d ≡ l
        → (date_fault y m d ≡ 0) ⊎ FirstBroken y m d (date_fault y m d)
    go false b c l p q r s = rw p (inr (inl (refl, (day_test d).1 p)))
    go true false c l p q r s = rw (p, q) (inr (inr (inl (refl, (day_test d).0 p, (month_test m).1 q))))
    go true true false l p q r s = rw (p, q, r) (inr (inr (inr (inl (refl, (day_test d).0 p, (month_test m).0 q, (year_test y).1 r)))))
    go true true true false p q r s =
        rw (p, q, r, s) (inr (inr (inr (inr (refl, (day_test d).0 p, (month_test m).0 q, (year_test y).0 r, leb-false d _ s)))))
    go true true true true p q r s = rw (p, q, r, s) (inl refl)

-- a date of the calendar breaks none
unbroken : (y m d f : ℕ) → OfCalendar y m d → FirstBroken y m d f → ⊥
unbroken y m d f o =
    ⊎_elim (λ b. b.1 o.2) (⊎_elim (λ b. b.2 o.1) (⊎_elim (λ b. b.3 o.0) (λ b. omega (arith, b.4, o.3))))

pub fault_claim : (y m d : ℕ) → FaultClaim y m d (date_fault y m d)
fault_claim y m d = record {
  none = (
    λ e. calendar_range (date y m d) (sym (fault_none y m d) ∙ eq-eqb _ 0 e),
    λ o. ⊎_elim (λ e. e) (λ b. absurd (unbroken y m d _ o b)) (first_broken y m d),
  );
  some = first_broken y m d;
}

-- the count before the last day of the later month, and from it on
abbrev ByLastDay : Date → Date → Type 0
ByLastDay a b =
    (b.day < month_length b.year b.month → months a b ≡ months_by_day a b)
    × (month_length b.year b.month ≤ b.day → months a b ≡ month_difference a b)

by_last_day : (a b : Date) → ByLastDay a b
unfolding month_index last_day incomplete months
by_last_day a b = go (ltb b.day a.day) refl
  where
    go : (below : Bool) → ltb b.day a.day ≡ below → ByLastDay a b
    go true e = (λ h. simp (e, lt-leb _ b.day h), λ h. simp (e, le-leb _ b.day h, sub-zero))
    go false e = (λ h. simp e, λ h. simp (e, sub-zero))

-- document 01's count is neither above it nor more than one below
near : (a b : Date) → (months_by_day a b ≤ months a b) × (months a b ≤ months_by_day a b + 1)
near a b =
    elim (dec_lt b.day (month_length b.year b.month)) [
      | yes h ↦ omega (arith, (by_last_day a b).0 h)
      | no h ↦ omega (arith, (by_last_day a b).1 (omega arith), at_most_one (ltb b.day a.day))
    ]

pub months_claim : (a b : Date) → MonthsClaim a b (months a b)
months_claim a b = record {
  before_last_day = (by_last_day a b).0;
  on_last_day = (by_last_day a b).1;
  never_below = (near a b).0;
  one_above = (near a b).1;
}

-- "A 60th birthday on 29 February of a common year counts as the last day of its month", as it does in a leap year: the months to it
-- are the whole difference
pub leap_birthday : (year : ℕ) (at : Date) → months at (sixtieth_birthday (date year 2 29)) ≡ month_difference at (date (year + 60) 2 29)
unfolding sixtieth_birthday
leap_birthday year at = (by_last_day at (date (year + 60) 2 29)).1 (february_length (year + 60))

-- Laws of dates: what the crates above cite instead of the definitions' text, and what the calendar's code does instead of
-- their tests. `earlier` is a strict order, by year, month and day, and that of one number made of a date; the bounds of a date of
-- the calendar; a month has the days that it has in every year, or a 29 February, and none after one that is at or past its length;
-- the fault is 0 exactly in the calendar; months to the 60th birthday never pass a bound that the age gives, and it is not past
-- while the age is below 720 months. Assumes nothing.
use mathlib.Core.Path.{◌≡◌, refl, sym, ◌∙◌}
use mathlib.Core.Bool.{Bool, true, false, cond, not, ◌&&◌, ◌||◌, not-not, or-true, and-false, true≢false, false≢true}
use mathlib.Core.Logic.{◌⊎◌, inl, inr, ⊎_elim}
use Prim.Native.Nat.{ℕ, ◌+◌, ◌-◌, ◌*◌, ◌≤◌, ◌<◌}
use native.Mathlib.Nat.{sub-zero, le_of_lt, mul-le-mul_right}
use native.Mathlib.Decide.{dec_lt}
use native.Mathlib.Omega.{arith}
use lib.Dec.{leb, ltb, eqb}
use borrow.Author.Tests.{ltb-true, eqb-true, leb-true, lt-ltb, le-ltb, le-leb, lt-leb, eq-eqb, ne_eqb}
use Rattle.std.specs.Prelude.{Option, None, Some, is_some}
use Rattle.calendar.specs.declared.Date.{Date}
use Rattle.calendar.specs.declared.DateFault.{DateFault}
use Rattle.calendar.specs.declared.DateFault.TheVariants.{Day, Month, Year, MonthLength}
use Rattle.calendar.specs.Tests.{within}
use Rattle.calendar.proofs.TestsLaws.{and_left, and_right, not_true_false, by_test, within_bounds, lowest-any}
use Rattle.calendar.specs.Calendar.{date, leap, thirty, month_length, day_in, month_in, year_in, length_in, broken_tests, date_fault, fault_number, in_calendar, Inside, Outside, OfCalendar, common_date, before_by, earlier, month_index, incomplete, months, sixtieth_birthday}

-- what `before_by` says
by_cases : (x y : ℕ) (s : Bool) → before_by x y s ≡ true → (x < y) ⊎ ((x ≡ y) × (s ≡ true))
by_cases x y s h = go (ltb x y) (eqb x y) refl refl h
  where
    go : (a b : Bool) → ltb x y ≡ a → eqb x y ≡ b → (a || b && s) ≡ true → (x < y) ⊎ ((x ≡ y) × (s ≡ true))
    go true b p q e = inl (ltb-true x y p)
    go false true p q e = inr (eqb-true x y q, e)
    go false false p q e = absurd (false≢true e)

by_first : (x y : ℕ) (s : Bool) → x < y → before_by x y s ≡ true
by_first x y s h = simp (lt-ltb x y h)

by_rest : (x y : ℕ) (s : Bool) → x ≡ y → s ≡ true → before_by x y s ≡ true
by_rest x y s h t = simp (le-ltb x y (omega arith), eq-eqb x y h, t)

by_not : (x y : ℕ) (s : Bool) → (y < x) ⊎ ((x ≡ y) × (s ≡ false)) → before_by x y s ≡ false
by_not x y s =
    ⊎_elim (λ h. simp (le-ltb x y (omega arith), ne_eqb x y (λ e. omega arith)))
    (λ h. simp (le-ltb x y (omega (arith, h.0)), eq-eqb x y h.0, h.1))

-- a date is before another, or is not, by the first of year, month and day that differs
pub earlier_before : (a b : Date)
    → (a.year < b.year) ⊎ ((a.year ≡ b.year) × ((a.month < b.month) ⊎ ((a.month ≡ b.month) × (a.day < b.day))))
    → earlier a b ≡ true
unfolding earlier
earlier_before a b =
    ⊎_elim (by_first a.year b.year _)
    (λ y. by_rest a.year b.year _ y.0
    (⊎_elim (by_first a.month b.month _)
    (λ m. by_rest a.month b.month _ m.0 (lt-ltb a.day b.day m.1)) y.1))

pub earlier_not_before : (a b : Date)
    → (b.year < a.year) ⊎ ((a.year ≡ b.year) × ((b.month < a.month) ⊎ ((a.month ≡ b.month) × (b.day ≤ a.day))))
    → earlier a b ≡ false
unfolding earlier
earlier_not_before a b h =
    by_not a.year b.year _
    (⊎_elim inl
    (λ y. inr (y.0, by_not a.month b.month _ (⊎_elim inl (λ m. inr (m.0, le-ltb a.day b.day m.1)) y.1))) h)

-- an order by a first number and then by a transitive rest is transitive
by_trans : (x y z : ℕ) (s t u : Bool) → (s ≡ true → t ≡ true → u ≡ true)
    → before_by x y s ≡ true → before_by y z t ≡ true → before_by x z u ≡ true
by_trans x y z s t u rest p q =
    ⊎_elim
    (λ a. ⊎_elim (λ b. by_first x z u (omega arith)) (λ b. by_first x z u (omega arith)) (by_cases y z t q))
    (λ a. ⊎_elim (λ b. by_first x z u (omega arith)) (λ b. by_rest x z u (omega arith) (rest a.1 b.1)) (by_cases y z t q))
    (by_cases x y s p)

by_self : (x : ℕ) (s : Bool) → before_by x x s ≡ s
by_self x s = simp (le-ltb x x (omega arith), eq-eqb x x refl)

ltb_trans : (x y z : ℕ) → ltb x y ≡ true → ltb y z ≡ true → ltb x z ≡ true
ltb_trans x y z p q = lt-ltb x z (omega (arith, ltb-true x y p, ltb-true y z q))

pub earlier_trans : (a b d : Date) → earlier a b ≡ true → earlier b d ≡ true → earlier a d ≡ true
unfolding earlier
earlier_trans a b d =
    by_trans a.year b.year d.year _ _ _
    (by_trans a.month b.month d.month _ _ _ (ltb_trans a.day b.day d.day))

pub earlier_irrefl : (a : Date) → earlier a a ≡ false
unfolding earlier
earlier_irrefl a = simp (by_self, le-ltb a.day a.day (omega arith))

-- numbers whose last part is below k are ordered by their first parts and then by their last
by_scaled : (k x y s t : ℕ) → s < k → t < k → ltb (x * k + s) (y * k + t) ≡ before_by x y (ltb s t)
by_scaled k x y s t p q =
    elim (dec_lt x y) [
      | yes h ↦ lt-ltb (x * k + s) (y * k + t) (omega (arith, mul-le-mul_right k h)) ∙ sym (by_first x y (ltb s t) h)
      | no h ↦
          elim (dec_lt y x) [
            | yes g ↦ le-ltb (x * k + s) (y * k + t) (omega (arith, mul-le-mul_right k g)) ∙ simp (le-ltb x y (omega arith), ne_eqb x y (omega arith))
            | no g ↦
                let e : x ≡ y = omega arith in
                rw (e, by_self y (ltb s t)) (by_last (y * k) s t)
          ]
    ]
  where
    by_last : (n s t : ℕ) → ltb (n + s) (n + t) ≡ ltb s t
    by_last n s t =
        elim (dec_lt s t) [
          | yes h ↦ lt-ltb (n + s) (n + t) (omega arith) ∙ sym (lt-ltb s t h)
          | no h ↦ le-ltb (n + s) (n + t) (omega arith) ∙ sym (le-ltb s t (omega arith))
        ]

pub earlier_numbers : (a b : Date) → a.month < 256 → a.day < 256 → b.month < 256 → b.day < 256
    → ltb (a.year * 65536 + (a.month * 256 + a.day)) (b.year * 65536 + (b.month * 256 + b.day)) ≡ earlier a b
unfolding earlier
earlier_numbers a b p q r s =
    by_scaled 65536 a.year b.year _ _ (omega arith) (omega arith)
    ∙ rw (by_scaled 256 a.month b.month a.day b.day q s)

-- a month that is not complete takes off one, and no more
pub at_most_one : (t : Bool) → cond t 1 0 ≤ 1
at_most_one true = omega arith
at_most_one false = omega arith

-- a month count is at least the difference of the month indices less one
months_at_least : (a b : Date) → month_index b ≤ month_index a + months a b + 1
unfolding months
months_at_least a b = omega (arith, at_most_one (incomplete a b))

-- whole where the day is reached
months_whole : (a b : Date) → a.day ≤ b.day → months a b ≡ month_index b - month_index a
unfolding months incomplete
months_whole a b h = simp (le-ltb b.day a.day h, sub-zero)

-- a test tells whether a number is in a range
abbrev Decides : Bool → ℕ → ℕ → ℕ → Type 0
Decides t low high x = (t ≡ true → Inside low high x) × (t ≡ false → Outside low high x)

outside : (low high x : ℕ) → within low high x ≡ false → Outside low high x
outside low high x e i = true≢false (simp (le-leb low x i.0, le-leb x high i.1) at e)

by_bounds : (low high x : ℕ) → Decides (within low high x) low high x
by_bounds low high x = (within_bounds low high x, outside low high x)

pub day_test : (d : ℕ) → Decides (day_in d) 1 31 d
unfolding day_in
day_test d = by_bounds 1 31 d

pub month_test : (m : ℕ) → Decides (month_in m) 1 12 m
unfolding month_in
month_test m = by_bounds 1 12 m

pub year_test : (y : ℕ) → Decides (year_in y) 1900 2199 y
unfolding year_in
year_test y = by_bounds 1900 2199 y

-- the bounds of a date of the calendar
pub calendar_range : (d : Date) → in_calendar d ≡ true → OfCalendar d.year d.month d.day
unfolding in_calendar length_in
calendar_range d h =
    let rest = and_right (year_in d.year) _ h in
    let days = and_right (month_in d.month) _ rest in (
      (year_test d.year).0 (and_left (year_in d.year) _ h),
      (month_test d.month).0 (and_left (month_in d.month) _ rest),
      (day_test d.day).0 (and_left (day_in d.day) _ days),
      leb-true _ _ (and_right (day_in d.day) _ days),
    )

-- every year has the days of 1901, but for 29 February
abbrev ByYear : ℕ → ℕ → ℕ → Type 0
ByYear m usual days = (usual ≤ 31) × ((days ≡ usual) ⊎ ((m ≡ 2) × (usual ≡ 28) × (days ≡ 29)))

length_by_year : (y m : ℕ) → ByYear m (month_length 1901 m) (month_length y m)
unfolding month_length leap
length_by_year y m = go (month_in m) (eqb m 2) (leap y) (thirty m) refl
  where
    go : (i b l t : Bool) → eqb m 2 ≡ b
        → ByYear m (cond i (cond b 28 (cond t 30 31)) 0) (cond i (cond b (cond l 29 28) (cond t 30 31)) 0)
    go false b l t e = (omega arith, inl refl)
    go true false l true e = (omega arith, inl refl)
    go true false l false e = (omega arith, inl refl)
    go true true false t e = (omega arith, inl refl)
    go true true true t e = (omega arith, inr (eqb-true m 2 e, refl, refl))

-- February has at most 29
pub february_length : (y : ℕ) → month_length y 2 ≤ 29
unfolding month_in month_length
february_length y = go (leap y)
  where
    go : (l : Bool) → cond l 29 28 ≤ 29
    go true = omega arith
    go false = omega arith

-- a day of a month is one of the 31, and the month one of the twelve
day_of_month : (m d : ℕ) → 1 ≤ d → d ≤ month_length 1901 m → day_in d ≡ true
unfolding day_in
day_of_month m d low high = go (day_in d) refl
  where
    go : (b : Bool) → day_in d ≡ b → day_in d ≡ true
    go true e = e
    go false e = absurd (outside _ _ d e (omega (arith, (length_by_year 1901 m).0)))

month_of_day : (m d : ℕ) → 1 ≤ d → d ≤ month_length 1901 m → month_in m ≡ true
unfolding month_length
month_of_day m d low =
    by_test (λ (days : ℕ). d ≤ days → month_in m ≡ true) (month_in m) _ 0 (λ e h. e) (λ e h. absurd (omega arith))

-- a month has a day that it has in every year, 29 February by a leap year, and no other
pub usual_day : (y m d : ℕ) → d ≤ month_length 1901 m → length_in y m d ≡ true
unfolding length_in
usual_day y m d usual = le-leb d _ (⊎_elim (λ e. omega arith) (λ e. omega arith) (length_by_year y m).1)

pub leap_day : (y m d : ℕ) → (eqb m 2 && eqb d 29) ≡ true → leap y ≡ length_in y m d
unfolding month_in month_length length_in
leap_day y m d h =
    rw (eqb-true m 2 (and_left (eqb m 2) _ h), eqb-true d 29 (and_right (eqb m 2) _ h)) (go (leap y))
  where
    go : (b : Bool) → b ≡ leb 29 (cond b 29 28)
    go true = refl
    go false = refl

pub no_day : (y m d : ℕ) → month_length 1901 m < d → (eqb m 2 && eqb d 29) ≡ false → length_in y m d ≡ false
unfolding length_in
no_day y m d past leap =
    not_true_false _ (λ h.
    let last = leb-true d _ h in
    ⊎_elim (λ e. omega arith)
    (λ e. true≢false (simp (eq-eqb m 2 e.0, eq-eqb d 29 (omega arith)) at leap))
    (length_by_year y m).1)

-- a month has no day after one that is at or past its length
pub day_after : (y m d : ℕ) → not (length_in y m (d + 1)) ≡ leb (month_length y m) d
unfolding length_in
day_after y m d = go (month_length y m)
  where
    go : (days : ℕ) → not (leb (d + 1) days) ≡ leb days d
    go days =
        elim (dec_lt d days) [
          | yes h ↦ simp (le-leb (d + 1) days (omega arith), lt-leb days d h)
          | no h ↦ simp (lt-leb (d + 1) days (omega arith), le-leb days d (omega arith))
        ]

-- a date that every year has is in the calendar
pub common_in : (d : Date) → common_date d ≡ true → in_calendar d ≡ true
unfolding common_date in_calendar
common_in d h =
    let days = within_bounds 1 _ d.day (and_right (year_in d.year) _ h) in
    simp (
      and_left (year_in d.year) _ h,
      month_of_day d.month d.day days.0 days.1,
      day_of_month d.month d.day days.0 days.1,
      usual_day d.year d.month d.day days.1,
    )

-- the fault is 0 exactly for the dates of the calendar
pub fault_none : (y m d : ℕ) → eqb (date_fault y m d) 0 ≡ in_calendar (date y m d)
unfolding broken_tests date_fault in_calendar
fault_none y m d = go (day_in d) (month_in m) (year_in y) (length_in y m d) refl refl refl refl
  where
    go : (a b c l : Bool) → day_in d ≡ a → month_in m ≡ b → year_in y ≡ c → length_in y m d ≡ l
        → eqb (date_fault y m d) 0 ≡ in_calendar (date y m d)
    go true true true true p q r s = rw (p, q, r, s)
    go false b c l p q r s = lowest-any 0 (broken_tests y m d) ∙ simp (p, or-true, and-false)
    go true false c l p q r s = lowest-any 0 (broken_tests y m d) ∙ simp (q, or-true, and-false)
    go true true false l p q r s = lowest-any 0 (broken_tests y m d) ∙ simp (r, or-true, and-false)
    go true true true false p q r s = lowest-any 0 (broken_tests y m d) ∙ simp (s, or-true, and-false)

-- and so the code's answer is None
pub no_fault : (fault : Option DateFault) (none : Bool) (y m d : ℕ) → fault_number fault ≡ date_fault y m d
    → is_some fault ≡ not none → none ≡ in_calendar (date y m d)
no_fault fault none y m d number e = rw (e, not-not) at (by_number fault) ∙ rw number (fault_none y m d)
  where
    by_number : (f : Option DateFault) → not (is_some f) ≡ eqb (fault_number f) 0
    by_number None = refl
    by_number (Some Day) = refl
    by_number (Some Month) = refl
    by_number (Some Year) = refl
    by_number (Some MonthLength) = refl

-- where the age is 660 to 719 months, there are 0 to 60 months to the 60th birthday
pub months_to_sixtieth : (birth at : Date) → 660 ≤ months birth at → months birth at < 720 → months at (sixtieth_birthday birth) ≤ 60
unfolding months month_index sixtieth_birthday
months_to_sixtieth birth at low high = omega arith

-- and the birthday has not passed, so that no difference of that count is cut off at 0
pub sixtieth_ahead : (birth at : Date) → in_calendar birth ≡ true → in_calendar at ≡ true → months birth at < 720
    → earlier (sixtieth_birthday birth) at ≡ false
unfolding earlier month_index sixtieth_birthday
sixtieth_ahead birth at p q high =
    let low = calendar_range birth p in
    let top = calendar_range at q in
    let near = months_at_least birth at in
    not_true_false _ (λ e.
    ⊎_elim {A = birth.year + 60 < at.year} (λ y. omega arith)
    (λ y.
    ⊎_elim {A = birth.month < at.month} (λ m. omega arith)
    (λ m. absurd (omega (arith, months_whole birth at (le_of_lt (ltb-true birth.day at.day m.1)))))
    (by_cases birth.month at.month _ y.1))
    (by_cases (birth.year + 60) at.year _ e))

-- The figures of the calendar hold, as one list. Assumes nothing.
use mathlib.Core.Path.{◌≡◌, refl}
use mathlib.Core.Bool.{true}
use Rattle.calendar.specs.Calendar.{day_in, month_in, year_in, leap, thirty, month_length, length_in, broken_tests, date_fault, month_index, last_day, incomplete, months, sixtieth_birthday}
use Rattle.calendar.specs.Figure.{hold}
use Rattle.calendar.specs.Figures.{figures}

pub calendar_figures_hold : hold figures ≡ true
unfolding day_in month_in year_in leap thirty month_length length_in broken_tests date_fault month_index last_day incomplete months sixtieth_birthday figures
calendar_figures_hold = refl

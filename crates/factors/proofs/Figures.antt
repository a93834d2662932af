-- The office's figures on months and on Table 1 hold, as one list. Assumes nothing.
use mathlib.Core.Path.{◌≡◌, refl}
use mathlib.Core.Bool.{true}
use Rattle.calendar.specs.Calendar.{month_in, leap, thirty, month_length, month_index, last_day, incomplete, months}
use Rattle.calendar.specs.Figure.{hold}
use Rattle.factors.specs.Commutation.{table1, straight_line, year_values}
use Rattle.factors.specs.Figures.{figures}

pub table_figures_hold : hold figures ≡ true
unfolding figures month_in leap thirty month_length month_index last_day incomplete months table1 straight_line year_values
table_figures_hold = refl

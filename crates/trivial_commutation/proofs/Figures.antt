-- The figures of trivial commutation hold, as one list: antt computes every row. Assumes nothing.
use mathlib.Core.Path.{◌≡◌, refl}
use mathlib.Core.Bool.{true}
use Rattle.calendar.specs.Figure.{hold}
use Rattle.trivial_commutation.specs.Tables.{small_pension_1987, small_pension_2006_and_2015}
use Rattle.trivial_commutation.specs.TrivialCommutation.{lump_sum, uses_table_1, uses_table_2, table_of, bad_age, bad_scheme, bad_pension, refused, trivial_commutation}
use Rattle.trivial_commutation.specs.Figures.{figures}

pub figures-hold : hold figures ≡ true
unfolding small_pension_1987 small_pension_2006_and_2015 lump_sum uses_table_1 uses_table_2 table_of bad_age bad_scheme bad_pension refused trivial_commutation figures
figures-hold = refl

-- The office's figures and those of the allowance hold, as one list: antt computes every row. Assumes nothing.
use mathlib.Core.Path.{◌≡◌, refl}
use mathlib.Core.Bool.{true}
use Rattle.calendar.specs.Calendar.{month_in, leap, thirty, month_length, earlier, month_index, last_day, incomplete, months, sixtieth_birthday}
use Rattle.calendar.specs.Figure.{hold}
use Rattle.factors.specs.Commutation.{table1, straight_line, year_values, commutation_factor}
use Rattle.factors.specs.EarlyPayment.{table_a, early_payment_factor, reduced_pension}
use Rattle.factors.specs.Effective.{lump_top, lump_bottom, effective_factor}
use Rattle.factors.specs.Figures.{figures as table_figures}
use Rattle.split.specs.Frame.{hex_value, digit_at, number_at, date_at, hex_character, hex_text}
use Rattle.split.specs.Case.{head_at, head_of, allowance_used_at}
use Rattle.split.specs.Refusal.{age_of}
use Rattle.split.specs.Benefits.{worked_pension, worked_terms, factor_of, limited_lump, quarter_lump, cap_of, benefit_of}
use Rattle.split.specs.Allowance.{allowance_of, allowed, after_lump}
use Rattle.split.specs.Limits.{price_of}
use Rattle.split.specs.Grant.{cheapest, most, turns, grant}
use Rattle.split.specs.Quote.{remaining_of, second_of, share_of, lumps_granted}
use Rattle.split.specs.Figures.{figures}

pub figures-hold : hold figures ≡ true
unfolding hex_value digit_at number_at date_at hex_character hex_text head_at head_of allowance_used_at month_in leap thirty month_length earlier month_index last_day incomplete months sixtieth_birthday table1 straight_line year_values commutation_factor table_a early_payment_factor reduced_pension lump_top lump_bottom effective_factor table_figures age_of worked_pension worked_terms factor_of limited_lump quarter_lump cap_of benefit_of allowance_of allowed after_lump price_of cheapest most turns grant remaining_of second_of share_of lumps_granted figures
figures-hold = refl

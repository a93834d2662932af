-- Lines as they are printed, which antt computes: the register's line of an example under number 1, with its newline. And a line of
-- fifteen figures that all differ: each stands at its own place, so that no other order of fields is agreed on. Assumes nothing.
use Prim.Native.Nat.{ℕ}
use mathlib.Core.List.{List, [], ◌∷◌}
use mathlib.Core.Path.{◌≡◌, refl}
use Rattle.calendar.specs.Calendar.{day_in, month_in, year_in, length_in, in_calendar, leap, thirty, month_length, earlier, month_index, last_day, incomplete, months, sixtieth_birthday}
use Rattle.factors.specs.Commutation.{table1, straight_line, year_values, commutation_factor}
use Rattle.factors.specs.EarlyPayment.{table_a, early_payment_factor, reduced_pension}
use Rattle.factors.specs.Effective.{lump_top, lump_bottom, effective_factor}
use Rattle.split.specs.declared.answers.Share.{Share}
use Rattle.split.specs.Frame.{hex_value, is_no_digit, bad_character, digit_at, number_at, date_at, hex_character, hex_text}
use Rattle.split.specs.Case.{head_at, head_of, service_at, terms_at, pension_at, pensions_at, allowance_used_at}
use Rattle.split.specs.Refusal.{age_of, bad_length, undated_head, undated, disordered, bad_age, unknown_kind, listed_f1, no_increase, listed_increase, unlisted, wrong_age, no_factor, unstated, conditions_with, refusal_of}
use Rattle.split.specs.Benefits.{worked_pension, worked_terms, factor_of, limited_lump, quarter_lump, cap_of, benefit_of}
use Rattle.split.specs.Allowance.{allowance_of, allowed, after_lump}
use Rattle.split.specs.Limits.{price_of}
use Rattle.split.specs.Grant.{cheapest, most, turns, grant}
use Rattle.split.specs.Quote.{remaining_of, second_of, share_of, lumps_granted, granted_quote, refused_quote, quote_of}
use Rattle.split.specs.Letters.{letters}
use Rattle.register.specs.Line.{figures_of, figures_for, figures_text, line_text, line_for}

-- the first line that `quotes` is fed
abbrev example_line : List ℕ
example_line = letters "0000000107B2060F07E707010101002DC6C007C9060107E70701000000000000000000"

pub example_printed : line_for 1 example_line
    ≡ letters "000000010000000100F1BACB00F1BACB0024426C00000000000000000000000000000000000000000000000000000000000000000000000000000000\n"
unfolding hex_value is_no_digit bad_character digit_at number_at date_at hex_character hex_text head_at head_of service_at terms_at pension_at pensions_at allowance_used_at age_of bad_length undated_head undated disordered bad_age unknown_kind listed_f1 no_increase listed_increase unlisted wrong_age no_factor unstated conditions_with refusal_of day_in month_in year_in length_in in_calendar leap thirty month_length earlier month_index last_day incomplete months sixtieth_birthday table1 straight_line year_values commutation_factor table_a early_payment_factor reduced_pension lump_top lump_bottom effective_factor worked_pension worked_terms factor_of limited_lump quarter_lump cap_of benefit_of allowance_of allowed after_lump price_of cheapest most turns grant remaining_of second_of share_of lumps_granted granted_quote refused_quote quote_of figures_of figures_for figures_text line_text line_for
example_printed = refl

abbrev share : ℕ → ℕ → ℕ → Share
share lump remaining second = record { lump = record { 0 = lump }; remaining = record { 0 = remaining }; second = record { 0 = second } }

pub places_printed : line_text (record {
  number = 1;
  member = 2;
  total = 3;
  shares = share 4 5 6 ∷ share 7 8 9 ∷ share 10 11 12 ∷ share 13 14 15 ∷ [];
})
    ≡ letters "0000000100000002000000030000000400000005000000060000000700000008000000090000000A0000000B0000000C0000000D0000000E0000000F\n"
unfolding hex_character hex_text figures_text line_text
places_printed = refl

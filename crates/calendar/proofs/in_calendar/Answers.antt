-- `in_calendar`: a date of every year, or one without a fault.
use mathlib.Core.Path.{sym, ◌∙◌}
use Rattle.calendar.proofs.CalendarLaws.{common_in, no_fault}
use Rattle.calendar.proofs.in_calendar.Goals as goal

pub returns-then-is_common_date : goal.returns-then-is_common_date
returns-then-is_common_date c = sym (common_in _ (sym c.is_common_date.ensures ∙ c.if-is_common_date.true))

pub returns : goal.returns
returns c = no_fault _ _ _ _ _ c.date_fault.ensures c.is_none.ensures

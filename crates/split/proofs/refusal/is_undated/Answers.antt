-- `is_undated` tests both dates, by what its calls promise.
use mathlib.Core.Bool.{not, ◌||◌}
use Rattle.split.proofs.refusal.is_undated.Goals as goal

pub returns : goal.returns
returns c = λ i. not (c.in_calendar.ensures i) || not (c.in_calendar-2.ensures i)

-- `date` is the definition `date_at`, part by part.
use Rattle.calendar.specs.Calendar.{date}
use Rattle.split.specs.Frame.{date_at}
use Rattle.split.proofs.BytesLaws.{made_of, ◌then◌}
use Rattle.split.proofs.frame.Cursor.date.Goals as goal

pub returns : goal.returns
unfolding date_at
returns c =
    made_of date c.short-year.ensures then c.byte-month.ensures then c.byte-day.ensures

-- `number` is a number of 8 digits: two of 4, joined.
use Rattle.split.proofs.BytesLaws.{number_joined}
use Rattle.split.proofs.frame.Cursor.number.Goals as goal

pub returns : goal.returns
returns c =
    number_joined c.short-high.ensures c.short-low.ensures

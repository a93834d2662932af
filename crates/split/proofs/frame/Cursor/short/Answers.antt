-- `short` is a number of 4 digits: two of 2, joined.
use Rattle.split.proofs.BytesLaws.{number_joined}
use Rattle.split.proofs.frame.Cursor.short.Goals as goal

pub returns : goal.returns
returns c =
    number_joined c.byte-high.ensures c.byte-low.ensures

-- `lines_before` is the definition `lines_before`: 0 where the first has no first number, and else the difference.
use Rattle.joining.proofs.PartsLaws.{before_none, before_some}
use Rattle.joining.proofs.lines_before.Goals as goal

pub returns-then-low_first-eq0 : goal.returns-then-low_first-eq0
returns-then-low_first-eq0 c =
    before_none _ _ _ _ c.first_number-low_first.ensures c.first_number-high_first.ensures c.if-low_first-eq0.true

pub returns : goal.returns
returns c =
    before_some _ _ _ _ c.first_number-low_first.ensures c.first_number-high_first.ensures c.if-low_first-eq0.false

-- `cap` is the definition `cap_of`, by whether the second cap applies.
use Rattle.split.specs.Benefits.{cap_of}
use Rattle.split.proofs.limits.Exchange.cap.Goals as goal

pub returns-then-limited : goal.returns-then-limited
unfolding cap_of
returns-then-limited c = simp (c.if-limited.true, c.min-lower.ensures, c.quarter_lump-quarter.ensures.0)

pub returns-else-limited : goal.returns-else-limited
unfolding cap_of
returns-else-limited c = simp (c.if-limited.false, c.quarter_lump-quarter.ensures.0)

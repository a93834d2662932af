-- `is_limited` is the definition `limited_lump`, by what its calls promise.
use Rattle.split.specs.Benefits.{limited_lump}
use Rattle.split.proofs.limits.is_limited.Goals as goal

pub returns : goal.returns
unfolding limited_lump
returns c = simp (c.is_of-first.ensures, c.is_of-second.ensures, c.months_between-months.ensures)

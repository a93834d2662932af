-- `increase_of` is the definition `increase_of`, by the kind.
use Rattle.split.specs.Working.{increase_of}
use Rattle.split.proofs.limits.increase_of.Goals as goal

pub returns-then-is_of : goal.returns-then-is_of
unfolding increase_of
returns-then-is_of c = simp (← c.is_of.ensures, c.if-is_of.true)

pub returns-else-is_of : goal.returns-else-is_of
unfolding increase_of
returns-else-is_of c = simp (← c.is_of.ensures, c.if-is_of.false)

-- `is_wrong_number` is the definition `wrong_number`, by whether there is a last line: the number behind one is not 0.
use Rattle.register.specs.Check.{wrong_number}
use Rattle.register.proofs.CheckLoop.{following_some}
use Rattle.register.proofs.checking.is_wrong_number.Goals as goal

pub returns-in-Some : goal.returns-in-Some
unfolding wrong_number
returns-in-Some c = simp (c.in-Some.is, c.following_number.ensures, following_some c.in-Some.last)

pub returns-in-None : goal.returns-in-None
unfolding wrong_number
returns-in-None c = simp c.in-None.is

-- `number_given` is the definition's choice, by whether there is a last line: the number behind one is not 0.
use Rattle.register.proofs.CheckLoop.{following_some}
use Rattle.register.proofs.filing.Filing.number_given.Goals as goal

pub returns-in-Some : goal.returns-in-Some
returns-in-Some c = simp (c.in-Some.is, c.following_number.ensures, following_some c.in-Some.number)

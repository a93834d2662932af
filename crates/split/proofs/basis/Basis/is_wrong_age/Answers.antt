-- `is_wrong_age` is the definition `wrong_age`, test by test.
use Rattle.split.specs.Refusal.{wrong_age}
use Rattle.split.proofs.basis.Basis.is_wrong_age.Goals as goal

pub returns : goal.returns
unfolding wrong_age
returns c = simp (c.is_of-second.ensures, c.is_of-third.ensures)

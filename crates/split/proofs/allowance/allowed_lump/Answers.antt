-- `allowed_lump` is the definition `allowed`, where the allowance applies and where not.
use Rattle.std.proofs.Common.{refl}
use Rattle.split.specs.Allowance.{allowed}
use Rattle.split.proofs.allowance.allowed_lump.Goals as goal

pub returns-in-Some : goal.returns-in-Some
unfolding allowed
returns-in-Some c = rw c.in-Some.is c.min.ensures

pub returns-in-None : goal.returns-in-None
unfolding allowed
returns-in-None c = rw c.in-None.is refl

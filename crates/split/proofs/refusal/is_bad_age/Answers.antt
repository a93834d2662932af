-- `is_bad_age` is the definition `bad_age`, by what its calls promise.
use mathlib.Core.Bool.{not}
use mathlib.Core.Path.{ap}
use Rattle.split.specs.Refusal.{bad_age}
use Rattle.split.proofs.refusal.is_bad_age.Goals as goal

pub returns : goal.returns
unfolding bad_age
returns c = ap not c.is_within.ensures

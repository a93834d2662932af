-- `following_number` is the definition `following`, as it stands.
use mathlib.Core.Path.{refl}
use Rattle.register.specs.Check.{following}
use Rattle.register.proofs.checking.following_number.Goals as goal

pub returns : goal.returns
unfolding following
returns c = refl

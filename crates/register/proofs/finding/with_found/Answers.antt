-- `with_found` is the definition `with_found`.
use mathlib.Core.Path.{refl}
use Rattle.register.specs.Find.{with_found}
use Rattle.register.proofs.finding.with_found.Goals as goal

pub returns : goal.returns
unfolding with_found
returns c = refl

-- `is_unstated` is the definition `unstated`, test by test.
use mathlib.Core.Path.{refl}
use Rattle.split.specs.Refusal.{unstated}
use Rattle.split.proofs.refusal.is_unstated.Goals as goal

pub returns : goal.returns
unfolding unstated
returns c = refl

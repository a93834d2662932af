-- `is_disordered` is the definition `disordered`, by what its calls promise.
use mathlib.Core.Bool.{not, ◌||◌}
use Rattle.split.specs.Refusal.{disordered}
use Rattle.split.proofs.basis.Basis.is_disordered.Goals as goal

pub returns : goal.returns
unfolding disordered
returns c =
    λ i. not (c.is_earlier-born.ensures i) || (c.is_earlier-ended.ensures i || c.is_earlier-commenced.ensures i)

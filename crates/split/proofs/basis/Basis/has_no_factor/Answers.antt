-- `has_no_factor` is the definition `no_factor`, by what its calls promise.
use Rattle.split.specs.Refusal.{no_factor}
use Rattle.split.proofs.basis.Basis.has_no_factor.Goals as goal

pub returns : goal.returns
unfolding no_factor
returns c = simp (c.is_of-first.ensures, c.is_of-second.ensures, c.is_within.ensures)

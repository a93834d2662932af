-- `Basis::of`: each part is what its call gives, so the ghost fields hold.
use mathlib.Core.Path.{◌∙◌, ap}
use Rattle.factors.specs.Commutation.{table1}
use Rattle.split.specs.Refusal.{age_of}
use Rattle.split.proofs.basis.Basis.of.Goals as goal

pub paid_thousandths-paid-requires : goal.paid_thousandths-paid-requires
unfolding age_of
paid_thousandths-paid-requires c = c.months_between-age.ensures

pub invariant_of-result-clause-aged : goal.invariant_of-result-clause-aged
unfolding age_of
invariant_of-result-clause-aged c = c.months_between-age.ensures

pub invariant_of-result-clause-looked_up : goal.invariant_of-result-clause-looked_up
unfolding age_of
invariant_of-result-clause-looked_up c = c.table_factor-found.ensures ∙ ap table1 c.months_between-age.ensures

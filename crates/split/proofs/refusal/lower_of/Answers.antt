-- `lower_of` is the definition `lower` of the numbers, case by case: that of a refusal is above 0.
use mathlib.Core.Path.{sym, ◌∙◌}
use native.Mathlib.Omega.{arith}
use Rattle.refusals.proofs.NumbersLaws.{number_positive}
use Rattle.split.proofs.ConditionsLaws.{lower_none, none_lower, lower_both}
use Rattle.split.proofs.refusal.lower_of.Goals as goal

pub returns-in_default : goal.returns-in_default
returns-in_default c = rw c.in_default.is (sym (lower_none _))

pub returns-in_default-a : goal.returns-in_default-a
returns-in_default-a c = rw (c.in-Err.is, c.in_default-a.is) (sym (none_lower _))

pub returns-then-number : goal.returns-then-number
returns-then-number c =
    rw (c.in-Err.is, c.in-Err-a.is)
    (sym (lower_both _ _ (number_positive c.in-Err-a.first) (number_positive c.in-Err.second) ∙ omega arith))

pub returns-else-number : goal.returns-else-number
returns-else-number c =
    rw (c.in-Err.is, c.in-Err-a.is)
    (sym (lower_both _ _ (number_positive c.in-Err-a.first) (number_positive c.in-Err.second) ∙ omega arith))

-- `is_plain_service`: where it says so, both dates are in the calendar and all are in order.
use mathlib.Core.Path.{sym, ◌∙◌}
use Rattle.split.proofs.ConditionsLaws.{service_plain}
use Rattle.split.proofs.basis.Basis.is_plain_service.Goals as goal

pub returns : goal.returns
returns c e =
    service_plain _ _ _ (sym c.is_common_date.ensures ∙ c.if-not-is_common_date.false)
    (sym c.is_common_date-2.ensures ∙ c.if-not-is_common_date-2.false) c.is_disordered.ensures e

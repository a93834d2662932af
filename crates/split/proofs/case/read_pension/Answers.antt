-- `read_pension` is the definition `pension_at`, field by field.
use Rattle.split.specs.Case.{pension_at}
use Rattle.split.proofs.BytesLaws.{made_of, ◌then◌}
use Rattle.split.proofs.case.read_pension.Goals as goal

pub returns : goal.returns
unfolding pension_at
returns c =
    made_of (λ k p s l t. record { kind = k; stated = record { 0 = p }; service = s; lift = l; terms = t })
    c.byte-kind.ensures
    then c.number-stated.ensures then c.read_service-service.ensures then c.byte-lift.ensures then c.read_terms-terms.ensures

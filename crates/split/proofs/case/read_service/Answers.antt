-- `read_service` is the definition `service_at`, date by date.
use Rattle.split.specs.Case.{service_at}
use Rattle.split.proofs.BytesLaws.{made_of, ◌then◌}
use Rattle.split.proofs.case.read_service.Goals as goal

pub returns : goal.returns
unfolding service_at
returns c =
    made_of (λ s e. record { start = s; end = e }) c.date-start.ensures then c.date-end.ensures

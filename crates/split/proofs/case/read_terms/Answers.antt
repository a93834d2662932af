-- `read_terms` is the definition `terms_at`, field by field.
use Rattle.split.specs.Case.{terms_at}
use Rattle.split.proofs.BytesLaws.{made_of, ◌then◌}
use Rattle.split.proofs.case.read_terms.Goals as goal

pub returns : goal.returns
unfolding terms_at
returns c =
    made_of (λ a b d e. record { f1 = a; f2 = b; f3 = d; increase = e }) c.short-f1.ensures
    then c.short-f2.ensures then c.short-f3.ensures then c.short-increase.ensures

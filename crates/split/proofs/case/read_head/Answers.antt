-- `read_head` is the definition `head_at`, field by field.
use Rattle.split.specs.Case.{head_at}
use Rattle.split.proofs.BytesLaws.{made_of, ◌then◌}
use Rattle.split.proofs.case.read_head.Goals as goal

pub returns : goal.returns
unfolding head_at
returns c =
    made_of (λ m b d n. record { member = m; birth = b; commencement = d; count = n }) c.number-member.ensures
    then c.date-birth.ensures then c.date-commencement.ensures then c.byte-count.ensures

-- A member's newest line is the definition `found_member_for_c`: the line as `found_for_c` gives it, and the count.
use Rattle.pension.specs.Interface.{found_for_c, found_member_for_c}
use Rattle.pension.proofs.conversions.PensionFoundMemberFromFoundMember.from.Goals as goal

pub returns : goal.returns
unfolding found_for_c found_member_for_c
returns c = rw c.from-line.ensures

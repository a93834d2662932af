-- A line found is the definition `found_for_c`, by whether it is refused.
use Rattle.pension.specs.Interface.{found_for_c}
use Rattle.pension.proofs.conversions.PensionFoundFromResultExtentRefusal.from.Goals as goal

pub returns-in-Ok : goal.returns-in-Ok
unfolding found_for_c
returns-in-Ok c = simp c.in-Ok.is

pub returns-in-Err : goal.returns-in-Err
unfolding found_for_c
returns-in-Err c = simp (c.number.ensures, c.in-Err.is)

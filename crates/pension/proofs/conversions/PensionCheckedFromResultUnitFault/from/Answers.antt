-- What the check found is the definition `checked_for_c`, by whether anything is bad.
use Rattle.pension.specs.Interface.{checked_for_c}
use Rattle.pension.proofs.conversions.PensionCheckedFromResultUnitFault.from.Goals as goal

pub returns-in-Ok : goal.returns-in-Ok
unfolding checked_for_c
returns-in-Ok c = simp c.in-Ok.is

pub returns-in-Err : goal.returns-in-Err
unfolding checked_for_c
returns-in-Err c = simp (c.number.ensures, c.from.ensures, c.in-Err.is)
